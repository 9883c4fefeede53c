pub mod Signature
pub mod Environment
pub mod Refused
pub mod Refusing
pub mod Prefixes
pub mod StartTags
pub mod TreeCounts

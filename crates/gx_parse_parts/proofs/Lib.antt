pub mod Chains
pub mod Lists
pub mod Phrases
pub mod Repeated

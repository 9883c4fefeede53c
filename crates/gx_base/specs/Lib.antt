pub mod Text
pub mod Name
pub mod Code
pub mod WhiteSpace
pub mod NameCharacters
pub mod Stored
pub mod Stacked

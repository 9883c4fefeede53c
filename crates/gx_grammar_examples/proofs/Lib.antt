pub mod Tokens
pub mod Worth
pub mod Steps
pub mod Direct

pub mod Calls
pub mod ComputedPhrases
pub mod Ended
pub mod Expressions
pub mod Steps

pub mod TypeNames
pub mod Steps

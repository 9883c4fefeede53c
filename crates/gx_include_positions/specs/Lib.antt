pub mod Names
pub mod Passing
pub mod Positions
pub mod Step
pub mod Test

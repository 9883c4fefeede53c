pub mod Uses
pub mod Reaching
pub mod Using
pub mod Searching

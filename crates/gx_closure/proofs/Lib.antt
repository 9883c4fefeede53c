pub mod Growing
pub mod Closures

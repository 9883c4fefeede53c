pub mod Entries
pub mod Rows
pub mod Near
pub mod Hops

pub mod Decided
pub mod EqualTypes
pub mod KnownNames
pub mod Lists
pub mod Marks
pub mod MarksTake
pub mod Passing
pub mod SetReads

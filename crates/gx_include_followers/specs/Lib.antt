pub mod Behind
pub mod NumberSet
pub mod NumberSetOrder
pub mod Rope
pub mod Rows

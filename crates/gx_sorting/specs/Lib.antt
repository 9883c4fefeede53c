pub mod ValueOrder
pub mod KeyComparison
pub mod Sorting
pub mod Tuples
pub mod Laws

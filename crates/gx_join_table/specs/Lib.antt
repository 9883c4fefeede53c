pub mod Joining
pub mod RowNumbers
pub mod KeyIndex
pub mod TableView
pub mod Laws

pub mod PlainTree
pub mod TreeCode
pub mod TreeView
pub mod TreeParts
pub mod Erasure
pub mod StringValue
pub mod Binding
pub mod OwnNames

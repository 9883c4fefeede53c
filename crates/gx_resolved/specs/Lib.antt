pub mod NestedMap
pub mod NestedBindings
pub mod ResolvedTree
pub mod ResolvedCode
pub mod ResolvedView
pub mod ResolvedParts

pub mod Collapsing
pub mod Texts
pub mod IntegerTypes
pub mod SameValues
pub mod Words
pub mod PrintedForms
pub mod ReadValues
pub mod CollapsedForms

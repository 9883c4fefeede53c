pub mod Asked
pub mod Derived
pub mod DerivedTypes

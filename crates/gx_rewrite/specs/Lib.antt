pub mod Rewriting
pub mod Shapes

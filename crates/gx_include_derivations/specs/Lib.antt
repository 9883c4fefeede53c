pub mod Asked
pub mod Derivations

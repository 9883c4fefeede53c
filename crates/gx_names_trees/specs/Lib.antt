pub mod Calls
pub mod TreeRefusals
pub mod TreeResolution
pub mod Resolving

mod ParameterLemmas
mod SettledLemmas
pub mod StaticCodes

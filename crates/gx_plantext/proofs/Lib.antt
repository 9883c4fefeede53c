pub mod TermLemmas
pub mod PartLemmas
pub mod LiteralLemmas

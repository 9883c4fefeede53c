pub mod CharacterLemmas
pub mod ScopeLemmas

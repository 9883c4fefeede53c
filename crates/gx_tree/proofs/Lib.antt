pub mod TreesLemmas
mod ErasureLemmas
mod StringValueLemmas

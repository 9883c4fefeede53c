pub mod AscendingLemmas
pub mod NumberLemmas
pub mod IndexLemmas
pub mod TableLemmas
pub mod Comparing
pub mod PublicLaws

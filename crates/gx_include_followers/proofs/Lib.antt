pub mod BehindLemmas
pub mod Booleans
pub mod NumberSetLemmas
pub mod RowLemmas

pub mod Alphabet
pub mod ItemIndex
pub mod Letters
pub mod Trials
pub mod WellFormed

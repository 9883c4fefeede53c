pub mod Words
pub mod UntypedTexts
pub mod DocumentTrees
pub mod ReadLemmas
pub mod Roots

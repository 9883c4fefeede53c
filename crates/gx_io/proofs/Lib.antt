mod FilesLemmas
pub mod Growth
mod KnownLemmas

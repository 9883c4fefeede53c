pub mod RefusalLemmas
pub mod ScopeLemmas
pub mod StartTagLemmas
pub mod CountLemmas
mod NameLemmas

pub mod TextLemmas
pub mod StackLemmas

pub mod FullTyping
pub mod CompiledTyping
pub mod CarriedTyping

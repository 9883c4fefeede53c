pub mod ContentLemmas
pub mod ItemLemmas
pub mod DepthLemmas
pub mod FrontLemmas
pub mod LaterLemmas
pub mod RefusalLemmas

pub mod Reaching
pub mod NormalForms
pub mod Rewritten
pub mod Forms
pub mod OrderLemmas
pub mod JoinLemmas
pub mod LoopLemmas
pub mod ChoiceLemmas

pub mod GatheringLemmas
pub mod UsesLemmas
pub mod ReachedFunctions
pub mod SettledFunctions
pub mod GlobalTypes
pub mod CallableFunctions

pub mod Earliest
pub mod TypeNames
pub mod Numberings
pub mod Digits
pub mod Placed
pub mod GlobalsBy
pub mod TypesAndGroups
pub mod ParticleSteps

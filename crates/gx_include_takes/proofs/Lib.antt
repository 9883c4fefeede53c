pub mod KnownSteps
pub mod PlaceSets
pub mod Symbols
pub mod Targets
pub mod WordSets

mod Spaces
mod TypeTokens
mod TypeSorted
mod Verdicts
mod Phrases
mod WordTests
mod StepPhrases
mod PieceSteps
mod Builds
mod Holding
mod Trees
pub mod TypesRead
pub mod Sizes
pub mod Judged
pub mod PrintedTokens
pub mod PrintedNames
pub mod PrintedItems
pub mod PrintedPieces
pub mod PrintedTrees
pub mod PrintedTakes
pub mod PrintedKnown
pub mod PrintedTypes

pub mod GapSteps

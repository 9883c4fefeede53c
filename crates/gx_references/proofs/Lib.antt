mod Passing
mod Steps
mod CircleLemmas
mod Tables
mod SearchSteps
mod Endless
mod PublicLaws
mod Ways
pub mod ReachSteps

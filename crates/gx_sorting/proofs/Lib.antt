pub mod Comparisons
pub mod Stable
pub mod Members
pub mod Numbers
pub mod PublicLaws

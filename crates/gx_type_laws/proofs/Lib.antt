pub mod Kept
pub mod Items
pub mod Positions
pub mod PublicLaws

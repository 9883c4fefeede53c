pub mod Attributes
pub mod Restriction
pub mod Restrictions
pub mod SoundRestriction
pub mod Laws

pub mod Digits
pub mod Places
pub mod PrintedPlaces
pub mod Forms
pub mod DecimalForms
pub mod ReadBack
pub mod Division

pub mod Indications
pub mod Markup
pub mod Names
pub mod Numbers
pub mod Reading

mod Readings
pub mod OneText
pub mod SomeText

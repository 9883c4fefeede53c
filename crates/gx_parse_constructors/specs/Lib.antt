pub mod DirectReading
pub mod TextReading

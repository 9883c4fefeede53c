pub mod Making
pub mod Made
pub mod Depths
pub mod Parts

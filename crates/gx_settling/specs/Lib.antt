pub mod Uses
pub mod Gathering
pub mod Reaching
pub mod Laws

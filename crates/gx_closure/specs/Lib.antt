pub mod Closure
pub mod Laws

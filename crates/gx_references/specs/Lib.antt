pub mod References
pub mod Circles
pub mod Known
pub mod Search
pub mod PlainReferences
pub mod Reach
pub mod Laws
pub mod Numbers

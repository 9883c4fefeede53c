pub mod WhiteSpace
pub mod Value
pub mod Admission
pub mod ValueSpace

pub mod Number
pub mod Halves
pub mod Arithmetic
pub mod Operands
pub mod Lexical
pub mod Printed
pub mod Laws

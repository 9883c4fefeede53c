pub mod Automaton
pub mod Bits
pub mod Features
pub mod Following
pub mod Transitions
pub mod Tried

pub mod Guards
pub mod Rules
pub mod Normal

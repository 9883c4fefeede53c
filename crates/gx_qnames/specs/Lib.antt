pub mod Words
pub mod Lexical
pub mod Scope
pub mod ScopeView
pub mod Builtins
pub mod BuiltinView

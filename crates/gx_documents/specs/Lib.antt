pub mod Bindings
pub mod Documents
pub mod BindingView
pub mod Reading
pub mod Requests
pub mod Laws

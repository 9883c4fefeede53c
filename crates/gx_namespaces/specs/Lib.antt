pub mod BindingIndex

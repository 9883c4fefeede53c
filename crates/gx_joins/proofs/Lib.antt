pub mod EqualKeys
pub mod RightItems
pub mod Pairs

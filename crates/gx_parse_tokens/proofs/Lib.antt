pub mod EqualTexts
pub mod Finding
pub mod MarkupScans
pub mod NameScans
pub mod NameTables
pub mod NumberScans
pub mod ReferenceScans

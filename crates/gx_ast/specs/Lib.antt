pub mod SyntaxTree
pub mod SyntaxCode
pub mod SyntaxView
pub mod SyntaxParts

pub mod PrologParts

pub mod Alphabets
pub mod AskedShapes
pub mod Columns
pub mod FormedLetters
pub mod Listed
pub mod NumberTable
pub mod Stand

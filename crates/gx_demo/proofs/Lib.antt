mod Ranges
mod Numerals

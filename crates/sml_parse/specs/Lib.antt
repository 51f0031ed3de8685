pub mod Parsed
pub mod Parses

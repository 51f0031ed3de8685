pub mod Names
pub mod ProjectFile
pub mod Reading
pub mod Refused

pub mod Reading
pub mod Halting
pub mod Leb128
pub mod Answers

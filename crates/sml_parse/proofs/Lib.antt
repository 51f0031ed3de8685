pub mod Parsed
pub mod Lowest
pub mod Meaning
pub mod Grammar

pub mod Numbering
pub mod Scoping
pub mod Naming

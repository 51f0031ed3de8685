pub mod Locations
pub mod Operands

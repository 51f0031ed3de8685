pub mod Turns
pub mod Homes

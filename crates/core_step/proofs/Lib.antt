pub mod Starting
pub mod Calls

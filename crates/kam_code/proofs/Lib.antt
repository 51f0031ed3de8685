pub mod Growth
pub mod Holding
pub mod Packed
pub mod Regions
pub mod Runs
pub mod Turns

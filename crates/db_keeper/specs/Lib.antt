pub mod DatabaseMachine
pub mod Keeping
pub mod Shown

pub mod Heights
pub mod Lacks

pub mod Scans
pub mod Meaning
pub mod Fronts
pub mod Commands
pub mod Told

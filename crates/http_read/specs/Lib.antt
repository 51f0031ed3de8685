pub mod Cuts
pub mod Fields
pub mod Form
pub mod Head
pub mod Messages
pub mod Parts
pub mod Reader

pub mod Classes
pub mod Solving
pub mod Joining
pub mod Asking
pub mod Searching
pub mod Kept

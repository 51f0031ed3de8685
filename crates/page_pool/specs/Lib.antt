pub mod PageWords
pub mod Holding
pub mod Lone
pub mod Kept
pub mod Views
pub mod Sharing
pub mod Passes
pub mod Users

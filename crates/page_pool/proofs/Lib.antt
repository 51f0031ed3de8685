pub mod Times
pub mod Lone
pub mod Greatest
pub mod Fair
pub mod Shared
pub mod Passes
pub mod Users

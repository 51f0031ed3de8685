pub mod CacheMachine
pub mod SameCache
pub mod Shown
pub mod Codes
pub mod Apart

pub mod Sent
pub mod Ascending
pub mod Reading

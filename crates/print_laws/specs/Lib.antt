pub mod Spelled
pub mod Printing
pub mod Opened
pub mod SameTree
pub mod ReadBack
pub mod Bytes
pub mod Spelt

pub mod Lists
pub mod Read
pub mod Faults
pub mod Places
pub mod Order
pub mod Programs
pub mod Untyped
pub mod Exact

pub mod PerKey
pub mod Objects
pub mod Fitting
pub mod Books
pub mod Handles
pub mod Whole

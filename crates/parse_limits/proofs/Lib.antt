pub mod Folds
pub mod LackSearch

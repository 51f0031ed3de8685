pub mod Curried
pub mod Folds
pub mod Items

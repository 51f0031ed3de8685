pub mod Forms
pub mod Numberings
pub mod Items

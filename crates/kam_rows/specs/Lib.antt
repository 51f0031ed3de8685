pub mod Charged
pub mod Rows
pub mod Stacked

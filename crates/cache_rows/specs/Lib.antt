pub mod RowMachine
pub mod Indexed

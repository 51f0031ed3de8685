pub mod Marks
pub mod Tokens
pub mod Sorts
pub mod Moves
pub mod Takes
pub mod Tables
pub mod Machine
pub mod Reads

pub mod Exact
pub mod Soundness

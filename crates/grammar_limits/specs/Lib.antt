pub mod Grows
pub mod Laws
pub mod Owns
pub mod Nested
pub mod Finds

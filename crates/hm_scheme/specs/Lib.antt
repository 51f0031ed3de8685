pub mod Stops
pub mod Numbering
pub mod Bindings
pub mod Spellings
pub mod Making
pub mod TypeNames

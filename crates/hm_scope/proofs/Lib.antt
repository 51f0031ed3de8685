pub mod Leasts
pub mod Forms
pub mod Types
pub mod Patterns
pub mod Expressions
pub mod Names
pub mod Scopes
pub mod Declarations

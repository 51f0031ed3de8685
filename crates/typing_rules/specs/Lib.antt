pub mod Scope
pub mod StaticContexts
pub mod Typing
pub mod TypedPrograms

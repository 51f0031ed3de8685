pub mod Spelling
pub mod Tokens
pub mod InfixNames
pub mod Nodes
pub mod Grammar
pub mod Programs

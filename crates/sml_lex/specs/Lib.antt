pub mod Ends
pub mod Lexed
pub mod Coded
pub mod Modes
pub mod Moves

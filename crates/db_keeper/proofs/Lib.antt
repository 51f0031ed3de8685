pub mod Maps
pub mod Commands

pub mod Printed
pub mod PrintedParts

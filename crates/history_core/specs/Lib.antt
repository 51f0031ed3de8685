pub mod LegalHistory
pub mod ByObject
pub mod Calling
pub mod Book
pub mod Fitting
pub mod Codes
pub mod Core

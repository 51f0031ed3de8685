pub mod Lists
pub mod ErasedTypes
pub mod ErasedTerms

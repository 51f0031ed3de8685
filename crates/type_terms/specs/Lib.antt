pub mod TypeTerms

pub mod Data
pub mod Pickles
pub mod CacheCalls
pub mod Statements
pub mod DatabaseAnswers
pub mod StatementReading
pub mod CallAnswers

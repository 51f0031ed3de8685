pub mod Costs
pub mod Failing
pub mod EmptyVal

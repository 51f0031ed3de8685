pub mod Told
pub mod FaultPlan
pub mod Stored

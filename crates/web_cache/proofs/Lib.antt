pub mod Descriptions
pub mod Showing
pub mod Grouping
pub mod Naming
pub mod OneAnswer
pub mod StayApart

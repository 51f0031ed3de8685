pub mod OneStep
pub mod Trying
pub mod Loading
pub mod Judging
pub mod Alike
pub mod Differing

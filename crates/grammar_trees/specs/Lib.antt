pub mod Exact
pub mod Tells
pub mod Ends
pub mod Claims
pub mod DecClaims
pub mod FunClaims
pub mod Builds
pub mod Accepted

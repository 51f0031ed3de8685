pub mod Bytes
pub mod Lists
pub mod Options
pub mod Results
pub mod Tests

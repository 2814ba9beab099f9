pub mod Stops
pub mod Following
pub mod Ways
pub mod Telling
pub mod Fixed
pub mod Summing
pub mod Counting

pub mod Made
pub mod Levelled
pub mod Chained
pub mod Explained
pub mod Checking
pub mod Surveyed

pub mod Apart
pub mod Taking
pub mod Listing
pub mod Freeing
pub mod Events

pub mod Seen
pub mod Turns
pub mod Telling
pub mod Dues
pub mod Raising

pub mod Apart
pub mod Members
pub mod Own
pub mod Changed
pub mod Answered
pub mod Looked
pub mod Firsts

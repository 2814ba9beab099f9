pub mod Chain
pub mod Searched
pub mod Counted
pub mod Judging
pub mod Levelled
pub mod Certified
pub mod Given
pub mod Scripted

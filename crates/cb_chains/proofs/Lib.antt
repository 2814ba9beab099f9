pub mod Ways
pub mod Marking
pub mod Keeping
pub mod Writing

pub mod Kinds
pub mod Faults
pub mod Ending
pub mod Given

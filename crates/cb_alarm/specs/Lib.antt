pub mod Spelled
pub mod Skips
pub mod Faults
pub mod Lines
pub mod Quiet
pub mod Laws
pub mod Plain

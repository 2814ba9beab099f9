pub mod Codes
pub mod Coded
pub mod Problems
pub mod Parts
pub mod Matrix
pub mod Searched

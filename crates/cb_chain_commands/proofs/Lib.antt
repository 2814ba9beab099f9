pub mod Adding
pub mod Counting
pub mod Explainable
pub mod Finding
pub mod Levelling

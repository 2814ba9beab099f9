pub mod Sought
pub mod Chains
pub mod Marks

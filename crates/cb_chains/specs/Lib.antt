pub mod Trees
pub mod Kept
pub mod Names
pub mod Explained

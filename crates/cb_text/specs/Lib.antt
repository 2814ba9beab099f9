pub mod Names
pub mod Words
pub mod Lines
pub mod Decimals

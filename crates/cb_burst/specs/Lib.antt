pub mod Searched
pub mod Encoding

pub mod Lines
pub mod Format
pub mod Prefixes
pub mod Laws
pub mod LineForms
pub mod Ahead
pub mod Steps

pub mod Named
pub mod Explaining

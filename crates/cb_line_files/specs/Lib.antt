pub mod Topologies
pub mod Symptoms
pub mod Scripts
pub mod Steps

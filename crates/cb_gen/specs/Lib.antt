pub mod Model
pub mod Topology
pub mod Draws
pub mod Log
pub mod Writing

pub mod Windows
pub mod Results
pub mod Matrices
pub mod Choices
pub mod Findings
pub mod Events

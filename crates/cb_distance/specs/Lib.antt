pub mod Chosen
pub mod Close
pub mod Asked
pub mod Nearest

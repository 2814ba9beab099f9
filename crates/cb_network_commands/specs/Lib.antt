pub mod Written
pub mod Fitted
pub mod Rewinding

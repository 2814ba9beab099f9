pub mod Placed
pub mod Apart
pub mod Taking
pub mod Rows
pub mod Views

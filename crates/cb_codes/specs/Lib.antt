pub mod Codes
pub mod Holders
pub mod Groups
pub mod Marks
pub mod EachOnce
pub mod Grouped

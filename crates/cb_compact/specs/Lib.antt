pub mod Compact
pub mod Course
pub mod Cursors
pub mod Nth
pub mod Few

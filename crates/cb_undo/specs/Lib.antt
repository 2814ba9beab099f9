pub mod Undoable
pub mod Encoding
pub mod Kept
pub mod Made
pub mod Recorded
pub mod Undone

pub mod Ticks
pub mod OneRecord
pub mod OneSkip
pub mod QuietLines
pub mod Texts
pub mod FirstFaults
mod Reading

pub mod Trees
pub mod Listed
pub mod Made
pub mod Stops
pub mod Scripted

pub mod Made
pub mod Plain
pub mod Followed
pub mod Clauses

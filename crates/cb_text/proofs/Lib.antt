pub mod WordLemmas
pub mod Cuts
pub mod LineLemmas
pub mod LinesRead
pub mod Digits

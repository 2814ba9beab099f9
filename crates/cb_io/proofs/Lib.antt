pub mod Pairs
pub mod Reported
pub mod Memory
pub mod Host
pub mod Failures
pub mod HandLemmas
pub mod LineSearchLemmas
pub mod LineReadingLemmas

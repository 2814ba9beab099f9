pub mod Writing
pub mod FitsGiven
mod Moving
mod Rewound

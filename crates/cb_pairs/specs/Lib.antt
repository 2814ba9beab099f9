pub mod Guesses
pub mod Separation
pub mod Fits
pub mod Landmarks
pub mod Kept
pub mod Laws

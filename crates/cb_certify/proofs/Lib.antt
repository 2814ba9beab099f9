pub mod Named
pub mod Adding
pub mod Treed
pub mod Reduced
pub mod CappedFormats
pub mod Certified

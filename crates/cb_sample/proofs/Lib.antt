pub mod SampleTyped

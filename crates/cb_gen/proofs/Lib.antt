pub mod Going
pub mod Sites
pub mod ShortLines

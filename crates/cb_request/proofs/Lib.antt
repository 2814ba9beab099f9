pub mod NumberWords
pub mod NodesRead
mod CommandWords
pub mod WishWords

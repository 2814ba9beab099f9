pub mod Far
pub mod Setting
pub mod After
pub mod Others

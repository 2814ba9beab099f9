pub mod Numbers
pub mod NodeWords
pub mod Commands
pub mod Laws

pub mod Models
pub mod Edits
pub mod Laws

pub mod Givens
pub mod Legs
pub mod Loads
pub mod States
pub mod Points

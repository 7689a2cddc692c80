pub mod Integers
pub mod Eighths
pub mod Powers
pub mod Scalars
pub mod Turns

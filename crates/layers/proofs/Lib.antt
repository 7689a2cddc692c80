pub mod Counting
pub mod Padding

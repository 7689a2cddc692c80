pub mod Toggles
pub mod Words
pub mod Sizes
pub mod Walks

pub mod Conjugates
pub mod Layerings
pub mod Piles

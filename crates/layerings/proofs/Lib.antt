pub mod Conjugates
pub mod Adjoints
pub mod Holds
pub mod OpenLegs
pub mod Piles

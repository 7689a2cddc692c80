pub mod Counts
pub mod Holding
pub mod Truths
pub mod Toggles
pub mod Keeps
pub mod Fuses
pub mod Stays

pub mod Folds
pub mod States
pub mod Steps
pub mod Acts
pub mod Played
pub mod Opened
pub mod Whole

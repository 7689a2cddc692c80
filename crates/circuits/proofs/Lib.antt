pub mod Accepting
pub mod Inverses
pub mod Legs
pub mod Moves
pub mod Readings
pub mod Spelling

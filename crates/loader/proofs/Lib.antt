pub mod Givens
pub mod Taking
pub mod Legs
pub mod Items
pub mod Answers
pub mod Loops

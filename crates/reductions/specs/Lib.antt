pub mod Rules
pub mod Kept
pub mod Runs
pub mod Answers

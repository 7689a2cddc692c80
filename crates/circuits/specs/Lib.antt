pub mod Tokens
pub mod Lines
pub mod Naming
pub mod Reads
pub mod Gates
pub mod Circuits
pub mod Sources
pub mod Spelling

pub mod Questions
pub mod Lines

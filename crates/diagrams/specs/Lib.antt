pub mod Limits
pub mod Powers
pub mod Settings
pub mod Streams

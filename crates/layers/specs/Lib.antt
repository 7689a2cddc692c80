pub mod Adjoints
pub mod Holds
pub mod Settings

pub mod Amounts
pub mod Eighths
pub mod Scalars

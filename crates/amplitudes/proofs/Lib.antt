pub mod Exponents
pub mod Worked

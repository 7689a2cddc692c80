pub mod Tables
pub mod Scales

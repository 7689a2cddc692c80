pub mod Input
pub mod Tallies
pub mod Reports

pub mod Counts
pub mod Graphs
pub mod Rules
pub mod Sorts
pub mod Literal

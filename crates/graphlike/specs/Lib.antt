pub mod Shapes
pub mod Diagrams

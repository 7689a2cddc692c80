pub mod Shapes
pub mod Sounds
pub mod Edges
pub mod Scaling

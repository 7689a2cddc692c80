pub mod Finding
pub mod Complements
pub mod Pivots
pub mod Pairing
pub mod Removals

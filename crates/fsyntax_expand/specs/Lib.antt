pub mod Expansion
pub mod Flattening
pub mod Ranges

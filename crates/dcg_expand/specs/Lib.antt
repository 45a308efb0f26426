pub mod Expansion
pub mod Making
pub mod Ranges

pub mod Words
pub mod Heads
pub mod Properties
pub mod Parts
pub mod Readings
pub mod Written
pub mod Ranges

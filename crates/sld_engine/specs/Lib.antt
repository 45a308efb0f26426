pub mod Going
pub mod Running
pub mod Runs
pub mod Starts

pub mod Heads
pub mod Leads
pub mod Meets
pub mod Places
pub mod Reduces
pub mod Unifies
pub mod Unmet

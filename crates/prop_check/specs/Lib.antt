pub mod Belonging
pub mod Chains
pub mod Heads
pub mod OneOf
pub mod Places
pub mod Sets

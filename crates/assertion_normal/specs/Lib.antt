pub mod Properties
pub mod Settling
pub mod Troubles
pub mod Conditions
pub mod Normals
pub mod Ranges
pub mod Laws

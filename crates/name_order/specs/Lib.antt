pub mod Fixpoints
pub mod Relations
pub mod Tables
pub mod Held
pub mod Laws

pub mod Values
pub mod Wanted
pub mod Meeting
pub mod Relied
pub mod Laws

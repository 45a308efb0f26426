pub mod Keys
pub mod Selected
pub mod Lists
pub mod Laws

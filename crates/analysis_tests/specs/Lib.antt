pub mod Small
pub mod Bodies
pub mod Outlines

mod Lines
pub mod RangeLaws
pub mod RangeParts
mod Themselves

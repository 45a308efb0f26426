pub mod Parts
pub mod RangeLaws

mod Alternatives
mod Joining
mod Lines
mod RangeLaws
mod Themselves

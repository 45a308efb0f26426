pub mod Lines
pub mod RunText
pub mod Refusals
pub mod Report
pub mod ClauseTerms
pub mod TermLaws
pub mod Expansion
pub mod KeptLaws

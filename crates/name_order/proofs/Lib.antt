mod FixpointLaws
mod RelationLaws
mod MemberLaws
mod OrderLaws
mod TableLaws
mod LeafLoops
mod MakeLaws
mod Lists
mod BitLaws
mod BelowLaws
mod MemberTerms
mod TouchLaws
pub mod Gathering
mod SetLaws

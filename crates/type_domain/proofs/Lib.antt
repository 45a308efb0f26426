mod BitLaws
mod EachHas
mod Given
mod InLaws
mod LeafLists
mod LeqLaws
mod Lists
pub mod NameLoops
mod Orders
mod Parts
mod Stored
mod TermLeaves
mod Meeting
mod RowLaws

mod Ordered
mod NoFields
mod WrittenLaws
mod Rows
mod RangeLaws

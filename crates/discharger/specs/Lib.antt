pub mod ReliedOn
pub mod Laws
pub mod ClosedTables

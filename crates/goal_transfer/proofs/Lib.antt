pub mod Lengths
mod LowerValues
mod LowerGoals
mod LowerClauses
mod Stored
mod Unifiers
mod Rows
mod ExitRuns
mod Given
mod ClausesGiven
mod GoalRuns
mod BodyRanges
mod NameTests
mod Named
mod StoredExits
mod Effects
mod Narrowed

mod ArithmeticValues
mod ControlTable
pub mod GoalFolds
pub mod GoalInstances
pub mod Leaves
pub mod MembershipLaws
mod Persistence
mod ProgramParts
mod RangeLaws

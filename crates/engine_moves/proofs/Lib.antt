mod AnswerLaws
mod BuiltinTurns
mod BuiltinWork
mod CallLaws
mod ChoosingLaws
pub mod ClauseRanges
mod EnterLaws
mod ExitLaws
mod FailureLaws
mod GoingOn
mod HeapLaws
mod KindLaws
mod LinkLaws
mod LookingLaws
pub mod MadeTurns
mod NotesTaken
mod NotingLaws
mod SameLaws
mod TryLaws
mod TurnLaws

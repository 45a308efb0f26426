-- The text and the status of a run: of all of it, or up to the last answer that a limit allows.
use Rattle.std.specs.Prelude.{◌≡◌, ℕ, zero, suc, List, [], ◌∷◌, ◌++◌, flat_map, Option, Some, None, option_map, codes}
use Rattle.term_core.specs.declared.terms.Term.{Term}
use Rattle.prog_data.specs.declared.programs.Program.{Program}
use Rattle.prog_data.specs.declared.events.Event.{Event}
use Rattle.prog_data.specs.declared.events.Event.TheVariants.{Answer}
use Rattle.prog_data.specs.declared.events.Ending.{Ending}
use Rattle.machine_model.specs.Run.{Run}
use Rattle.run_report.specs.Lines.{line}
use Rattle.run_report.specs.RunText.{event_text, RunText, ending_status}
use Rattle.ciao_modules.specs.FileNames.{Word}

-- how many of n + 1 answers are still to come behind an event
abbrev pub answers_behind : Event → ℕ → ℕ
answers_behind (Answer query) n = n
answers_behind other n = suc n

-- the events up to the last of so many answers, where there are so many
abbrev pub up_to_answer : ℕ → List Event → Option (List Event)
up_to_answer zero events = Some []
up_to_answer (suc n) [] = None
up_to_answer (suc n) (event ∷ events) = option_map (λ told. event ∷ told) (up_to_answer (answers_behind event n) events)

-- the events up to the answer limit, where there is a limit and the run reaches it
abbrev pub up_to_limit : Option ℕ → List Event → Option (List Event)
up_to_limit None events = None
up_to_limit (Some limit) events = up_to_answer limit events

-- the line behind the last answer that a limit allows
abbrev pub limit_line : Word
limit_line = line (codes "end: answer limit")

-- the text of a run, by its events up to the limit, where it reaches it
abbrev pub told_text : Program → Option (List Event) → List Event → Ending → Word
told_text program None events ending = RunText program events ending
told_text program (Some told) events ending = flat_map (event_text program) told ++ limit_line

-- the status likewise
abbrev pub told_status : Option (List Event) → Ending → ℕ
told_status None ending = ending_status ending
told_status (Some told) ending = 0

-- the text of a run with an answer limit, where there is one
abbrev pub LimitedText : Program → Option ℕ → List Event → Ending → Word
LimitedText program limit events ending = told_text program (up_to_limit limit events) events ending

-- its status
abbrev pub limited_status : Option ℕ → List Event → Ending → ℕ
limited_status limit events ending = told_status (up_to_limit limit events) ending

-- the text and the status of the run of a query with this bound and this answer limit
pub record RunAnswers (program : Program) (query : Term) (bound : ℕ) (limit : Option ℕ) (text : Word) (status : ℕ) : Type 0 where
  pub events : List Event
  pub ending : Ending
  pub runs : Run program query bound events ending
  pub text_is : text ≡ LimitedText program limit events ending
  pub status_is : status ≡ limited_status limit events ending

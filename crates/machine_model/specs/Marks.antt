-- Whose mark an exit finds.
-- The headline does not rest on this file.
use Rattle.std.specs.Prelude.{◌≡◌, ℕ, Bool, List, Option, Some}
use Rattle.term_core.specs.declared.terms.Term.{Term}
use Rattle.prog_data.specs.declared.programs.Program.{Program}
use Rattle.machine_model.specs.State.{Mark, State}
use Rattle.machine_model.specs.Tests.{Tests}
use Rattle.machine_model.specs.Step.{mark_of}
use Rattle.machine_model.specs.Points.{IsExit, Reached}

-- the mark that an exit of a run finds is one of a call of its predicate
abbrev pub MarksOwned : Tests → Program → Type 0
MarksOwned what program = (bound : ℕ) (s : State) (p : ℕ) (args : List Term) (noted : List ℕ) (mark : Option ℕ) (q : ℕ) (conds : List ℕ) (exited : Bool) →
    Reached what program bound s → IsExit s p args noted mark → mark_of mark s.choices ≡ Some (Mark q conds exited) → q ≡ p

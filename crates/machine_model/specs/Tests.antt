-- What a run tests: all the conditions of a program, or the checks that an instrumented one keeps.
use Rattle.std.specs.Prelude.{ℕ, Bool, true, false, List, [], filter, flat_map}
use Rattle.prog_data.specs.declared.programs.Check.{Check}
use Rattle.prog_data.specs.declared.programs.Check.TheVariants as check
use Rattle.prog_data.specs.declared.goals.Goal.{Goal}
use Rattle.prog_data.specs.declared.programs.Pred.{Pred}
use Rattle.prog_data.specs.declared.programs.Program.{Program}
use Rattle.prog_data.specs.Conditions.{kind_of, is_calls, is_success, is_comp}
use Rattle.prog_data.specs.Goals.{ends_in_exit, checked_at_call, checked_by_note}

-- the conditions that a call of a predicate looks at, by number
pub record Looks : Type 0 where
  -- tested at the call
  pub calls : List ℕ
  -- noted at the call where Pre holds, and tested at the exit
  pub notes : List ℕ
  -- put into a mark at the call where Pre holds
  pub marks : List ℕ

-- what a run tests, and what comes of it
pub record Tests : Type 0 where
  pub looks : Pred → Looks
  -- whether the exit of a call stands after this body
  pub exits : Goal → Bool
  -- whether a broken condition ends the run, or is told and the run goes on
  pub stops : Bool

-- all conditions of the predicate, by kind
abbrev pub all_looks : Program → Pred → Looks
all_looks program pred = record {
  calls = filter (λ c. is_calls (kind_of program c)) pred.conds;
  notes = filter (λ c. is_success (kind_of program c)) pred.conds;
  marks = filter (λ c. is_comp (kind_of program c)) pred.conds;
}

-- the conditions of a check Mark
abbrev pub checked_by_mark : Check → List ℕ
checked_by_mark (check.Mark cs) = cs
checked_by_mark other = []

-- the conditions of the predicate's call checks
abbrev pub kept_looks : Pred → Looks
kept_looks pred = record {
  calls = flat_map checked_at_call pred.call_checks;
  notes = flat_map checked_by_note pred.call_checks;
  marks = flat_map checked_by_mark pred.call_checks;
}

-- every condition is tested, at every call and exit, and a broken one ends the run
abbrev pub every_condition : Program → Tests
every_condition program = record { looks = all_looks program; exits = λ body. true; stops = true }

-- the call checks are tested, and the exits that the bodies name; a broken condition ends the run
abbrev pub kept_checks : Program → Tests
kept_checks program = record { looks = kept_looks; exits = ends_in_exit; stops = true }

-- the same tests, where a broken condition is told and the run goes on
abbrev pub told : Tests → Tests
told what = record what { stops = false }

-- only the conditions for which the test holds
abbrev pub only_looks : (ℕ → Bool) → Looks → Looks
only_looks keeps l = record { calls = filter keeps l.calls; notes = filter keeps l.notes; marks = filter keeps l.marks }

-- the tests of only these conditions
abbrev pub only_kept : (ℕ → Bool) → Tests → Tests
only_kept keeps what = record what { looks = λ pred. only_looks keeps (what.looks pred) }

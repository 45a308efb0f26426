-- What is in range of a program stays so.
-- The headline does not rest on this file.
use Rattle.std.specs.Prelude.{◌≡◌, ◌<◌, ℕ, true, false, List, [], length, slice_get, Some, Contains}
use Rattle.term_core.specs.declared.terms.Term.{Term}
use Rattle.term_core.specs.Names.{fixed_names}
use Rattle.term_core.specs.Lists.{IsPrefix}
use Rattle.term_core.specs.Standard.{standard}
use Rattle.term_core.specs.Terms.{instance}
use Rattle.prog_data.specs.declared.conditions.Cond.{Cond}
use Rattle.prog_data.specs.declared.goals.Goal.{Goal}
use Rattle.prog_data.specs.declared.programs.Program.{Program}
use Rattle.prog_data.specs.BasicNames.{basic_grammar}
use Rattle.prog_data.specs.GrammarRange.{IsGrammar}
use Rattle.prog_data.specs.Goals.{goal_instance, pred_of, ends_in_exit}
use Rattle.prog_data.specs.Ranges.{is_term_of, is_goal_of, is_body_of}
use Rattle.prog_data.specs.Programs.{with_names, IsPred, IsProgram}

-- each variable below the first number has a value in range, with variables below the second
abbrev pub AreTermsOf : Program → (vars others : ℕ) → (ℕ → Term) → Type 0
AreTermsOf program vars others value = (v : ℕ) → v < vars → is_term_of program others (value v) ≡ true

-- terms, goals and bodies stay in range when terms in range are put for their variables, and programs when names come behind theirs
pub record RangesAreKept : Type 0 where
  pub basic : IsGrammar basic_grammar
  pub terms : (program : Program) (vars others : ℕ) (value : ℕ → Term) → AreTermsOf program vars others value → (t : Term) → is_term_of program vars t ≡ true → is_term_of program others (instance value t) ≡ true
  pub goals : (program : Program) (vars others : ℕ) (value : ℕ → Term) → AreTermsOf program vars others value → (g : Goal) → is_goal_of program vars g ≡ true → is_goal_of program others (goal_instance value g) ≡ true
  pub bodies : (program : Program) (vars others : ℕ) (value : ℕ → Term) → AreTermsOf program vars others value → (g : Goal) → is_body_of program vars g ≡ true → is_body_of program others (goal_instance value g) ≡ true
  -- a body that has no exit is a goal
  pub linked : (program : Program) (vars : ℕ) (g : Goal) → ends_in_exit g ≡ false → is_body_of program vars g ≡ true → is_goal_of program vars g ≡ true
  -- each predicate of a program in range is
  pub preds : (program : Program) → IsProgram program → (p : ℕ) → p < length program.preds → IsPred program p (pred_of program p)
  -- a query is read with names behind those of the program
  pub more_names : (program : Program) (names : List (List ℕ)) → IsPrefix program.names names → IsProgram program → IsProgram (with_names names program)

-- the program of the names that the language knows, with nothing in it
abbrev pub empty_program : Program
empty_program = record { names = fixed_names; ops = standard; files = []; preds = []; conds = []; claims = []; grammar = basic_grammar; exports = []; entries = [] }

-- in a program in range the conditions of a predicate are exactly those that name it; there is a program in range
pub record PartsAgree : Type 0 where
  pub own : (program : Program) → IsProgram program → (p c : ℕ) (condition : Cond) → Contains (pred_of program p).conds c → slice_get program.conds c ≡ Some condition → condition.pred ≡ p
  pub all : (program : Program) → IsProgram program → (c : ℕ) (condition : Cond) → slice_get program.conds c ≡ Some condition → Contains (pred_of program condition.pred).conds c
  pub empty : IsProgram empty_program

-- What an index selects of a program, and what becomes of the clauses that it leaves out.
-- The headline does not rest on this file.
use Rattle.std.specs.Prelude.{◌≡◌, ◌<◌, ℕ, false, List, [], ◌∷◌, map, filter, length, slice_get, Some}
use Rattle.term_core.specs.declared.terms.Term.{Term}
use Rattle.term_core.specs.declared.equations.Outcome.TheVariants.{Clash}
use Rattle.term_core.specs.Terms.{rename}
use Rattle.term_core.specs.Unify.{move, Clashes, pairs, Open, Ended, solve}
use Rattle.prog_data.specs.declared.programs.Clause.{Clause}
use Rattle.prog_data.specs.declared.programs.Program.{Program}
use Rattle.prog_data.specs.Goals.{pred_of}
use Rattle.prog_data.specs.Programs.{IsProgram}
use Rattle.clause_index.specs.declared.keys.Key.{Key}
use Rattle.clause_index.specs.declared.keys.Key.TheVariants.{Free}
use Rattle.clause_index.specs.Keys.{first_key}
use Rattle.clause_index.specs.Selected.{numbers, selected, program_keys, keys_at, can_match}

-- of the keys of a program are selected the places of the clauses that can match, in order
abbrev pub SelectsInOrder : Type 0
SelectsInOrder = (program : Program) (p : ℕ) (key : Key) → selected (keys_at (program_keys program) p) key ≡ filter (can_match program p key) (numbers 0 (length (pred_of program p).clauses))

-- all clauses are selected where the key is free, and where a predicate of a program in range has no arguments
pub record SelectsAll : Type 0 where
  pub free : (program : Program) (p : ℕ) → selected (keys_at (program_keys program) p) Free ≡ numbers 0 (length (pred_of program p).clauses)
  pub no_arguments : (program : Program) → IsProgram program → (p : ℕ) (key : Key) → (pred_of program p).arity ≡ 0 → selected (keys_at (program_keys program) p) key ≡ numbers 0 (length (pred_of program p).clauses)

-- the first equation of the arguments and of the clause at a place clashes, whatever the clause's variables are; so to try it fails at once, and binds nothing
pub record ClashesFirst (program : Program) (p k : ℕ) (args : List Term) : Type 0 where
  pub clause : Clause
  pub is_there : slice_get (pred_of program p).clauses k ≡ Some clause
  pub arg : Term
  pub head : Term
  pub other_args : List Term
  pub heads : List Term
  pub args_are : args ≡ arg ∷ other_args
  pub head_is : clause.head ≡ head ∷ heads
  pub clashes : (base : ℕ) → move (record { left = arg; right = rename base head }) ≡ Clashes
  pub ends : (base : ℕ) → solve (Open (pairs args (map (rename base) clause.head)) []) ≡ Ended Clash

-- each clause that is left out clashes so
abbrev pub LeftOutClash : Type 0
LeftOutClash = (program : Program) (p k : ℕ) (args : List Term) → k < length (pred_of program p).clauses → can_match program p (first_key args) k ≡ false → ClashesFirst program p k args

-- A query: how it is read, and when it meets an entry.
use Rattle.std.specs.Prelude.{◌≡◌, ℕ, Bool, true, List, [], ◌∷◌, Some}
use Rattle.term_core.specs.Shapes.{parts_of}
use Rattle.term_core.specs.Standard.{standard}
use Rattle.term_core.specs.declared.operators.Operators.{Operators}
use Rattle.term_core.specs.declared.terms.Term.{Term, out-Term}
use Rattle.ciao_reader.specs.Sentences.{HasGoal}
use Rattle.ciao_reader.specs.declared.sentences.Sentence.{Sentence}
use Rattle.prog_data.specs.declared.programs.Program.{Program}
use Rattle.prog_data.specs.Goals.{called_by, meets_entry}
use Rattle.ciao_modules.specs.FileNames.{Word}
use Rattle.ciao_modules.specs.declared.units.Unit.{Unit}

-- the operators that the main file ends with, which is the first of the units
abbrev pub main_operators : List Unit → Operators
main_operators [] = standard
main_operators (main ∷ others) = main.ops

-- by these operators the text is this query, and makes of the names these
pub record IsQuery (ops : Operators) (names : List Word) (text : Word) (more : List Word) (query : Term) : Type 0 where
  pub goal : Sentence
  pub has : HasGoal ops text names more goal
  pub is : query ≡ goal.term

-- whether the precondition of an entry of the predicate with this number holds of the arguments of a query
abbrev pub query_meets_entry : Program → ℕ → Term → Bool
query_meets_entry program p query = meets_entry program p (parts_of (out-Term query))

-- a query meets an entry: it calls an exported predicate of the main module, and the precondition of an entry of that holds
pub record MeetsEntry (program : Program) (query : Term) : Type 0 where
  pub pred : ℕ
  pub calls : called_by program query ≡ Some pred
  pub meets : query_meets_entry program pred query ≡ true

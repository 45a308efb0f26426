-- The clauses of clauses in range are in range.
-- The headline does not rest on this file.
use Rattle.std.specs.Prelude.{◌≡◌, ◌≤◌, ℕ, List, length, Some}
use Rattle.std.specs.List.{AllByRecursion}
use Rattle.term_core.specs.Names.{fixed_names}
use Rattle.ciao_reader.specs.Ranges.{IsSentenceInRange}
use Rattle.ciao_reader.specs.declared.sentences.Sentence.{Sentence}
use Rattle.fsyntax_expand.specs.Expansion.{FunctionalExpanded}

-- where a clause is in range of names with the fixed ones among them, the clauses that it stands for are in range of the same names
abbrev pub ClausesStayInRange : Type 0
ClausesStayInRange = (names : ℕ) (clause : Sentence) (clauses : List Sentence) → length fixed_names ≤ names → FunctionalExpanded clause ≡ Some clauses → IsSentenceInRange names clause → AllByRecursion (IsSentenceInRange names) clauses

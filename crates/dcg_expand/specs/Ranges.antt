-- The clauses of rules in range are in range.
-- The headline does not rest on this file.
use Rattle.std.specs.Prelude.{◌≡◌, ◌≤◌, ℕ, length, Some}
use Rattle.term_core.specs.Names.{fixed_names}
use Rattle.ciao_reader.specs.Ranges.{IsSentenceInRange}
use Rattle.ciao_reader.specs.declared.sentences.Sentence.{Sentence}
use Rattle.dcg_expand.specs.Expansion.{DcgExpanded}

-- where a rule is in range of names with the fixed ones among them, its clause is in range of the same names
abbrev pub RulesStayInRange : Type 0
RulesStayInRange = (names : ℕ) (rule clause : Sentence) → length fixed_names ≤ names → DcgExpanded rule ≡ Some clause → IsSentenceInRange names rule → IsSentenceInRange names clause

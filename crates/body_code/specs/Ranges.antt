-- Clauses and grammars stay in range.
-- The headline does not rest on this file.
use Rattle.std.specs.Prelude.{◌≡◌, ◌<◌, ◌≤◌, ℕ, true, false, List, length, Some}
use Rattle.std.specs.List.{AllByRecursion}
use Rattle.term_core.specs.Lists.{IsPrefix}
use Rattle.term_core.specs.Shapes.{greatest_arity}
use Rattle.ciao_reader.specs.Ranges.{IsSentenceInRange}
use Rattle.ciao_reader.specs.declared.sentences.Sentence.{Sentence}
use Rattle.prog_data.specs.declared.grammars.Grammar.{Grammar}
use Rattle.prog_data.specs.declared.programs.Program.{Program}
use Rattle.prog_data.specs.Goals.{pred_of, ends_in_exit}
use Rattle.prog_data.specs.GrammarRange.{IsGrammar}
use Rattle.prog_data.specs.Ranges.{is_name_of, is_clause_of}
use Rattle.regtype_grammar.specs.RuleNames.{RulesStayNamed}
use Rattle.regtype_grammar.specs.TypeNames.{AreKindsBelow}
use Rattle.body_code.specs.declared.faults.Compiled.{Compiled}
use Rattle.body_code.specs.declared.faults.Indicator.{Indicator}
use Rattle.body_code.specs.declared.scopes.Named.{Named}
use Rattle.body_code.specs.declared.scopes.Visible.{Visible}
use Rattle.body_code.specs.Clauses.{indicator_of, compiled}

-- a grammar behind a call, whatever that answers: the old rules begin it, and it stays in range where types that are among so many names are asked for
pub record GrowsFor (are_below : ℕ → Type 0) (old new : Grammar) : Type 0 where
  pub begins : IsPrefix old.rules new.rules
  pub range : IsGrammar old → are_below (length old.rules) → IsGrammar new
  pub named : RulesStayNamed old new

-- where these are the types that are seen
abbrev pub Grows : Visible → Grammar → Grammar → Type 0
Grows visible = GrowsFor (λ size. AreKindsBelow size visible.types)

-- the predicates that are seen are a program's, with as many arguments
abbrev pub ArePredsOf : Program → List Named → Type 0
ArePredsOf program preds = AllByRecursion (λ n. (n.pred < length program.preds) × ((pred_of program n.pred).arity ≡ n.arity)) preds

-- a program that has what a sentence of a file may speak of: its names, the file, the predicates that are seen, and the names of the grammar behind it
pub record HasAllOf (program : Program) (visible : Visible) (s : Sentence) (file : ℕ) (new : Grammar) : Type 0 where
  pub sentence : IsSentenceInRange (length program.names) s
  pub place : is_name_of program file ≡ true
  pub preds : ArePredsOf program visible.preds
  pub types : length new.rules ≤ length program.grammar.rules

-- a clause of a program, as the linker makes it
pub record IsClauseOf (program : Program) (c : Compiled) : Type 0 where
  pub name : is_name_of program c.name ≡ true
  pub arity : c.arity ≤ greatest_arity
  pub clause : is_clause_of program c.arity c.clause ≡ true
  pub no_exit : ends_in_exit c.clause.body ≡ false

-- what a sentence becomes is in range of each program that has what it may speak of
abbrev pub StaysInRange : Visible → Sentence → ℕ → Grammar → Compiled → Type 0
StaysInRange visible s file new c = (program : Program) → HasAllOf program visible s file new → IsClauseOf program c

-- the name of a head in range is one of the names, and its arguments are few
abbrev pub HeadsAreInRange : Type 0
HeadsAreInRange = (names : ℕ) (s : Sentence) (p : Indicator) → IsSentenceInRange names s → indicator_of s.term ≡ Some p → (p.name < names) × (p.arity ≤ greatest_arity)

-- a clause is in range of each program that has what its sentence may speak of, and the grammar behind it has grown
abbrev pub ClausesAreInRange : Type 0
ClausesAreInRange = (visible : Visible) (file : ℕ) (s : Sentence) (old : Grammar) (made : Compiled × Grammar) → compiled visible file s old ≡ Some made → Grows visible old made.1 × StaysInRange visible s file made.1 made.0

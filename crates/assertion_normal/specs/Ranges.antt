-- Grammars, conditions and entries stay in range.
-- The headline does not rest on this file.
use Rattle.std.specs.Prelude.{◌≡◌, ℕ, true, List, [], ◌∷◌, ◌++◌, length, None}
use Rattle.std.specs.List.{list_all, AllByRecursion}
use Rattle.term_core.specs.Lists.{IsPrefix}
use Rattle.prog_data.specs.declared.grammars.Rule.{Rule}
use Rattle.prog_data.specs.declared.grammars.Grammar.{Grammar}
use Rattle.prog_data.specs.declared.grammars.Seen.{Seen}
use Rattle.prog_data.specs.GrammarRange.{IsGrammar}
use Rattle.prog_data.specs.Ranges.{is_prop_of, is_kind_of}
use Rattle.assertion_read.specs.declared.assertions.Assertion.{Assertion}
use Rattle.assertion_read.specs.Ranges.{IsAssertionInRange}
use Rattle.regtype_grammar.specs.Lists.{list_rules, list_from}
use Rattle.regtype_grammar.specs.TypeNames.{AreKindsBelow}
use Rattle.regtype_grammar.specs.RuleNames.{RulesStayNamed}
use Rattle.assertion_normal.specs.declared.outcomes.Normal.{Normal}
use Rattle.assertion_normal.specs.declared.outcomes.NormalFault.{NormalFault}
use Rattle.assertion_normal.specs.declared.outcomes.NormalFault.TheVariants.{UnknownProperty, Ambiguous, TooManyNames, NoMemory}

-- the types that are seen are names of a grammar
abbrev pub AreSeen : Grammar → List Seen → Type 0
AreSeen g seen = AreKindsBelow (length g.rules) seen

-- the rules, with the number behind the names before them, are those of the lists of an element that none of these names is
abbrev pub IsNewList : List (List Rule) → List Rule → Type 0
IsNewList before rules = (element : ℕ) × (list_from element 0 before ≡ None) × (rules ≡ list_rules element (length before))

-- so are those of each name that is added behind these
abbrev pub AreNewLists : List (List Rule) → List (List Rule) → Type 0
AreNewLists before [] = Unit {0}
AreNewLists before (rules ∷ rest) = IsNewList before rules × AreNewLists (before ++ rules ∷ []) rest

-- a grammar behind a call, whatever that answers: the old rules come first, and behind them lists alone, each of an element whose lists were not there yet
pub record GrowsByLists (old new : Grammar) : Type 0 where
  pub front : IsPrefix old.rules new.rules
  pub lists : AreNewLists old.rules front.0

-- and no other atoms and functors stand in its rules than the fixed ones and those of the old rules; from a grammar in range, of which the types that are seen are names, it is in range
pub record IsGrown (seen : List Seen) (old new : Grammar) : Type 0 where
  pub grows : GrowsByLists old new
  pub named : RulesStayNamed old new
  pub range : IsGrammar old → AreSeen old seen → IsGrammar new

-- where a name is in trouble, the grammar stays as it was
abbrev pub IsKept : Grammar → Grammar → NormalFault → Type 0
IsKept old new (UnknownProperty line) = new ≡ old
IsKept old new (Ambiguous line) = new ≡ old
IsKept old new TooManyNames = Unit {0}
IsKept old new NoMemory = Unit {0}

-- assertions in range of so many names, about a predicate of so many arguments
abbrev pub AreAbout : (names arity : ℕ) → List Assertion → Type 0
AreAbout names arity list = AllByRecursion (λ a. (a.arity ≡ arity) × IsAssertionInRange names a) list

-- the conditions and the entries ask for arguments of a predicate of so many, and for names of the grammar, as those of a program do
pub record IsNormalInRange (arity : ℕ) (g : Grammar) (normal : Normal) : Type 0 where
  pub conds : AllByRecursion (λ c. is_kind_of arity (length g.rules) c.kind ≡ true) normal.conds
  pub entries : AllByRecursion (λ e. list_all (is_prop_of arity (length g.rules)) e.pre ≡ true) normal.entries

-- so it is where the old grammar and the assertions are in range
abbrev pub StaysInRange : List Seen → Grammar → List Assertion → Grammar → Normal → Type 0
StaysInRange seen old list new normal = (names arity : ℕ) → IsGrammar old → AreSeen old seen → AreAbout names arity list → IsNormalInRange arity new normal

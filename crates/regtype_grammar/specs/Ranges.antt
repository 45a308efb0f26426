-- Grammars of types, and grammars with the lists that they get, are in range.
-- The headline does not rest on this file.
use Rattle.std.specs.Prelude.{◌≡◌, ℕ, true, List, length, Some}
use Rattle.std.specs.List.{AllByRecursion}
use Rattle.term_core.specs.Lists.{IsPrefix}
use Rattle.prog_data.specs.declared.grammars.Grammar.{Grammar}
use Rattle.prog_data.specs.GrammarRange.{IsGrammar}
use Rattle.regtype_grammar.specs.declared.modules.TypeModule.{TypeModule}
use Rattle.regtype_grammar.specs.Grammars.{grammar_of}
use Rattle.regtype_grammar.specs.Lists.{Listed, list_of, ListsStayInRange}
use Rattle.regtype_grammar.specs.RuleNames.{TypesGiveNamedRules, RulesStayNamed}
use Rattle.regtype_grammar.specs.TypeNames.{are_seen, seen_types, AreKindsBelow}

-- a grammar with the lists of an element: the old rules begin it, it stays in range, and it gets no other atoms and functors than the fixed ones
pub record IsListing (g : Grammar) (element : ℕ) (l : Listed) : Type 0 where
  pub begins : IsPrefix g.rules l.grammar.rules
  pub range : ListsStayInRange g element l.grammar l.name
  pub named : RulesStayNamed g l.grammar

-- whatever element lists are asked of
abbrev pub ListingsStayInRange : Type 0
ListingsStayInRange = (g : Grammar) (element : ℕ) (l : Listed) → list_of g element ≡ Some l → IsListing g element l

-- a grammar of types is in range, has the names of the types that are seen, and no other atoms and functors than the fixed ones and those of the types
pub record IsTypesGrammar (modules : List TypeModule) (g : Grammar) : Type 0 where
  pub range : IsGrammar g
  pub seen : AllByRecursion (AreKindsBelow (length g.rules)) (seen_types modules)
  pub named : TypesGiveNamedRules modules g

-- whatever types are seen, if they are types of these modules
abbrev pub GrammarsAreInRange : Type 0
GrammarsAreInRange = (modules : List TypeModule) (g : Grammar) → are_seen modules ≡ true → grammar_of modules ≡ Some g → IsTypesGrammar modules g

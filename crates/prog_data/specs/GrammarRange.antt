-- Which lists of rules are a program's grammar.
-- The headline does not rest on this file.
use Rattle.std.specs.Prelude.{◌≡◌, ◌≤◌, ℕ, nat_lt, Bool, true, List, [], ◌∷◌, length, take}
use Rattle.std.specs.List.{list_all}
use Rattle.prog_data.specs.declared.grammars.Rule.{Rule}
use Rattle.prog_data.specs.declared.grammars.Rule.TheVariants.{Node, Unit as UnitRule}
use Rattle.prog_data.specs.declared.grammars.Grammar.{Grammar}
use Rattle.prog_data.specs.BasicNames.{basic_grammar}

-- the names in a rule
abbrev pub names_in : Rule → List ℕ
names_in (Node f ns) = ns
names_in (UnitRule m) = m ∷ []
names_in other = []

-- whether each name in a rule is one of so many
abbrev pub is_rule_of : ℕ → Rule → Bool
is_rule_of size r = list_all (λ n. nat_lt n size) (names_in r)

-- a grammar of 10 to 512 names: the basic names come first, and each name in a rule is one of its own
pub record IsGrammar (g : Grammar) : Type 0 where
  pub basic : take 10 g.rules ≡ basic_grammar.rules
  pub few : length g.rules ≤ 512
  pub closed : list_all (list_all (is_rule_of (length g.rules))) g.rules ≡ true

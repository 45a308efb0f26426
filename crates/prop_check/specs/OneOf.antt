-- Belonging to one of some names, and what that asks of the last part of a compound.
-- The headline does not rest on this file.
use Rattle.std.specs.Prelude.{◌≡◌, ◌⊎◌, ℕ, Bool, true, false, List, [], ◌∷◌, ◌++◌}
use Rattle.std.specs.List.{list_any}
use Rattle.term_core.specs.declared.terms.Term.{Term}
use Rattle.term_core.specs.declared.terms.Term as term
use Rattle.prog_data.specs.declared.grammars.Basic.TheVariants as basic
use Rattle.prog_data.specs.declared.grammars.Rule.{Rule}
use Rattle.prog_data.specs.declared.grammars.Rule.TheVariants.{Basic as BasicRule}
use Rattle.prog_data.specs.declared.grammars.Grammar.{Grammar}
use Rattle.prog_data.specs.Membership.{rules_of, belongs}

-- a term belongs to one name of a set at least
abbrev pub SomeBelongs : Grammar → (ℕ → Bool) → Term → Type 0
SomeBelongs g names t = (n : ℕ) × (names n ≡ true) × (belongs g t n ≡ true)

-- a test holds of one rule of the names of a set at least
abbrev pub SomeRule : Grammar → (ℕ → Bool) → (Rule → Bool) → Type 0
SomeRule g names holds = (n : ℕ) × (names n ≡ true) × (list_any holds (rules_of g n) ≡ true)

-- what belongs to a name of the second set belongs to one of the first
abbrev pub AreLed : Grammar → (ℕ → Bool) → (ℕ → Bool) → Type 0
AreLed g asked names = (t : Term) (n : ℕ) → names n ≡ true → belongs g t n ≡ true → SomeBelongs g asked t

-- whether a rule holds of each compound
abbrev pub is_whole : Rule → Bool
is_whole (BasicRule basic.Term) = true
is_whole (BasicRule basic.Struct) = true
is_whole other = false

-- which names the last part of a compound is asked for: it belongs to one of them exactly where the compound belongs to
-- one of the closed set, unless that has a rule that holds of each compound
pub record AsksLast (g : Grammar) (closed : ℕ → Bool) (f : ℕ) (ts : List Term) (asked : ℕ → Bool) : Type 0 where
  pub down : (last : Term) → SomeBelongs g closed (term.Node f (ts ++ last ∷ [])) → SomeRule g closed is_whole ⊎ SomeBelongs g asked last
  pub up : (last : Term) → SomeBelongs g asked last → SomeBelongs g closed (term.Node f (ts ++ last ∷ []))

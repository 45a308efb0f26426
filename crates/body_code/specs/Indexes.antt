-- An index of predicates, by their names and numbers of arguments.
-- The headline does not rest on this file.
use Rattle.std.specs.Prelude.{◌≡◌, ℕ, nat_eq, Bool, ◌&&◌, List, filter, Option, Some, None}
use Rattle.indexmap.specs.IndexMap.{IndexMap, get}
use Rattle.body_code.specs.declared.scopes.Named.{Named}
use Rattle.body_code.specs.declared.scopes.Callee.{Callee}
use Rattle.body_code.specs.declared.scopes.Callee.TheVariants.{One, Unknown, Several}
use Rattle.body_code.specs.Scopes.{is_named, meaning_of_preds}

-- whether two pairs of a name and a number of arguments are the same
abbrev pub same_key : ℕ × ℕ → ℕ × ℕ → Bool
same_key a b = nat_eq a.0 b.0 && nat_eq a.1 b.1

-- what is found, and one more predicate of the same name
abbrev pub one_more : Callee → ℕ → Callee
one_more Unknown pred = One pred
one_more other pred = Several

-- what is found, or that nothing is
abbrev pub found_or_unknown : Option Callee → Callee
found_or_unknown None = Unknown
found_or_unknown (Some callee) = callee

module _ {S : Type 0} where
  -- what an index has for a name with so many arguments
  abbrev pub looked_up : IndexMap (ℕ × ℕ) Callee S → (name arity : ℕ) → Callee
  looked_up index name arity = found_or_unknown (get same_key index (name, arity))

  -- an index of these predicates
  abbrev pub IsIndex : List Named → IndexMap (ℕ × ℕ) Callee S → Type 0
  IsIndex preds index = (name arity : ℕ) → looked_up index name arity ≡ meaning_of_preds (filter (is_named name arity) preds)

-- Terms in range: their names are among the names, their compounds have 1 to `greatest_arity` arguments, their variables are below a number.
-- The headline does not rest on this file.
use Rattle.std.specs.Prelude.{◌≡◌, ◌≤◌, ◌<◌, ℕ, ◌+◌, nat_lt, nat_le, Bool, true, ◌&&◌, List, length}
use Rattle.std.specs.List.{list_all, AllByRecursion}
use Rattle.term_core.specs.declared.terms.Term.{Term}
use Rattle.term_core.specs.declared.terms.Term.TheOpen.{Term-F, Var, Int, Atom, Node}
use Rattle.term_core.specs.declared.terms.Term.TheFolds.{fold-Term}
use Rattle.term_core.specs.Shapes.{greatest_arity}
use Rattle.term_core.specs.Terms.{instance, rename, above, vars}

-- a name below n with 1 to `greatest_arity` arguments, each of which is in range
abbrev pub is_compound : ℕ → ℕ → List Bool → Bool
is_compound n f parts = nat_lt f n && ((nat_le 1 (length parts) && nat_le (length parts) greatest_arity) && list_all (λ part. part) parts)

-- whether the name at the outermost of a term is below n, a compound has 1 to `greatest_arity` arguments, and each part passes
abbrev pub has_names_step : ℕ → Term-F Bool → Bool
has_names_step n (Var v) = true
has_names_step n (Int i) = true
has_names_step n (Atom a) = nat_lt a n
has_names_step n (Node f parts) = is_compound n f parts

-- whether each name in the term is below n, and each compound has 1 to `greatest_arity` arguments
abbrev pub has_names : ℕ → Term → Bool
has_names n = fold-Term Bool (has_names_step n)

-- a term whose names are below the number of names, whose compounds have 1 to `greatest_arity` arguments and whose variables are below a number
pub record IsInRange (names variables : ℕ) (t : Term) : Type 0 where
  pub named : has_names names t ≡ true
  pub below : above t ≤ variables

-- a term in range stays in range: with more names and variables, when terms in range are put for its variables, and when these are renamed; where its distinct variables are below a number, it is
pub record RangesStay : Type 0 where
  pub widened : (n m v w : ℕ) (t : Term) → n ≤ m → v ≤ w → IsInRange n v t → IsInRange m w t
  pub instances : (n v w : ℕ) (value : ℕ → Term) (t : Term) → IsInRange n v t → ((x : ℕ) → x < v → IsInRange n w (value x)) → IsInRange n w (instance value t)
  pub renamed : (n v base : ℕ) (t : Term) → IsInRange n v t → IsInRange n (v + base) (rename base t)
  pub numbered : (v : ℕ) (t : Term) → AllByRecursion (λ x. x < v) (vars t) → above t ≤ v

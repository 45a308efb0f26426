-- The variables of a head that were not met yet.
-- The headline does not rest on this file.
use Rattle.std.specs.Prelude.{◌≡◌, ◌≤◌, ◌<◌, ◌+◌, ℕ, true, false, List, [], ◌∷◌, map, length, ⊤}
use Rattle.std.specs.List.{AllByRecursion}
use Rattle.term_core.specs.declared.terms.Term.{Term, Var, out-Term}
use Rattle.term_core.specs.declared.terms.Term as term
use Rattle.term_core.specs.declared.terms.Term.TheOpen as layer
use Rattle.term_core.specs.declared.equations.Outcome.TheVariants as outcome
use Rattle.term_core.specs.Terms.{instance, occurs, above, greatest}
use Rattle.term_core.specs.Unify.{Unified as EndsIn}
use Rattle.term_heap.specs.declared.cells.Cell.{Cell}
use Rattle.term_heap.specs.declared.cells.Cell.TheVariants as cell
use Rattle.term_heap.specs.Changes.{Change, places, size_of, value_of}
use Rattle.term_heap.specs.Loads.{IsPlaced}
use Rattle.unify_core.specs.declared.matching.Sight.{Sight}
use Rattle.unify_core.specs.declared.matching.Sight.TheVariants as sight
use Rattle.unify_core.specs.Meets.{agrees, first_of, is_free}
use Rattle.unify_core.specs.declared.unifying.Unified.{Unified}
use Rattle.unify_core.specs.declared.unifying.Unified.TheVariants.{Same, Clash, Cyclic}

-- a variable of a head is itself, and stands in no value of another one and in no term of places in a row
pub record IsUnmet (value : ℕ → Term) (limit base first count v : ℕ) : Type 0 where
  pub itself : value (v + base) ≡ Var (v + base)
  pub values : (u : ℕ) → u + base < limit → (u ≡ v → ⊥) → occurs (v + base) (value (u + base)) ≡ false
  pub places : (i : ℕ) → first ≤ i → i < first + count → occurs (v + base) (value i) ≡ false

-- terms of a head and places in a row, where the variables from a number on were not met
pub record MayMatch (changes : List Change) (base next first : ℕ) (ts : List Term) : Type 0 where
  pub limit : ℕ
  pub there : limit ≤ size_of changes
  pub within : first + length ts ≤ size_of changes
  pub placed : AllByRecursion (IsPlaced limit base) ts
  pub unmet : (v : ℕ) → next ≤ v → v + base < limit → IsUnmet (value_of changes) limit base first (length ts) v

-- where terms were matched, their variables are below the number from which on none was met, which has not fallen
abbrev pub AreMet : Unified → (before : ℕ) → List Term → (after : ℕ) → Type 0
AreMet Same before ts after = (before ≤ after) × (greatest (map above ts) ≤ after)
AreMet Clash before ts after = ⊤
AreMet Cyclic before ts after = ⊤

-- a place has the same constant as a term, or a compound of the same name with as many arguments, in places from the first on
abbrev pub IsAlike : List Change → (at first : ℕ) → layer.Term-F Term → Type 0
IsAlike h at first (layer.Var v) = ⊥
IsAlike h at first (layer.Int n) = (first ≤ size_of h) × (value_of h at ≡ term.Int n)
IsAlike h at first (layer.Atom a) = (first ≤ size_of h) × (value_of h at ≡ term.Atom a)
IsAlike h at first (layer.Node f ts) = (first + length ts ≤ size_of h) × (value_of h at ≡ term.Node f (map (value_of h) (places first (length ts))))

-- what a place has beside a term of a head
abbrev pub Seen : List Change → (at : ℕ) → Term → Sight → Type 0
Seen h at t (sight.Variable v) = t ≡ Var v
Seen h at t sight.Unbound = ⊤
Seen h at t (sight.Alike first) = IsAlike h at first (out-Term t)
Seen h at t sight.Other = (value : ℕ → Term) → EndsIn (record { left = value_of h at; right = instance value t } ∷ []) outcome.Clash

-- whether a cell is that of a term, wherever a compound has its arguments
abbrev pub IsLike : Cell → Term → Type 0
IsLike (cell.Int n) t = t ≡ term.Int n
IsLike (cell.Atom a) t = t ≡ term.Atom a
IsLike (cell.Node f count first) t = (ts : List Term) × (t ≡ term.Node f ts) × (count ≡ length ts)
IsLike other t = ⊥

-- what a cell is beside that of a term
abbrev pub IsSeen : Cell → Cell → Sight → Type 0
IsSeen c d (sight.Variable v) = ⊥
IsSeen c d sight.Unbound = is_free c ≡ true
IsSeen c d (sight.Alike first) = (agrees c d ≡ true) × (first ≡ first_of c)
IsSeen c d sight.Other = (is_free c ≡ false) × (agrees c d ≡ false)

-- Which variables the tests' terms have, and what the tests bind to.
use Rattle.std.proofs.Common.{◌≡◌, ◌<◌, ◌≤◌, ◌++◌, ℕ, ◌+◌, Bool, true, false, ◌||◌, List, [], ◌∷◌, map, length, true≢false, refl, sym, ap, subst, ◌∙◌, arith}
use Rattle.std.specs.Prelude.{ℤ, replicate}
use Rattle.std.specs.List.{list_any, AllByRecursion}
use Rattle.std.proofs.lemmas.List.{length-append}
use Rattle.term_core.specs.declared.terms.Term.{Term, Node}
use Rattle.term_core.specs.Terms.{occurs, occurs_step}
use Rattle.term_core.proofs.TermFolds.{fold-Int}
use Rattle.term_core.proofs.Occurrences.{occurs-Node}
use Rattle.term_heap.specs.declared.cells.Cell.TheVariants.{Free, Int}
use Rattle.term_heap.specs.Changes.{Change, Grows, cells_of, cell_at, cell_term, size_of, value_of, IsMade}
use Rattle.term_heap.specs.Loads.{IsPlaced}
use Rattle.term_heap.proofs.ValueLaws.{fits}
use Rattle.unify_core.specs.Heads.{AreNew, FreshAreNew}

in_one : (size base w : ℕ) (ts : List Term) → AllByRecursion (IsPlaced size base) ts → list_any (λ b. b) (map (occurs w) ts) ≡ true → w + base < size
in_one size base w [] placed o = absurd (true≢false (sym o))
in_one size base w (t ∷ ts) placed o = by_test (occurs w t) refl (in_one size base w ts placed.1) o where
  by_test : (b : Bool) → occurs w t ≡ b → (list_any (λ b. b) (map (occurs w) ts) ≡ true → w + base < size) → (b || list_any (λ b. b) (map (occurs w) ts)) ≡ true → w + base < size
  by_test true is rest o = placed.0 w is
  by_test false is rest o = rest o

pub placed_node : (size base f : ℕ) (ts : List Term) → AllByRecursion (IsPlaced size base) ts → IsPlaced size base (Node f ts)
placed_node size base f ts placed w o = in_one size base w ts placed (sym (occurs-Node w f ts) ∙ o)

pub placed_more : (size more base : ℕ) (t : Term) → size ≤ more → IsPlaced size base t → IsPlaced more base t
placed_more size more base t le placed w o = omega (arith, le, placed w o)

pub placed_last : (size base : ℕ) (ts : List Term) (t : Term) → AllByRecursion (IsPlaced size base) ts → IsPlaced size base t → AllByRecursion (IsPlaced size base) (ts ++ t ∷ [])
placed_last size base [] t all one = (one, tt)
placed_last size base (s ∷ ts) t all one = (all.0, placed_last size base ts t all.1 one)

-- terms of three variables, counted from a base on
pub shifted : (size base : ℕ) (ts : List Term) → base + 3 ≤ size → AllByRecursion (IsPlaced 3 0) ts → AllByRecursion (IsPlaced size base) ts
shifted size base [] le placed = tt
shifted size base (t ∷ ts) le placed = ((λ v o. let lt : v + 0 < 3 = placed.0 v o in omega (arith, le, lt)), shifted size base ts le placed.1)

-- what a head asks, after three new cells
pub record IsReady (new : List Change) (base first : ℕ) (ts : List Term) : Type 0 where
  pub base_in : base ≤ size_of new
  pub block : first + length ts ≤ base
  pub terms : AllByRecursion (IsPlaced (size_of new) base) ts
  pub are_new : AreNew new base

pub ready : (law : FreshAreNew) (old new : List Change) (base first s : ℕ) (ts : List Term) → IsMade old → new ≡ Grows (replicate 3 Free) s ∷ old → base ≡ size_of old → first + length ts ≤ size_of old → AllByRecursion (IsPlaced 3 0) ts → IsReady new base first ts
ready law old new base first s ts made is_new is_base within placed =
    let sizes : size_of new ≡ size_of old + 3 = ap size_of is_new ∙ length-append (cells_of old) (replicate 3 Free) in
    record {
      base_in = omega (arith, sizes, is_base);
      block = omega (arith, is_base, within);
      terms = shifted (size_of new) base ts (omega (arith, sizes, is_base)) placed;
      are_new = subst (λ h. AreNew h base) (sym is_new) (subst (AreNew (Grows (replicate 3 Free) s ∷ old)) (sym is_base) (law old 3 s made));
    }

-- a number has no variable
pub absent_in_number : (h : List Change) (at to : ℕ) (n : ℤ) → IsMade h → to < size_of h → cell_at (cells_of h) to ≡ Int n → occurs at (value_of h to) ≡ false
absent_in_number h at to n made lt e = ap (occurs at) (fits h to made lt ∙ ap (cell_term (value_of h) to) e) ∙ fold-Int Bool (occurs_step at) n

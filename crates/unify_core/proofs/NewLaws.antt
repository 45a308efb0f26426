-- New free cells are variables that stand in the term of no other place.
use Rattle.std.proofs.Common.{◌≡◌, ◌<◌, ◌≤◌, ◌⊎◌, inl, inr, ℕ, zero, suc, ◌+◌, Bool, true, false, ◌||◌, List, [], ◌∷◌, map, length, refl, sym, ap, ◌∙◌, subst, arith, true≢false}
use Rattle.std.specs.Prelude.{replicate}
use Rattle.std.specs.List.{list_any}
use Rattle.std.proofs.lemmas.Bool.{cases_eq, cases_lt, eqb-true, ne_eqb}
use Rattle.std.proofs.lemmas.List.{length-append, length-set}
use Rattle.term_core.specs.declared.terms.Term.{Term, Var}
use Rattle.term_core.specs.Solutions.{with_value}
use Rattle.term_core.specs.Terms.{occurs, occurs_step}
use Rattle.term_core.proofs.TermFolds.{fold-Int, fold-Atom}
use Rattle.term_core.proofs.TermLaws.{with_same, with_other}
use Rattle.term_core.proofs.Occurrences.{occurs-Node, occurs-Var, occurs-replace}
use Rattle.term_heap.specs.declared.cells.Cell.{Cell}
use Rattle.term_heap.specs.declared.cells.Cell.TheVariants.{Free, Ref, Int, Atom, Node}
use Rattle.term_heap.specs.Changes.{Change, Grows, Binds, places, cells_of, size_of, cell_term, grown, value_of, NamesBelow, NameBelow, IsMade}
use Rattle.term_heap.proofs.ValueLaws.{grown_below}
use Rattle.unify_core.specs.Heads.{AreNew}

-- whether the terms of the places below one have variables below it alone
abbrev AreBelow : (ℕ → Term) → ℕ → Type 0
AreBelow value n = (i w : ℕ) → i < n → occurs w (value i) ≡ true → w < n

in_places : (value : ℕ → Term) (n w count first : ℕ) → AreBelow value n → first + count ≤ n → list_any (λ b. b) (map (occurs w) (map value (places first count))) ≡ true → w < n
in_places value n w zero first below within o = absurd (true≢false (sym o))
in_places value n w (suc count) first below within o = by_test (occurs w (value first)) refl (in_places value n w count (suc first) below (omega (arith, within))) o where
  left : Bool
  left = list_any (λ b. b) (map (occurs w) (map value (places (suc first) count)))

  by_test : (b : Bool) → occurs w (value first) ≡ b → (left ≡ true → w < n) → (b || left) ≡ true → w < n
  by_test true is rest o = below first w (omega (arith, within)) is
  by_test false is rest o = rest o

cell_below : (value : ℕ → Term) (n w : ℕ) (c : Cell) → AreBelow value n → NamesBelow n c → occurs w (cell_term value n c) ≡ true → w < suc n
cell_below value n w Free below names o = let e : w ≡ n = eqb-true w n (sym (occurs-Var w n) ∙ o) in omega (arith, e)
cell_below value n w (Ref to) below names o = let lt : w < n = below to w names o in omega (arith, lt)
cell_below value n w (Int k) below names o = absurd (true≢false (sym o ∙ fold-Int Bool (occurs_step w) k))
cell_below value n w (Atom a) below names o = absurd (true≢false (sym o ∙ fold-Atom Bool (occurs_step w) a))
cell_below value n w (Node f count first) below names o =
    let lt : w < n = in_places value n w count first below names (sym (occurs-Node w f (map value (places first count))) ∙ o) in
    omega (arith, lt)

grown_all : (value : ℕ → Term) (n m : ℕ) (cells : List Cell) → m ≡ n + length cells → AreBelow value n → NameBelow n cells → AreBelow (grown value n cells) m
grown_all value n m [] e below names = subst (AreBelow value) (omega (arith, e)) below
grown_all value n m (c ∷ cs) e below names = grown_all (with_value value n t) (suc n) m cs (omega (arith, e)) one names.1 where
  t : Term
  t = cell_term value n c

  one : AreBelow (with_value value n t) (suc n)
  one i w lt o = by_place (cases_eq i n) where
    by_place : (i ≡ n) ⊎ (i ≡ n → ⊥) → w < suc n
    by_place (inl same) = cell_below value n w c below names.0 (ap (occurs w) (sym (ap (with_value value n t) same ∙ with_same value n t)) ∙ o)
    by_place (inr ne) =
        let less : i < n = lower i n lt ne in
        let is : w < n = below i w less (ap (occurs w) (sym (with_other value n t i ne)) ∙ o) in
        omega (arith, is)
      where
        lower : (i n : ℕ) → i < suc n → (i ≡ n → ⊥) → i < n
        lower i n lt ne = by_order (cases_lt i n) where
          by_order : (i < n) ⊎ (n ≤ i) → i < n
          by_order (inl less) = less
          by_order (inr more) = absurd (ne (omega (arith, more, lt)))

-- the variables of a place's term are places that are there
values_below : (h : List Change) → IsMade h → AreBelow (value_of h) (size_of h)
values_below [] made = λ i w lt o. absurd (omega (arith, lt))
values_below (Grows cells s ∷ older) made =
    grown_all (value_of older) (size_of older) (size_of (Grows cells s ∷ older)) cells (length-append (cells_of older) cells) (values_below older made.1) made.0
values_below (Binds at to s ∷ older) made = λ i w lt o.
    by_test i w (occurs w (value_of older i)) refl (values_below older made.1 to w made.0.place) (values_below older made.1 i w (omega (arith, lt, same_size))) (occurs-replace w at (value_of older to) (value_of older i) o)
  where
    same_size : size_of (Binds at to s ∷ older) ≡ size_of older
    same_size = length-set (cells_of older) at (Ref to)

    by_test : (i w : ℕ) (b : Bool) → occurs w (value_of older i) ≡ b → (occurs w (value_of older to) ≡ true → w < size_of older) → (occurs w (value_of older i) ≡ true → w < size_of older) → (b || occurs w (value_of older to)) ≡ true → w < size_of (Binds at to s ∷ older)
    by_test i w true is there here e = let lt : w < size_of older = here is in omega (arith, lt, same_size)
    by_test i w false is there here e = let lt : w < size_of older = there e in omega (arith, lt, same_size)

fresh_value : (value : ℕ → Term) (n count i : ℕ) → n ≤ i → i < n + count → grown value n (replicate count Free) i ≡ Var i
fresh_value value n zero i le lt = absurd (omega (arith, le, lt))
fresh_value value n (suc count) i le lt = by_place (λ up. fresh_value (with_value value n (Var n)) (suc n) count i up (omega (arith, lt))) (cases_eq i n) where
  more : ℕ → Term
  more = with_value value n (Var n)

  by_place : (suc n ≤ i → grown more (suc n) (replicate count Free) i ≡ Var i) → (i ≡ n) ⊎ (i ≡ n → ⊥) → grown more (suc n) (replicate count Free) i ≡ Var i
  by_place rest (inl same) = grown_below more (suc n) (replicate count Free) i (omega (arith, same)) ∙ ap more same ∙ with_same value n (Var n) ∙ ap Var (sym same)
  by_place rest (inr ne) = rest (higher (cases_lt n i)) where
    higher : (n < i) ⊎ (i ≤ n) → suc n ≤ i
    higher (inl less) = omega (arith, less)
    higher (inr most) = absurd (ne (omega (arith, most, le)))

length_replicate : (count : ℕ) → length (replicate count Free) ≡ count
length_replicate zero = refl
length_replicate (suc count) = ap suc (length_replicate count)

pub fresh_new : (h : List Change) (count s : ℕ) → IsMade h → AreNew (Grows (replicate count Free) s ∷ h) (size_of h)
fresh_new h count s made = record { themselves = themselves; apart = λ w i le lt less ne. by_place w i le less ne (cases_lt i n) } where
  n : ℕ
  n = size_of h

  sizes : size_of (Grows (replicate count Free) s ∷ h) ≡ n + count
  sizes = length-append (cells_of h) (replicate count Free) ∙ ap (λ k. n + k) (length_replicate count)

  themselves : (w : ℕ) → n ≤ w → w < size_of (Grows (replicate count Free) s ∷ h) → grown (value_of h) n (replicate count Free) w ≡ Var w
  themselves w le lt = fresh_value (value_of h) n count w le (omega (arith, lt, sizes))

  by_test : (w i : ℕ) → n ≤ w → i < n → (b : Bool) → occurs w (value_of h i) ≡ b → occurs w (value_of h i) ≡ false
  by_test w i le lt true is = let less : w < n = values_below h made i w lt is in absurd (omega (arith, less, le))
  by_test w i le lt false is = is

  by_place : (w i : ℕ) → n ≤ w → i < size_of (Grows (replicate count Free) s ∷ h) → (i ≡ w → ⊥) → (i < n) ⊎ (n ≤ i) → occurs w (grown (value_of h) n (replicate count Free) i) ≡ false
  by_place w i le lt ne (inl less) = ap (occurs w) (grown_below (value_of h) n (replicate count Free) i less) ∙ by_test w i le less (occurs w (value_of h i)) refl
  by_place w i le lt ne (inr more) = ap (occurs w) (themselves i more lt) ∙ occurs-Var w i ∙ ne_eqb w i (λ e. ne (sym e))

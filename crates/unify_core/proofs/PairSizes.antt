-- Pairs that are left: their places are there, and they get lighter.
use Rattle.std.proofs.Common.{◌≡◌, ◌<◌, ◌≤◌, ℕ, zero, suc, ◌+◌, inl, inr, true, ◌==◌, List, [], ◌∷◌, ◌++◌, map, reverse, Some, None, refl, sym, ap, ◌∙◌, subst, arith, true≢false}
use Rattle.std.specs.List.{AllByRecursion}
use Rattle.std.proofs.lemmas.Bool.{and_parts, eqb-true}
use Rattle.std.proofs.lemmas.List.{reverse-append}
use Rattle.term_core.specs.declared.terms.Term.{Term}
use Rattle.term_core.specs.Sizes.{size, total}
use Rattle.term_core.proofs.Sizes.{size_pos}
use Rattle.term_heap.specs.declared.cells.Cell.{Cell}
use Rattle.term_heap.specs.declared.cells.Cell.TheVariants as cell
use Rattle.term_heap.specs.Changes.{Change, value_of, size_of, cells_of, cell_at, places, NamesBelow, IsMade}
use Rattle.term_heap.proofs.ValueLaws.{names_in}
use Rattle.unify_core.specs.declared.pairs.Pair.{Pair}
use Rattle.unify_core.specs.declared.pairs.Stop.{Stop}
use Rattle.unify_core.specs.declared.pairs.Stop.TheVariants as stop
use Rattle.unify_core.specs.Places.{arguments}
use Rattle.unify_core.specs.Meets.{agrees, first_of, count_of, paired, ArePlaces, AreRoots, MetRoots}
use Rattle.unify_core.proofs.OccursLaws.{sizes, arguments_smaller, all_append}

-- how large the left sides are
abbrev pub weight : (ℕ → Term) → List Pair → ℕ
weight value ps = total (map (λ p. size (value p.left)) ps)

weight-append : (value : ℕ → Term) (xs ys : List Pair) → weight value (xs ++ ys) ≡ weight value xs + weight value ys
weight-append value [] ys = omega arith
weight-append value (x ∷ xs) ys = omega (arith, weight-append value xs ys)

weight-reverse : (value : ℕ → Term) (ps : List Pair) → weight value (reverse ps) ≡ weight value ps
weight-reverse value [] = refl
weight-reverse value (p ∷ ps) = omega (arith, ap (weight value) (reverse-append (p ∷ []) ps), weight-append value (reverse ps) (p ∷ []), weight-reverse value ps)

weight-paired : (value : ℕ → Term) (l r n : ℕ) → weight value (paired l r n) ≡ sizes value (places l n)
weight-paired value l r zero = refl
weight-paired value l r (suc n) = ap (λ k. size (value l) + k) (weight-paired value (suc l) (suc r) n)

all_reversed : (P : Pair → Type 0) (ps : List Pair) → AllByRecursion P ps → AllByRecursion P (reverse ps)
all_reversed P [] h = tt
all_reversed P (p ∷ ps) h = subst (AllByRecursion P) (sym (reverse-append (p ∷ []) ps)) (all_append P (reverse ps) (p ∷ []) (all_reversed P ps h.1) (h.0, tt))

paired_in : (n l r count : ℕ) → l + count ≤ n → r + count ≤ n → ArePlaces n (paired l r count)
paired_in n l r zero a b = tt
paired_in n l r (suc count) a b = ((omega (arith, a), omega (arith, b)), paired_in n (suc l) (suc r) count (omega (arith, a)) (omega (arith, b)))

block_in : (n : ℕ) (c : Cell) → NamesBelow n c → first_of c + count_of c ≤ n
block_in n cell.Free names = omega arith
block_in n (cell.Ref b) names = omega arith
block_in n (cell.Int k) names = omega arith
block_in n (cell.Atom a) names = omega arith
block_in n (cell.Node f count first) names = names

same_count : (c d : Cell) → agrees c d ≡ true → count_of c ≡ count_of d
same_count (cell.Int m) (cell.Int n) e = refl
same_count (cell.Atom a) (cell.Atom b) e = refl
same_count (cell.Node f m p) (cell.Node g n q) e = eqb-true m n (and_parts (f == g) (m == n) e).1
same_count (cell.Int m) cell.Free e = refl
same_count (cell.Int m) (cell.Ref b) e = refl
same_count (cell.Int m) (cell.Atom b) e = refl
same_count (cell.Int m) (cell.Node g n q) e = absurd (true≢false (sym e))
same_count (cell.Atom a) cell.Free e = refl
same_count (cell.Atom a) (cell.Ref b) e = refl
same_count (cell.Atom a) (cell.Int n) e = refl
same_count (cell.Atom a) (cell.Node g n q) e = absurd (true≢false (sym e))
same_count (cell.Node f m p) cell.Free e = absurd (true≢false (sym e))
same_count (cell.Node f m p) (cell.Ref b) e = absurd (true≢false (sym e))
same_count (cell.Node f m p) (cell.Int n) e = absurd (true≢false (sym e))
same_count (cell.Node f m p) (cell.Atom b) e = absurd (true≢false (sym e))
same_count cell.Free d e = absurd (true≢false (sym e))
same_count (cell.Ref b) d e = absurd (true≢false (sym e))

block_arguments : (c : Cell) → places (first_of c) (count_of c) ≡ arguments c
block_arguments cell.Free = refl
block_arguments (cell.Ref b) = refl
block_arguments (cell.Int k) = refl
block_arguments (cell.Atom a) = refl
block_arguments (cell.Node f count first) = refl

module _ (h : List Change) (made : IsMade h) (left right x y : ℕ) (roots : AreRoots h left right x y) (before after : List Pair) where
  abbrev at : ℕ → Cell
  at i = cell_at (cells_of h) i

  pub met_places : MetRoots h x y before None after → ArePlaces (size_of h) before → ArePlaces (size_of h) after
  met_places (inl same) all = subst (ArePlaces (size_of h)) (sym same.1) all
  met_places (inr agreed) all =
      let n = count_of (at x) in
      let in_x : first_of (at x) + n ≤ size_of h = block_in (size_of h) (at x) (names_in h x made roots.left_in) in
      let in_y : first_of (at y) + count_of (at y) ≤ size_of h = block_in (size_of h) (at y) (names_in h y made roots.right_in) in
      let counts : n ≡ count_of (at y) = same_count (at x) (at y) agreed.0.agree in
      subst (ArePlaces (size_of h)) (sym agreed.1)
      (all_append _ before (reverse (paired (first_of (at x)) (first_of (at y)) n)) all (all_reversed _ (paired (first_of (at x)) (first_of (at y)) n) (paired_in (size_of h) (first_of (at x)) (first_of (at y)) n in_x (omega (arith, in_y, counts)))))

  pub met_lighter : MetRoots h x y before None after → (old : List Pair) (p : Pair) → old ≡ before ++ p ∷ [] → p.left ≡ left → weight (value_of h) after < weight (value_of h) old
  met_lighter (inl same) old p e is =
      omega (arith, ap (weight (value_of h)) same.1, ap (weight (value_of h)) e, weight-append (value_of h) before (p ∷ []), size_pos (value_of h p.left))
  met_lighter (inr agreed) old p e is =
      let ps = paired (first_of (at x)) (first_of (at y)) (count_of (at x)) in
      let less : sizes (value_of h) (places (first_of (at x)) (count_of (at x))) < size (value_of h p.left) =
      subst (λ k. sizes (value_of h) k < size (value_of h p.left)) (sym (block_arguments (at x)))
      (subst (λ t. sizes (value_of h) (arguments (at x)) < size t) (roots.left_same ∙ ap (value_of h) (sym is)) (arguments_smaller h x made roots.left_in (at x) refl)) in
      omega (arith, less, ap (weight (value_of h)) agreed.1, ap (weight (value_of h)) e, weight-append (value_of h) before (p ∷ []), weight-append (value_of h) before (reverse ps), weight-reverse (value_of h) ps, weight-paired (value_of h) (first_of (at x)) (first_of (at y)) (count_of (at x)))

  -- where it stops, the pairs behind are left
  pub met_rest : (s : Stop) → MetRoots h x y before (Some s) after → after ≡ before
  met_rest stop.Clash met = met.1
  met_rest stop.Cyclic met = met.2
  met_rest (stop.Bind v t) met = met.3

-- Whether the term of a place has a variable, by its cell.
use Rattle.std.proofs.Common.{◌≡◌, ◌≤◌, ◌<◌, ◌⊎◌, inl, inr, ℕ, zero, suc, ◌+◌, ◌-◌, Bool, true, false, ◌&&◌, List, map, refl, sym, ap, ◌∙◌, subst, arith, add-one}
use Rattle.std.specs.List.{list_all}
use Rattle.std.proofs.lemmas.Bool.{cases_eq}
use Rattle.term_core.specs.declared.terms.Term.{Term}
use Rattle.term_core.specs.Terms.{is_ground, is_ground_step}
use Rattle.term_core.specs.Sizes.{size, size_step, total}
use Rattle.term_core.proofs.TermFolds.{fold-Var, fold-Int, fold-Atom, fold-Node}
use Rattle.term_heap.specs.declared.cells.Cell.{Cell}
use Rattle.term_heap.specs.declared.cells.Cell.TheVariants as cell
use Rattle.term_heap.specs.Changes.{Change, cells_of, cell_at, size_of, value_of, cell_term, places, IsMade, NamesBelow}
use Rattle.term_heap.proofs.ValueLaws.{fits, names_in}

-- how large the terms of places in a row are
abbrev pub sizes : (ℕ → Term) → (first count : ℕ) → ℕ
sizes value first zero = 0
sizes value first (suc count) = size (value first) + sizes value (suc first) count

-- whether they have no variables
abbrev pub all_ground : (ℕ → Term) → (first count : ℕ) → Bool
all_ground value first count = list_all (λ p. is_ground (value p)) (places first count)

module _ (value : ℕ → Term) where
  total_sizes : (first count : ℕ) → total (map size (map value (places first count))) ≡ sizes value first count
  total_sizes first zero = refl
  total_sizes first (suc count) = ap (λ n. size (value first) + n) (total_sizes (suc first) count)

  pub place_size : (first count at : ℕ) → first ≤ at → at < first + count → size (value at) ≤ sizes value first count
  place_size first zero at le lt = absurd (omega (arith, le, lt))
  place_size first (suc count) at le lt = by_place (cases_eq at first) (place_size (suc first) count at) where
    by_place : (at ≡ first) ⊎ (at ≡ first → ⊥) → (suc first ≤ at → at < suc first + count → size (value at) ≤ sizes value (suc first) count) → size (value at) ≤ sizes value first (suc count)
    by_place (inl e) further = let same : size (value at) ≡ size (value first) = ap (λ k. size (value k)) e in omega (arith, same)
    by_place (inr ne) further = let rest : size (value at) ≤ sizes value (suc first) count = further (omega (arith, ne, le)) (omega (arith, lt)) in omega (arith, rest)

  pub fewer_sizes : (first count more : ℕ) → count ≤ more → sizes value first count ≤ sizes value first more
  fewer_sizes first zero more le = omega arith
  fewer_sizes first (suc count) zero le = absurd (omega (arith, le))
  fewer_sizes first (suc count) (suc more) le = omega (arith, fewer_sizes (suc first) count more (omega (arith, le)))

  ground_map : (first count : ℕ) → list_all (λ b. b) (map is_ground (map value (places first count))) ≡ all_ground value first count
  ground_map first zero = refl
  ground_map first (suc count) = ap (λ b. is_ground (value first) && b) (ground_map (suc first) count)

  -- the last place apart
  pub last_apart : (first count : ℕ) → all_ground value first (suc count) ≡ (all_ground value first count && is_ground (value (first + count)))
  last_apart first zero =
      let here : first ≡ first + 0 = omega arith in
      and_true (is_ground (value first)) ∙ ap (λ k. is_ground (value k)) here where
        and_true : (b : Bool) → (b && true) ≡ b
        and_true true = refl
        and_true false = refl
  last_apart first (suc count) =
      let over : suc first + count ≡ first + suc count = omega arith in
      ap (λ b. is_ground (value first) && b) (last_apart (suc first) count ∙ ap (λ k. all_ground value (suc first) count && is_ground (value k)) over)
      ∙ regroup (is_ground (value first)) (all_ground value (suc first) count) (is_ground (value (first + suc count))) where
        regroup : (a b c : Bool) → (a && (b && c)) ≡ ((a && b) && c)
        regroup true b c = refl
        regroup false b c = refl

  -- the turn of a loop over them
  pub first_apart : (at end : ℕ) → at < end → all_ground value at (end - at) ≡ (is_ground (value at) && all_ground value (at + 1) (end - (at + 1)))
  first_apart at end lt =
      let more : end - at ≡ suc (end - (at + 1)) = omega (arith, lt) in
      ap (all_ground value at) more ∙ ap (λ k. is_ground (value at) && all_ground value k (end - (at + 1))) (sym (add-one at))

module _ (h : List Change) (root : ℕ) (made : IsMade h) (within : root < size_of h) (c : Cell) (is : c ≡ cell_at (cells_of h) root) where
  term_is : value_of h root ≡ cell_term (value_of h) root c
  term_is = fits h root made within ∙ ap (cell_term (value_of h) root) (sym is)

  pub of_free : c ≡ cell.Free → is_ground (value_of h root) ≡ false
  of_free e = ap is_ground (term_is ∙ ap (cell_term (value_of h) root) e) ∙ fold-Var Bool is_ground_step root

  pub of_int : (n : _) → c ≡ cell.Int n → is_ground (value_of h root) ≡ true
  of_int n e = ap is_ground (term_is ∙ ap (cell_term (value_of h) root) e) ∙ fold-Int Bool is_ground_step n

  pub of_atom : (a : ℕ) → c ≡ cell.Atom a → is_ground (value_of h root) ≡ true
  of_atom a e = ap is_ground (term_is ∙ ap (cell_term (value_of h) root) e) ∙ fold-Atom Bool is_ground_step a

  module _ (f count first : ℕ) (node : c ≡ cell.Node f count first) where
    pub of_node : is_ground (value_of h root) ≡ all_ground (value_of h) first count
    of_node = ap is_ground (term_is ∙ ap (cell_term (value_of h) root) node) ∙ fold-Node Bool is_ground_step f (map (value_of h) (places first count)) ∙ ground_map (value_of h) first count

    pub size_of_node : size (value_of h root) ≡ sizes (value_of h) first count + 1
    size_of_node = ap size (term_is ∙ ap (cell_term (value_of h) root) node) ∙ fold-Node ℕ size_step f (map (value_of h) (places first count)) ∙ ap (λ n. n + 1) (total_sizes (value_of h) first count)

    pub row_within : first + count ≤ size_of h
    row_within = subst (NamesBelow (size_of h)) (sym is ∙ node) (names_in h root made within)

    -- the last argument apart
    pub node_apart : 0 < count → is_ground (value_of h root) ≡ (all_ground (value_of h) first (count - 1) && is_ground (value_of h (first + (count - 1))))
    node_apart some =
        let more : count ≡ suc (count - 1) = omega (arith, some) in
        of_node ∙ ap (all_ground (value_of h) first) more ∙ last_apart (value_of h) first (count - 1)

-- The search for a variable in the term of a place.
use Rattle.std.proofs.Common.{◌≡◌, ◌<◌, ◌≤◌, ℕ, zero, suc, ◌+◌, ◌-◌, Bool, true, false, ◌||◌, List, [], ◌∷◌, ◌++◌, map, refl, sym, ap, ◌∙◌, subst, arith, add-one}
use Rattle.std.specs.List.{list_any, AllByRecursion}
use Rattle.std.proofs.lemmas.Bool.{eq-eqb, ne_eqb}
use Rattle.std.proofs.lemmas.List.{append_assoc}
use Rattle.term_core.specs.declared.terms.Term.{Term, Node}
use Rattle.term_core.specs.Terms.{occurs, occurs_step}
use Rattle.term_core.proofs.TermFolds.{fold-Int, fold-Atom, fold-Node}
use Rattle.term_core.proofs.Occurrences.{occurs-Node, occurs-Var}
use Rattle.term_core.specs.Sizes.{size, size_step, total}
use Rattle.term_core.proofs.Sizes.{size_pos}
use Rattle.term_heap.specs.declared.cells.Cell.{Cell}
use Rattle.term_heap.specs.declared.cells.Cell.TheVariants as cell
use Rattle.term_heap.specs.Changes.{Change, value_of, size_of, cells_of, cell_at, cell_term, places, NamesBelow, IsMade, IsEnd}
use Rattle.unify_core.specs.Places.{arguments}
use Rattle.term_heap.proofs.ValueLaws.{fits, names_in}

places_more : (at end : ℕ) → at < end → places at (end - at) ≡ at ∷ places (at + 1) (end - (at + 1))
places_more at end lt =
    let more : end - at ≡ suc (end - (at + 1)) = omega (arith, lt) in
    ap (places at) more ∙ ap (λ n. at ∷ places n (end - (at + 1))) (sym (add-one at))

pub places_pushed : (old new : List ℕ) (at end : ℕ) → at < end → new ≡ old ++ at ∷ [] → new ++ places (at + 1) (end - (at + 1)) ≡ old ++ places at (end - at)
places_pushed old new at end lt e =
    ap (λ xs. xs ++ places (at + 1) (end - (at + 1))) e ∙ append_assoc old (at ∷ []) (places (at + 1) (end - (at + 1))) ∙ ap (λ xs. old ++ xs) (sym (places_more at end lt))

or_assoc : (a b c : Bool) → ((a || b) || c) ≡ (a || (b || c))
or_assoc true b c = refl
or_assoc false b c = refl

pub any_append : {A : Type 0} (p : A → Bool) (xs ys : List A) → list_any p (xs ++ ys) ≡ (list_any p xs || list_any p ys)
any_append p [] ys = refl
any_append p (x ∷ xs) ys = ap (λ b. p x || b) (any_append p xs ys) ∙ sym (or_assoc (p x) (list_any p xs) (list_any p ys))

any_map : (v : ℕ) (value : ℕ → Term) (ps : List ℕ) → list_any (λ b. b) (map (occurs v) (map value ps)) ≡ list_any (λ p. occurs v (value p)) ps
any_map v value [] = refl
any_map v value (p ∷ ps) = ap (λ b. occurs v (value p) || b) (any_map v value ps)

-- a place whose cell is no reference, and is not the variable: what stands in it stands in its arguments
pub occurs_arguments : (h : List Change) (v at : ℕ) → IsMade h → at < size_of h → (at ≡ v → ⊥) → (c : Cell) → cell_at (cells_of h) at ≡ c → IsEnd c →
    occurs v (value_of h at) ≡ list_any (λ p. occurs v (value_of h p)) (arguments c)
occurs_arguments h v at made lt ne c e end = ap (occurs v) (fits h at made lt ∙ ap (cell_term (value_of h) at) e) ∙ by_cell c end where
  by_cell : (c : Cell) → IsEnd c → occurs v (cell_term (value_of h) at c) ≡ list_any (λ p. occurs v (value_of h p)) (arguments c)
  by_cell cell.Free end = occurs-Var v at ∙ ne_eqb v at (λ same. ne (sym same))
  by_cell (cell.Ref to) end = absurd end
  by_cell (cell.Int n) end = fold-Int Bool (occurs_step v) n
  by_cell (cell.Atom a) end = fold-Atom Bool (occurs_step v) a
  by_cell (cell.Node f count first) end = occurs-Node v f (map (value_of h) (places first count)) ∙ any_map v (value_of h) (places first count)

-- how large the terms of places are
abbrev pub sizes : (ℕ → Term) → List ℕ → ℕ
sizes value ps = total (map (λ p. size (value p)) ps)

pub sizes-append : (value : ℕ → Term) (xs ys : List ℕ) → sizes value (xs ++ ys) ≡ sizes value xs + sizes value ys
sizes-append value [] ys = omega arith
sizes-append value (x ∷ xs) ys = omega (arith, sizes-append value xs ys)

sizes_map : (value : ℕ → Term) (ps : List ℕ) → total (map size (map value ps)) ≡ sizes value ps
sizes_map value [] = refl
sizes_map value (p ∷ ps) = ap (λ n. size (value p) + n) (sizes_map value ps)

-- the arguments of a place are smaller than it
pub arguments_smaller : (h : List Change) (at : ℕ) → IsMade h → at < size_of h → (c : Cell) → cell_at (cells_of h) at ≡ c → sizes (value_of h) (arguments c) < size (value_of h at)
arguments_smaller h at made lt c e = subst (λ t. sizes (value_of h) (arguments c) < size t) (sym (fits h at made lt ∙ ap (cell_term (value_of h) at) e)) (by_cell c) where
  by_cell : (c : Cell) → sizes (value_of h) (arguments c) < size (cell_term (value_of h) at c)
  by_cell cell.Free = size_pos _
  by_cell (cell.Ref to) = size_pos _
  by_cell (cell.Int n) = size_pos _
  by_cell (cell.Atom a) = size_pos _
  by_cell (cell.Node f count first) =
      let whole : size (Node f (map (value_of h) (places first count))) ≡ total (map size (map (value_of h) (places first count))) + 1 = fold-Node ℕ size_step f (map (value_of h) (places first count)) in
      omega (arith, whole, sizes_map (value_of h) (places first count))

places_in : (n first count : ℕ) → first + count ≤ n → AllByRecursion (λ p. p < n) (places first count)
places_in n first zero le = tt
places_in n first (suc count) le = (omega (arith, le), places_in n (suc first) count (omega (arith, le)))

-- the arguments of a place are there
pub arguments_in : (h : List Change) (at : ℕ) → IsMade h → at < size_of h → (c : Cell) → cell_at (cells_of h) at ≡ c → AllByRecursion (λ p. p < size_of h) (arguments c)
arguments_in h at made lt c e = by_cell c (subst (NamesBelow (size_of h)) e (names_in h at made lt)) where
  by_cell : (c : Cell) → NamesBelow (size_of h) c → AllByRecursion (λ p. p < size_of h) (arguments c)
  by_cell cell.Free names = tt
  by_cell (cell.Ref to) names = tt
  by_cell (cell.Int n) names = tt
  by_cell (cell.Atom a) names = tt
  by_cell (cell.Node f count first) names = places_in (size_of h) first count names

pub all_append : {A : Type 0} (P : A → Type 0) (xs ys : List A) → AllByRecursion P xs → AllByRecursion P ys → AllByRecursion P (xs ++ ys)
all_append P [] ys h k = k
all_append P (x ∷ xs) ys h k = (h.0, all_append P xs ys h.1 k)

pub all_front : {A : Type 0} (P : A → Type 0) (xs ys : List A) → AllByRecursion P (xs ++ ys) → AllByRecursion P xs × AllByRecursion P ys
all_front P [] ys h = (tt, h)
all_front P (x ∷ xs) ys h = let k = all_front P xs ys h.1 in ((h.0, k.0), k.1)

-- one turn of the search: the last place is taken off, and the arguments of its root come in its place
pub record Looks (h : List Change) (v : ℕ) (old new : List ℕ) : Type 0 where
  pub same : list_any (λ p. occurs v (value_of h p)) new ≡ list_any (λ p. occurs v (value_of h p)) old
  pub within : AllByRecursion (λ p. p < size_of h) new
  pub smaller : sizes (value_of h) new < sizes (value_of h) old

pub looked : (h : List Change) (v here root : ℕ) (c : Cell) (old rest new : List ℕ) → IsMade h → AllByRecursion (λ p. p < size_of h) old → old ≡ rest ++ here ∷ [] →
    root < size_of h → value_of h root ≡ value_of h here → (root ≡ v → ⊥) → cell_at (cells_of h) root ≡ c → IsEnd c → new ≡ rest ++ arguments c → Looks h v old new
looked h v here root c old rest new made all is_old lt same ne e end is_new =
    let test : ℕ → Bool = λ p. occurs v (value_of h p) in
    let here_is : test here ≡ list_any test (arguments c) = ap (occurs v) (sym same) ∙ occurs_arguments h v root made lt ne c e end in
    let before : AllByRecursion (λ p. p < size_of h) (rest ++ here ∷ []) = subst (AllByRecursion (λ p. p < size_of h)) is_old all in
    let less : sizes (value_of h) (arguments c) < size (value_of h here) = subst (λ t. sizes (value_of h) (arguments c) < size t) same (arguments_smaller h root made lt c e) in
    record {
      same = ap (list_any test) is_new ∙ any_append test rest (arguments c) ∙ ap (λ b. list_any test rest || b) (sym here_is ∙ or_false (test here)) ∙ sym (any_append test rest (here ∷ [])) ∙ ap (list_any test) (sym is_old);
      within = subst (AllByRecursion (λ p. p < size_of h)) (sym is_new) (all_append _ rest (arguments c) (all_front _ rest (here ∷ []) before).0 (arguments_in h root made lt c e));
      smaller = omega (arith, less, ap (sizes (value_of h)) is_new, ap (sizes (value_of h)) is_old, sizes-append (value_of h) rest (arguments c), sizes-append (value_of h) rest (here ∷ []));
    }
  where
    or_false : (b : Bool) → b ≡ (b || false)
    or_false true = refl
    or_false false = refl

-- the variable itself was found
pub found : (h : List Change) (v here at : ℕ) (old rest : List ℕ) → IsMade h → v < size_of h → cell_at (cells_of h) v ≡ cell.Free → old ≡ rest ++ here ∷ [] → value_of h v ≡ value_of h here →
    list_any (λ p. occurs v (value_of h p)) old ≡ occurs v (value_of h at) → true ≡ occurs v (value_of h at)
found h v here at old rest made lt free is_old same all =
    let test : ℕ → Bool = λ p. occurs v (value_of h p) in
    let stands : test here ≡ true = ap (occurs v) (sym same ∙ fits h v made lt ∙ ap (cell_term (value_of h) v) free) ∙ occurs-Var v v ∙ eq-eqb v v refl in
    sym (or_true (list_any test rest)) ∙ ap (λ b. list_any test rest || (b || false)) (sym stands) ∙ sym (any_append test rest (here ∷ [])) ∙ ap (list_any test) (sym is_old) ∙ all
  where
    or_true : (b : Bool) → (b || true) ≡ true
    or_true true = refl
    or_true false = refl

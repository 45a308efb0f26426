-- Steps that build a term from cells.
use Rattle.std.proofs.Common.{◌≡◌, ◌<◌, ◌≤◌, ℕ, zero, suc, ◌+◌, ◌-◌, List, [], ◌∷◌, ◌++◌, map, length, reverse, take, drop, refl, sym, ap, ◌∙◌, subst, arith, add-one}
use Rattle.std.specs.List.{AllByRecursion}
use Rattle.std.proofs.lemmas.List.{append_assoc, reverse-append, reverse-reverse, take_at, drop_at, length-map}
use Rattle.term_core.specs.declared.terms.Term.{Term, Node}
use Rattle.term_core.specs.Sizes.{size, size_step, size_all}
use Rattle.term_core.proofs.Sizes.{size_pos}
use Rattle.term_core.proofs.TermFolds.{fold-Node}
use Rattle.term_heap.specs.declared.cells.Cell.{Cell}
use Rattle.term_heap.specs.declared.decoding.Step.{Step}
use Rattle.term_heap.specs.declared.decoding.Step.TheVariants.{Open, Close}
use Rattle.term_heap.specs.Changes.{Change, size_of, value_of, cells_of, cell_at, cell_term, places, IsMade}
use Rattle.term_heap.specs.Decodes.{built, weights, IsOpenable, HasStepped}
use Rattle.term_heap.proofs.ValueLaws.{fits}

-- places in a row, of which the last is the next to open

built_opens : (value : ℕ → Term) (first count : ℕ) (steps : List Step) (done : List Term) → built value (reverse (map Open (places first count)) ++ steps) done ≡ built value steps (map value (places first count) ++ done)
built_opens value first zero steps done = refl
built_opens value first (suc count) steps done =
    let rest : List Step = map Open (places (suc first) count) in
    ap (λ ss. built value (ss ++ steps) done) (reverse-append (Open first ∷ []) rest)
    ∙ ap (λ ss. built value ss done) (append_assoc (reverse rest) (Open first ∷ []) steps)
    ∙ built_opens value (suc first) count (Open first ∷ steps) done

length_places : (first count : ℕ) → length (places first count) ≡ count
length_places first zero = refl
length_places first (suc count) = ap suc (length_places (suc first) count)

built_node : (value : ℕ → Term) (f count first : ℕ) (steps : List Step) (done : List Term) →
    built value (reverse (map Open (places first count)) ++ Close f count ∷ steps) done ≡ built value steps (Node f (map value (places first count)) ∷ done)
built_node value f count first steps done =
    let ts : List Term = map value (places first count) in
    let many : length ts ≡ count = length-map (places first count) value ∙ length_places first count in
    built_opens value first count (Close f count ∷ steps) done ∙ (λ i. built value steps (Node f (take_at ts done count many i) ∷ drop_at ts done count many i))

weights_append : (value : ℕ → Term) (xs ys : List Step) → weights value (xs ++ ys) ≡ weights value xs + weights value ys
weights_append value [] ys = omega arith
weights_append value (Open at ∷ xs) ys = omega (arith, weights_append value xs ys)
weights_append value (Close f count ∷ xs) ys = omega (arith, weights_append value xs ys)

-- the next step as the last one of a list
pub weights_turned : (value : ℕ → Term) (rest : List Step) (step : Step) → weights value (rest ++ step ∷ []) ≡ weights value (step ∷ rest)
weights_turned value rest (Open at) = omega (arith, weights_append value rest (Open at ∷ []))
weights_turned value rest (Close f count) = omega (arith, weights_append value rest (Close f count ∷ []))

weights_opens : (value : ℕ → Term) (first count : ℕ) → weights value (map Open (places first count)) ≡ size_all (map value (places first count)) + size_all (map value (places first count))
weights_opens value first zero = refl
weights_opens value first (suc count) = omega (arith, weights_opens value (suc first) count)

opens_in : (n first count : ℕ) → first + count ≤ n → AllByRecursion (IsOpenable n) (map Open (places first count))
opens_in n first zero le = tt
opens_in n first (suc count) le = (omega (arith, le), opens_in n (suc first) count (omega (arith, le)))

all_behind : (n : ℕ) (xs ys : List Step) → AllByRecursion (IsOpenable n) xs → AllByRecursion (IsOpenable n) ys → AllByRecursion (IsOpenable n) (xs ++ ys)
all_behind n [] ys h k = k
all_behind n (x ∷ xs) ys h k = (h.0, all_behind n xs ys h.1 k)

-- pushing them

pub opens_pushed : (old new : List Step) (at end : ℕ) → at < end → new ≡ old ++ Open at ∷ [] → new ++ map Open (places (at + 1) (end - (at + 1))) ≡ old ++ map Open (places at (end - at))
opens_pushed old new at end lt e =
    let rest : List Step = map Open (places (at + 1) (end - (at + 1))) in
    let more : end - at ≡ suc (end - (at + 1)) = omega (arith, lt) in
    let whole : places at (end - at) ≡ at ∷ places (at + 1) (end - (at + 1)) = ap (places at) more ∙ ap (λ n. at ∷ places n (end - (at + 1))) (sym (add-one at)) in
    ap (λ xs. xs ++ rest) e ∙ append_assoc old (Open at ∷ []) rest ∙ ap (λ ps. old ++ map Open ps) (sym whole)

-- the steps

-- what the cell to which references lead gives the place
pub root_term : (h : List Change) (at root : ℕ) (c : Cell) → IsMade h → root < size_of h → value_of h root ≡ value_of h at → c ≡ cell_at (cells_of h) root → value_of h at ≡ cell_term (value_of h) root c
root_term h at root c made lt same e = sym same ∙ fits h root made lt ∙ ap (cell_term (value_of h) root) (sym e)

pub opened_leaf : (h : List Change) (at : ℕ) (t : Term) (left : List Step) (done new_done : List Term) → value_of h at ≡ t → new_done ≡ done ++ t ∷ [] → HasStepped h (Open at) left done left new_done
opened_leaf h at t left done new_done is is_new =
    let value : ℕ → Term = value_of h in
    record {
      same = ap (λ ts. built value (reverse left) (reverse ts)) is_new ∙ ap (built value (reverse left)) (reverse-append done (t ∷ [])) ∙ ap (λ u. built value (reverse left) (u ∷ reverse done)) (sym is);
      lighter = omega (arith, size_pos (value at));
      within = λ all. all;
    }

pub opened_node : (h : List Change) (at f count first : ℕ) (left new_left : List Step) (done : List Term) → value_of h at ≡ Node f (map (value_of h) (places first count)) → first + count ≤ size_of h →
    new_left ≡ left ++ Close f count ∷ map Open (places first count) → HasStepped h (Open at) left done new_left done
opened_node h at f count first left new_left done is names is_new =
    let value : ℕ → Term = value_of h in
    let opens : List Step = map Open (places first count) in
    let turned : reverse new_left ≡ reverse opens ++ Close f count ∷ reverse left =
    ap reverse is_new ∙ reverse-append left (Close f count ∷ opens) ∙ ap (λ ss. ss ++ reverse left) (reverse-append (Close f count ∷ []) opens) ∙ append_assoc (reverse opens) (Close f count ∷ []) (reverse left) in
    let whole : size (value at) ≡ size_all (map value (places first count)) + 1 = ap size is ∙ fold-Node ℕ size_step f (map value (places first count)) in
    let heavy : weights value new_left ≡ weights value left + weights value (Close f count ∷ opens) = ap (weights value) is_new ∙ weights_append value left (Close f count ∷ opens) in
    record {
      same = ap (λ ss. built value ss (reverse done)) turned ∙ built_node value f count first (reverse left) (reverse done) ∙ ap (λ t. built value (reverse left) (t ∷ reverse done)) (sym is);
      lighter = omega (arith, whole, heavy, weights_opens value first count);
      within = λ all. subst (AllByRecursion (IsOpenable (size_of h))) (sym is_new) (all_behind (size_of h) left (Close f count ∷ opens) all (tt, opens_in (size_of h) first count names));
    }

pub closed : (h : List Change) (f count : ℕ) (left : List Step) (done new_done : List Term) → reverse new_done ≡ Node f (take count (reverse done)) ∷ drop count (reverse done) → HasStepped h (Close f count) left done left new_done
closed h f count left done new_done e = record { same = ap (built (value_of h) (reverse left)) e; lighter = omega arith; within = λ all. all }

-- one term is left
pub all_built : (done : List Term) (t : Term) → reverse done ≡ t ∷ [] → done ≡ t ∷ []
all_built done t e = sym (reverse-reverse done) ∙ ap reverse e

pub no_steps : (steps : List Step) → length steps ≡ 0 → steps ≡ []
no_steps [] e = refl
no_steps (step ∷ steps) e = absurd (omega (arith, e))

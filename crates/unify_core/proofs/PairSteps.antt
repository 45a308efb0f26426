-- What the next pair does to the equations at the start.
use Rattle.std.proofs.Common.{◌≡◌, ◌<◌, ℕ, inl, inr, true, false, List, [], ◌∷◌, ◌++◌, map, reverse, Some, None, refl, sym, ap, ◌∙◌, subst, true≢false}
use Rattle.std.proofs.lemmas.List.{reverse-append}
use Rattle.term_core.specs.declared.terms.Term.{Term, Var}
use Rattle.term_core.specs.declared.equations.Equation.{Equation}
use Rattle.term_core.specs.declared.equations.Outcome.TheVariants as outcome
use Rattle.term_core.specs.Terms.{replace, occurs}
use Rattle.term_core.specs.Unify.{pairs, Cycles, move, replace_all}
use Rattle.term_core.specs.Variants.{EndsAs}
use Rattle.term_core.proofs.TermLaws.{map_map}
use Rattle.term_heap.specs.declared.cells.Cell.{Cell}
use Rattle.term_heap.specs.declared.cells.Cell.TheVariants as cell
use Rattle.term_heap.specs.Changes.{Change, value_of, size_of, cells_of, cell_at, cell_term, places, IsMade}
use Rattle.term_heap.proofs.ValueLaws.{fits}
use Rattle.unify_core.specs.declared.pairs.Pair.{Pair}
use Rattle.unify_core.specs.declared.pairs.Stop.{Stop}
use Rattle.unify_core.specs.declared.pairs.Stop.TheVariants as stop
use Rattle.unify_core.specs.Leads.{Leads, Goes, Bindable}
use Rattle.unify_core.specs.Meets.{first_of, count_of, is_free, paired, pair_equations, AreRoots, IsVariable, MetRoots}
use Rattle.unify_core.specs.Reduces.{StandsAt}
use Rattle.term_core.proofs.KindLaws.{equation}
use Rattle.unify_core.proofs.LeadLaws.{leads_same, leads_bound}
use Rattle.unify_core.proofs.MeetLaws.{leads_goes, binds_left, ends_clash, ends_cycle}
use Rattle.unify_core.proofs.PairLaws.{pushed_equations, paired_equations}
use Rattle.unify_core.proofs.ReduceLaws.{agree_goes, differ, left_binds, left_cycles, right_bindable, right_cycles}

pub first_pair : (value : ℕ → Term) (old rest : List Pair) (p : Pair) → old ≡ rest ++ p ∷ [] → pair_equations value old ≡ equation (value p.left) (value p.right) ∷ pair_equations value rest
first_pair value old rest p e = ap (pair_equations value) e ∙ ap (map (λ q. equation (value q.left) (value q.right))) (reverse-append rest (p ∷ []))

free_is : (c : Cell) → is_free c ≡ true → c ≡ cell.Free
free_is cell.Free e = refl
free_is (cell.Ref b) e = absurd (true≢false (sym e))
free_is (cell.Int n) e = absurd (true≢false (sym e))
free_is (cell.Atom a) e = absurd (true≢false (sym e))
free_is (cell.Node f n p) e = absurd (true≢false (sym e))

replaced_pairs : (v : ℕ) (t : Term) (value : ℕ → Term) (ps : List Pair) → replace_all v t (pair_equations value ps) ≡ pair_equations (λ i. replace v t (value i)) ps
replaced_pairs v t value ps = map_map (λ e. equation (replace v t e.left) (replace v t e.right)) (λ p. equation (value p.left) (value p.right)) (reverse ps)

module _ (h : List Change) (made : IsMade h) (left right x y : ℕ) (roots : AreRoots h left right x y) (before : List Pair) (start : List Equation) (value : ℕ → Term) where
  abbrev of : ℕ → Term
  of = value_of h

  abbrev at : ℕ → Cell
  at i = cell_at (cells_of h) i

  abbrev rest : List Equation
  rest = pair_equations of before

  of_x : of x ≡ cell_term of x (at x)
  of_x = fits h x made roots.left_in

  of_y : of y ≡ cell_term of y (at y)
  of_y = fits h y made roots.right_in

  at_roots : Leads start value (equation (of left) (of right) ∷ rest) → Leads start value (equation (of x) (of y) ∷ rest)
  at_roots leads = subst (λ e. Leads start value (e ∷ rest)) (λ i. equation (sym roots.left_same i) (sym roots.right_same i)) leads

  pub met_none : (after : List Pair) → MetRoots h x y before None after → Leads start value (equation (of left) (of right) ∷ rest) → Leads start value (pair_equations of after)
  met_none after (inl same) leads =
      subst (λ ps. Leads start value (pair_equations of ps)) (sym same.1)
      (leads_same start value (of x) rest (subst (λ k. Leads start value (equation (of x) (of k) ∷ rest)) (sym same.0) (at_roots leads)))
  met_none after (inr agreed) leads =
      let p = first_of (at x) in
      let q = first_of (at y) in
      let n = count_of (at x) in
      let goes : Goes (equation (of x) (of y)) (pairs (map of (places p n)) (map of (places q n))) =
      subst (λ e. Goes e (pairs (map of (places p n)) (map of (places q n)))) (λ i. equation (sym of_x i) (sym of_y i)) (agree_goes of x y (at x) (at y) agreed.0.agree) in
      subst (Leads start value) (ap (λ es. es ++ rest) (sym (paired_equations of p q n)) ∙ sym (pushed_equations of before after (paired p q n) agreed.1))
      (leads_goes start value (equation (of x) (of y)) (pairs (map of (places p n)) (map of (places q n))) rest goes (at_roots leads))

  abbrev Stands : Stop → Type 0
  Stands s = StandsAt h start value (Some s) before

  -- a variable and a place
  binds : (v t : ℕ) → v < size_of h → at v ≡ cell.Free → t < size_of h → occurs v (of t) ≡ false → Bindable (equation (of x) (of y)) v (of t) → Leads start value (equation (of x) (of y) ∷ rest) → Stands (stop.Bind v t)
  binds v t bound free place absent may leads = (
    (record { bound = bound; free = free; place = place; absent = absent }),
    subst (Leads start (λ k. replace v (of t) (value k))) (replaced_pairs v (of t) of before) (leads_bound start value (equation (of x) (of y)) rest v (of t) may leads),
  )

  free_x : is_free (at x) ≡ true → of x ≡ Var x
  free_x free = of_x ∙ ap (cell_term of x) (free_is (at x) free)

  free_y : is_free (at y) ≡ true → of y ≡ Var y
  free_y free = of_y ∙ ap (cell_term of y) (free_is (at y) free)

  bind_x : (x ≡ y → ⊥) → is_free (at x) ≡ true → occurs x (of y) ≡ false → Bindable (equation (of x) (of y)) x (of y)
  bind_x ne free absent =
      let absent' : occurs x (cell_term of y (at y)) ≡ false = ap (occurs x) (sym of_y) ∙ absent in
      subst (λ s. Bindable (equation s (of y)) x (of y)) (sym (free_x free))
      (subst (λ t. Bindable (equation (Var x) t) x t) (sym of_y) (binds_left x (cell_term of y (at y)) absent' (left_binds of x y ne (at y) roots.right_end absent')))

  bind_y : (x ≡ y → ⊥) → is_free (at y) ≡ true → occurs y (of x) ≡ false → Bindable (equation (of x) (of y)) y (of x)
  bind_y ne free absent =
      subst (λ s. Bindable (equation (of x) s) y (of x)) (sym (free_y free))
      (subst (λ t. Bindable (equation t (Var y)) y t) (sym of_x) (right_bindable of y x (λ e. ne (sym e)) (at x) roots.left_end (ap (occurs y) (sym of_x) ∙ absent)))

  cycle_x : (x ≡ y → ⊥) → is_free (at x) ≡ true → occurs x (of y) ≡ true → move (equation (of x) (of y)) ≡ Cycles
  cycle_x ne free stands = (λ i. move (equation (free_x free i) (of_y i))) ∙ left_cycles of x y ne (at y) roots.right_end (ap (occurs x) (sym of_y) ∙ stands)

  cycle_y : (x ≡ y → ⊥) → is_free (at y) ≡ true → occurs y (of x) ≡ true → move (equation (of x) (of y)) ≡ Cycles
  cycle_y ne free stands = (λ i. move (equation (of_x i) (free_y free i))) ∙ right_cycles of y x (λ e. ne (sym e)) (at x) roots.left_end (ap (occurs y) (sym of_x) ∙ stands)

  abbrev Left : Type 0
  Left = Leads start value (equation (of x) (of y) ∷ rest)

  bound_by : (v t : ℕ) → (x ≡ y → ⊥) → IsVariable h x y v t → occurs v (of t) ≡ false → Left → Stands (stop.Bind v t)
  bound_by v t ne (inl is) absent leads =
      let absent' : occurs x (of y) ≡ false = (λ i. occurs (sym is.0 i) (of (sym is.1 i))) ∙ absent in
      subst (λ k. Stands (stop.Bind k t)) (sym is.0) (subst (λ k. Stands (stop.Bind x k)) (sym is.1)
      (binds x y roots.left_in (free_is (at x) is.2) roots.right_in absent' (bind_x ne is.2 absent') leads))
  bound_by v t ne (inr is) absent leads =
      let absent' : occurs y (of x) ≡ false = (λ i. occurs (sym is.0 i) (of (sym is.1 i))) ∙ absent in
      subst (λ k. Stands (stop.Bind k t)) (sym is.0) (subst (λ k. Stands (stop.Bind y k)) (sym is.1)
      (binds y x roots.right_in (free_is (at y) is.2) roots.left_in absent' (bind_y ne is.2 absent') leads))

  cycled_by : (v t : ℕ) → (x ≡ y → ⊥) → IsVariable h x y v t → occurs v (of t) ≡ true → Left → EndsAs start outcome.Cyclic
  cycled_by v t ne (inl is) stands leads = leads.ends outcome.Cyclic (ends_cycle (equation (of x) (of y)) rest (cycle_x ne is.2 ((λ i. occurs (sym is.0 i) (of (sym is.1 i))) ∙ stands)))
  cycled_by v t ne (inr is) stands leads = leads.ends outcome.Cyclic (ends_cycle (equation (of x) (of y)) rest (cycle_y ne is.2 ((λ i. occurs (sym is.0 i) (of (sym is.1 i))) ∙ stands)))

  pub met_some : (s : Stop) (after : List Pair) → MetRoots h x y before (Some s) after → Leads start value (equation (of left) (of right) ∷ rest) → StandsAt h start value (Some s) after
  met_some stop.Clash after met leads =
      (at_roots leads).ends outcome.Clash (ends_clash (equation (of x) (of y)) rest ((λ i. move (equation (of_x i) (of_y i))) ∙ differ of x y (at x) (at y) roots.left_end roots.right_end met.0.left_bound met.0.right_bound met.0.agree))
  met_some stop.Cyclic after met leads = cycled_by met.1.0 met.1.1 met.0 met.1.2 met.1.3 (at_roots leads)
  met_some (stop.Bind v t) after met leads = subst (StandsAt h start value (Some (stop.Bind v t))) (sym met.3) (bound_by v t met.0 met.1 met.2 (at_roots leads))

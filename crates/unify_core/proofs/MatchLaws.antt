-- One term of a head against one place.
use Rattle.std.proofs.Common.{◌≡◌, ◌<◌, ◌≤◌, ◌^◌, ℕ, zero, suc, ◌+◌, ◌⊎◌, inl, inr, Bool, true, false, ◌||◌, List, [], ◌∷◌, map, length, refl, sym, ap, ◌∙◌, subst, arith, true≢false}
use Rattle.std.specs.List.{list_any, AllByRecursion}
use Rattle.std.specs.Prelude.{if◌then◌else◌, ◌&&◌, ◌==◌, ◌-◌, max, min}
use Rattle.std.proofs.lemmas.Bool.{eq-eqb, cases_lt, eqb-true, and_parts}
use Rattle.std.proofs.lemmas.Bool.Decides.{Decides-int_eq}
use Rattle.std.proofs.lemmas.List.{append-nil, length-map}
use Rattle.term_core.specs.declared.terms.Term.{Term, Var, Int, Atom, Node, out-Term}
use Rattle.term_core.specs.declared.terms.Term.TheOpen as layer
use Rattle.term_core.specs.declared.terms.Term.TheVariants.{outs-Var, outs-Int, outs-Atom, outs-Node}
use Rattle.term_core.specs.declared.equations.Outcome.TheVariants as outcome
use Rattle.term_core.specs.Shapes.{parts_of}
use Rattle.term_core.specs.Sizes.{size, size_all, size_step}
use Rattle.term_core.specs.Terms.{instance, instance_step, occurs, only, above, above_step, greatest}
use Rattle.term_core.specs.Unify.{pairs, Becomes, Clashes, move, move_at, after, Unified as EndsIn}
use Rattle.term_core.specs.Variants.{IsMostGeneral}
use Rattle.term_core.proofs.AloneLaws.{binds_first}
use Rattle.term_core.proofs.TermFolds.{fold-Var, fold-Int, fold-Atom, fold-Node}
use Rattle.term_core.proofs.TermLaws.{instance-Var, instance-Node}
use Rattle.term_core.proofs.Occurrences.{occurs-Node, occurs-Var}
use Rattle.term_core.proofs.VariantLaws.{var_inside, View, is_var, is_int, is_atom, is_node, view}
use Rattle.term_core.proofs.KindLaws.{equation}
use Rattle.term_heap.specs.declared.cells.Cell.{Cell}
use Rattle.term_heap.specs.declared.cells.Cell.TheVariants as cell
use Rattle.term_heap.specs.Changes.{Change, History, Grows, Binds, places, size_of, value_of, cells_of, cell_at, cell_term, MayBind, IsMade, IsEnd, NamesBelow, next_serial}
use Rattle.term_heap.specs.Loads.{IsPlaced, from_base, HasLoaded}
use Rattle.term_heap.specs.PastStays.{GoesOn}
use Rattle.term_heap.proofs.ValueLaws.{fits, names_in, grown_below}
use Rattle.term_heap.proofs.PastLaws.{sizes_stay, grows_on}
use Rattle.unify_core.specs.declared.unifying.Unified.{Unified}
use Rattle.unify_core.specs.declared.unifying.Unified.TheVariants as unified
use Rattle.unify_core.specs.Leads.{Goes}
use Rattle.unify_core.specs.Unifies.{HasUnified, places_equation}
use Rattle.unify_core.specs.Heads.{head_equations, HasMatched, AreNew}
use Rattle.unify_core.specs.declared.matching.Sight.{Sight}
use Rattle.unify_core.specs.declared.matching.Sight.TheVariants as sight
use Rattle.unify_core.specs.Meets.{agrees, first_of, is_free}
use Rattle.unify_core.specs.Unmet.{IsUnmet, MayMatch, AreMet, IsAlike, Seen, IsLike, IsSeen}
use Rattle.unify_core.proofs.HeadLaws.{is_cycle, parts_placed, above_within}
use Rattle.unify_core.proofs.MeetLaws.{goes_same, goes_nodes, is_clash}

-- histories that go on

pub goes_itself : (old : History) → GoesOn old old
goes_itself old = record { more = []; is_new = refl; serials = tt; last = omega arith }

pub goes_sizes : (old new : History) → GoesOn old new → size_of old.changes ≤ size_of new.changes
goes_sizes old new on = subst (λ h. size_of old.changes ≤ size_of h) (sym on.is_new) (sizes_stay on.more old.changes)

-- a place's equation with a term that another place has

module _ (old : List Change) (base at place : ℕ) (t : Term) (same : value_of old place ≡ instance (from_base (value_of old) base) t) where
  head_is : places_equation old at place ∷ [] ≡ head_equations (value_of old) base at (t ∷ [])
  head_is = λ i. equation (value_of old at) (same i) ∷ []

  pub unified_matched : (u : Unified) (new : List Change) → HasUnified old at place u new → HasMatched old base at (t ∷ []) u new
  unified_matched unified.Same new has = (has.0, subst (λ es. IsMostGeneral es has.0) head_is has.1, λ i lt. has.2 i)
  unified_matched unified.Clash new has = subst (λ es. EndsIn es outcome.Clash) head_is has
  unified_matched unified.Cyclic new has = subst (λ es. EndsIn es outcome.Cyclic) head_is has

pub variable_value : (value : ℕ → Term) (base v : ℕ) → value (v + base) ≡ instance (from_base value base) (Var v)
variable_value value base v = sym (instance-Var (from_base value base) v)

above_variable : (v : ℕ) → above (Var v) ≡ v + 1
above_variable v = fold-Var ℕ above_step v

pub variable_met : (next v : ℕ) (u : Unified) → v < next → AreMet u next (Var v ∷ []) next
variable_met next v unified.Same lt = (omega arith, (let p : _ = above_variable v in omega (arith, p, lt)))
variable_met next v unified.Clash lt = tt
variable_met next v unified.Cyclic lt = tt

pub variable_first : (next v : ℕ) → next ≤ v → AreMet unified.Same next (Var v ∷ []) (v + 1)
variable_first next v le = (omega (arith, le), (let p : _ = above_variable v in omega (arith, p)))

-- the root of a variable that is itself is that variable, and free
pub root_free : (h : List Change) (w root : ℕ) → IsMade h → root < size_of h → IsEnd (cell_at (cells_of h) root) → value_of h root ≡ value_of h w → value_of h w ≡ Var w → (root ≡ w) × (cell_at (cells_of h) root ≡ cell.Free)
root_free h w root made lt end same itself = by_cell (cell_at (cells_of h) root) refl end where
  is : (c : Cell) → cell_at (cells_of h) root ≡ c → Var w ≡ cell_term (value_of h) root c
  is c e = sym itself ∙ sym same ∙ fits h root made lt ∙ ap (cell_term (value_of h) root) e

  no_int : (n : _) → Var w ≡ Int n → ⊥
  no_int n e = cc

  no_atom : (a : ℕ) → Var w ≡ Atom a → ⊥
  no_atom a e = cc

  no_layer : (f : ℕ) (ts : List Term) → layer.Var w ≡ layer.Node f ts → ⊥
  no_layer f ts e = cc

  by_cell : (c : Cell) → cell_at (cells_of h) root ≡ c → IsEnd c → (root ≡ w) × (cell_at (cells_of h) root ≡ cell.Free)
  by_cell cell.Free e end = (sym (var_inside w root (is cell.Free e)), e)
  by_cell (cell.Ref to) e end = absurd end
  by_cell (cell.Int n) e end = absurd (no_int n (is (cell.Int n) e))
  by_cell (cell.Atom a) e end = absurd (no_atom a (is (cell.Atom a) e))
  by_cell (cell.Node f count first) e end =
      let ts : List Term = map (value_of h) (places first count) in
      absurd (no_layer f ts (sym (outs-Var w) ∙ ap out-Term (is (cell.Node f count first) e) ∙ outs-Node f ts))

-- a variable that was not met is bound to the place
module _ (h : List Change) (base next v at : ℕ) (may : MayMatch h base next at (Var v ∷ [])) (le : next ≤ v) where
  less : v + base < may.limit
  less = may.placed.0 v (occurs-Var v v ∙ eq-eqb v v refl)

  pub unmet : IsUnmet (value_of h) may.limit base at 1 v
  unmet = may.unmet v le less

  absent : occurs (v + base) (value_of h at) ≡ false
  absent = unmet.places at (omega arith) (omega arith)

  pub first_may : (root to : ℕ) → IsMade h → root < size_of h → IsEnd (cell_at (cells_of h) root) → value_of h root ≡ value_of h (v + base) → to < size_of h → value_of h to ≡ value_of h at → MayBind h root to
  first_may root to made lt end same below is_at =
      let found = root_free h (v + base) root made lt end same unmet.itself in
      record { bound = lt; free = found.1; place = below; absent = ap (λ t. occurs root t) is_at ∙ ap (λ w. occurs w (value_of h at)) found.0 ∙ absent }

  pub first_matched : (root to s : ℕ) → IsMade h → root < size_of h → IsEnd (cell_at (cells_of h) root) → value_of h root ≡ value_of h (v + base) → value_of h to ≡ value_of h at → HasMatched h base at (Var v ∷ []) unified.Same (Binds root to s ∷ h)
  first_matched root to s made lt end same is_at =
      let found = root_free h (v + base) root made lt end same unmet.itself in
      let right : Var root ≡ instance (from_base (value_of h) base) (Var v) = ap Var found.0 ∙ sym unmet.itself ∙ variable_value (value_of h) base v in (
        only root (value_of h at),
        subst (λ r. IsMostGeneral (equation (value_of h at) r ∷ []) (only root (value_of h at))) right (binds_first (value_of h at) root (ap (λ w. occurs w (value_of h at)) found.0 ∙ absent)),
        λ i lt. ap (λ t. instance (only root t) (value_of h i)) is_at,
      )

-- a term in new cells

pub loaded_places : (limit size base : ℕ) (t : Term) → limit ≤ size → IsPlaced limit base t → IsPlaced size base t
loaded_places limit size base t le placed = λ v o. omega (arith, le, placed v o)

module _ (old mid : History) (base at place : ℕ) (t : Term) (loaded : HasLoaded old base (t ∷ []) place mid) (lt : at < size_of old.changes) where
  stays : (i : ℕ) → i < size_of old.changes → value_of mid.changes i ≡ value_of old.changes i
  stays i less = ap (λ h. value_of h.changes i) loaded.is_new ∙ grown_below (value_of old.changes) (size_of old.changes) loaded.cells i less

  head_of : (x y : Term) → x ∷ [] ≡ y ∷ [] → x ≡ y
  head_of x y e = cc

  loaded_is : places_equation mid.changes at place ∷ [] ≡ head_equations (value_of old.changes) base at (t ∷ [])
  loaded_is = λ i. equation (stays at lt i) (head_of _ _ loaded.are_terms i) ∷ []

  pub loaded_matched : (u : Unified) (new : List Change) → HasUnified mid.changes at place u new → HasMatched old.changes base at (t ∷ []) u new
  loaded_matched unified.Same new has = (has.0, subst (λ es. IsMostGeneral es has.0) loaded_is has.1, λ i less. has.2 i ∙ ap (instance has.0) (stays i less))
  loaded_matched unified.Clash new has = subst (λ es. EndsIn es outcome.Clash) loaded_is has
  loaded_matched unified.Cyclic new has = subst (λ es. EndsIn es outcome.Cyclic) loaded_is has

  pub loaded_in : (at < size_of mid.changes) × (place < size_of mid.changes)
  loaded_in = (omega (arith, lt, grows), omega (arith, loaded.within)) where
    grows : size_of old.changes ≤ size_of mid.changes
    grows = subst (λ h. size_of old.changes ≤ size_of h.changes) (sym loaded.is_new) (sizes_stay (Grows loaded.cells (next_serial old.last) ∷ []) old.changes)

-- what a place has beside a term

clashes : (l r : Term) → move (equation l r) ≡ Clashes → EndsIn (equation l r ∷ []) outcome.Clash
clashes l r m = (suc zero, ap (λ x. after x [] []) m)

moves : (l r : Term) (x y : layer.Term-F Term) → out-Term l ≡ x → out-Term r ≡ y → move_at l r x y ≡ Clashes → move (equation l r) ≡ Clashes
moves l r x y is_left is_right m = (λ k. move_at l r (is_left k) (is_right k)) ∙ m

module _ (h : List Change) (at root : ℕ) (t : Term) (made : IsMade h) (lt : root < size_of h) (same : value_of h root ≡ value_of h at) where
  abbrev args : ℕ → ℕ → List Term
  args first count = map (value_of h) (places first count)

  value_at : (c : Cell) → cell_at (cells_of h) root ≡ c → value_of h at ≡ cell_term (value_of h) root c
  value_at c e = sym same ∙ fits h root made lt ∙ ap (cell_term (value_of h) root) e

  length_args : (first count : ℕ) → length (args first count) ≡ count
  length_args first zero = refl
  length_args first (suc count) = ap suc (length_args (suc first) count)

  alike : (c d : Cell) → cell_at (cells_of h) root ≡ c → IsLike d t → agrees c d ≡ true → IsAlike h at (first_of c) (out-Term t)
  alike (cell.Int m) (cell.Int n) e like agree =
      subst (IsAlike h at 0) (sym (ap out-Term like ∙ outs-Int n)) (omega arith, value_at (cell.Int m) e ∙ ap Int ((Decides-int_eq m n).0 agree))
  alike (cell.Atom a) (cell.Atom b) e like agree =
      subst (IsAlike h at 0) (sym (ap out-Term like ∙ outs-Atom b)) (omega arith, value_at (cell.Atom a) e ∙ ap Atom (eqb-true a b agree))
  alike (cell.Node f m p) (cell.Node g n q) e like agree =
      let parts = and_parts (f == g) (m == n) agree in
      let ts : List Term = like.0 in
      let count : m ≡ length ts = eqb-true m n parts.1 ∙ like.2 in
      let within : NamesBelow (size_of h) (cell.Node f m p) = subst (NamesBelow (size_of h)) e (names_in h root made lt) in
      subst (IsAlike h at p) (sym (ap out-Term like.1 ∙ outs-Node g ts))
      (omega (arith, within, count), value_at (cell.Node f m p) e ∙ (λ i. Node (eqb-true f g parts.0 i) (args p (count i))))
  alike cell.Free d e like agree = absurd (true≢false (sym agree))
  alike (cell.Ref to) d e like agree = absurd (true≢false (sym agree))
  alike c cell.Free e like agree = absurd like
  alike c (cell.Ref to) e like agree = absurd like
  alike (cell.Int m) (cell.Atom b) e like agree = absurd (true≢false (sym agree))
  alike (cell.Int m) (cell.Node g n q) e like agree = absurd (true≢false (sym agree))
  alike (cell.Atom a) (cell.Int n) e like agree = absurd (true≢false (sym agree))
  alike (cell.Atom a) (cell.Node g n q) e like agree = absurd (true≢false (sym agree))
  alike (cell.Node f m p) (cell.Int n) e like agree = absurd (true≢false (sym agree))
  alike (cell.Node f m p) (cell.Atom b) e like agree = absurd (true≢false (sym agree))

  -- what a term that a cell is like becomes
  abbrev layer_of : (value : ℕ → Term) (d : Cell) → IsLike d t → layer.Term-F Term
  layer_of value (cell.Int n) like = layer.Int n
  layer_of value (cell.Atom a) like = layer.Atom a
  layer_of value (cell.Node f n p) like = layer.Node f (map (instance value) like.0)
  layer_of value cell.Free like = absurd like
  layer_of value (cell.Ref to) like = absurd like

  is_layer : (value : ℕ → Term) (d : Cell) (like : IsLike d t) → out-Term (instance value t) ≡ layer_of value d like
  is_layer value (cell.Int n) like = ap out-Term (ap (instance value) like ∙ fold-Int Term (instance_step value) n) ∙ outs-Int n
  is_layer value (cell.Atom a) like = ap out-Term (ap (instance value) like ∙ fold-Atom Term (instance_step value) a) ∙ outs-Atom a
  is_layer value (cell.Node f n p) like = ap out-Term (ap (instance value) like.1 ∙ instance-Node value f like.0) ∙ outs-Node f (map (instance value) like.0)
  is_layer value cell.Free like = absurd like
  is_layer value (cell.Ref to) like = absurd like

  apart : (value : ℕ → Term) (c d : Cell) → cell_at (cells_of h) root ≡ c → IsEnd c → (like : IsLike d t) → is_free c ≡ false → agrees c d ≡ false → move (equation (value_of h at) (instance value t)) ≡ Clashes
  apart value cell.Free d e end like bound differ = absurd (true≢false bound)
  apart value (cell.Ref to) d e end like bound differ = absurd end
  apart value c cell.Free e end like bound differ = absurd like
  apart value c (cell.Ref to) e end like bound differ = absurd like
  apart value (cell.Int m) (cell.Int n) e end like bound differ =
      moves _ _ (layer.Int m) (layer.Int n) (ap out-Term (value_at (cell.Int m) e) ∙ outs-Int m) (is_layer value (cell.Int n) like) (ap (λ b. if b then Becomes [] else Clashes) differ)
  apart value (cell.Int m) (cell.Atom b) e end like bound differ =
      moves _ _ (layer.Int m) (layer.Atom b) (ap out-Term (value_at (cell.Int m) e) ∙ outs-Int m) (is_layer value (cell.Atom b) like) refl
  apart value (cell.Int m) (cell.Node g n q) e end like bound differ =
      moves _ _ (layer.Int m) (layer.Node g (map (instance value) like.0)) (ap out-Term (value_at (cell.Int m) e) ∙ outs-Int m) (is_layer value (cell.Node g n q) like) refl
  apart value (cell.Atom a) (cell.Int n) e end like bound differ =
      moves _ _ (layer.Atom a) (layer.Int n) (ap out-Term (value_at (cell.Atom a) e) ∙ outs-Atom a) (is_layer value (cell.Int n) like) refl
  apart value (cell.Atom a) (cell.Atom b) e end like bound differ =
      moves _ _ (layer.Atom a) (layer.Atom b) (ap out-Term (value_at (cell.Atom a) e) ∙ outs-Atom a) (is_layer value (cell.Atom b) like) (ap (λ b. if b then Becomes [] else Clashes) differ)
  apart value (cell.Atom a) (cell.Node g n q) e end like bound differ =
      moves _ _ (layer.Atom a) (layer.Node g (map (instance value) like.0)) (ap out-Term (value_at (cell.Atom a) e) ∙ outs-Atom a) (is_layer value (cell.Node g n q) like) refl
  apart value (cell.Node f m p) (cell.Int n) e end like bound differ =
      moves _ _ (layer.Node f (args p m)) (layer.Int n) (ap out-Term (value_at (cell.Node f m p) e) ∙ outs-Node f (args p m)) (is_layer value (cell.Int n) like) refl
  apart value (cell.Node f m p) (cell.Atom b) e end like bound differ =
      moves _ _ (layer.Node f (args p m)) (layer.Atom b) (ap out-Term (value_at (cell.Node f m p) e) ∙ outs-Node f (args p m)) (is_layer value (cell.Atom b) like) refl
  apart value (cell.Node f m p) (cell.Node g n q) e end like bound differ =
      let us : List Term = map (instance value) like.0 in
      let count : length us ≡ n = length-map like.0 (instance value) ∙ sym like.2 in
      moves _ _ (layer.Node f (args p m)) (layer.Node g us) (ap out-Term (value_at (cell.Node f m p) e) ∙ outs-Node f (args p m)) (is_layer value (cell.Node g n q) like)
      ((λ k. if (f == g) && (length_args p m k == count k) then Becomes (pairs (args p m) us) else Clashes) ∙ ap (λ b. if b then Becomes (pairs (args p m) us) else Clashes) differ)

  pub seen : (c d : Cell) (s : Sight) → cell_at (cells_of h) root ≡ c → IsEnd c → IsLike d t → IsSeen c d s → Seen h at t s
  seen c d (sight.Variable v) e end like is = absurd is
  seen c d sight.Unbound e end like is = tt
  seen c d (sight.Alike first) e end like is = subst (λ k. IsAlike h at k (out-Term t)) (sym is.1) (alike c d e like is.0)
  seen c d sight.Other e end like is = λ value. clashes (value_of h at) (instance value t) (apart value c d e end like is.0 is.1)

-- a term that its place has already

abbrev parts : Term → List Term
parts t = parts_of (out-Term t)

module _ (h : List Change) (base next at first : ℕ) where
  absent_place : (w n start i : ℕ) → list_any (λ b. b) (map (occurs w) (map (value_of h) (places start n))) ≡ false → start ≤ i → i < start + n → occurs w (value_of h i) ≡ false
  absent_place w zero start i none le lt = absurd (omega (arith, le, lt))
  absent_place w (suc n) start i none le lt = by_place (absent_place w n (suc start) i pair.1) (cases_lt start i) where
    or_none : (a b : Bool) → (a || b) ≡ false → (a ≡ false) × (b ≡ false)
    or_none true b e = absurd (true≢false e)
    or_none false b e = (refl, e)

    pair : (occurs w (value_of h start) ≡ false) × (list_any (λ b. b) (map (occurs w) (map (value_of h) (places (suc start) n))) ≡ false)
    pair = or_none _ _ none

    by_place : (suc start ≤ i → i < suc start + n → occurs w (value_of h i) ≡ false) → (start < i) ⊎ (i ≤ start) → occurs w (value_of h i) ≡ false
    by_place rest (inl less) = rest (omega (arith, less)) (omega (arith, lt))
    by_place rest (inr more) = let same : i ≡ start = omega (arith, more, le) in ap (λ k. occurs w (value_of h k)) same ∙ pair.0

  none_may : (t : Term) → MayMatch h base next at (t ∷ []) → first ≤ size_of h → MayMatch h base next first []
  none_may t may le = record {
    limit = may.limit;
    there = may.there;
    within = omega (arith, le);
    placed = tt;
    unmet = λ v le lt.
        let here : IsUnmet (value_of h) may.limit base at 1 v = may.unmet v le lt in
        record { itself = here.itself; values = here.values; places = λ i l m. absurd (omega (arith, l, m)) };
  }

  parts_may : (f : ℕ) (ts : List Term) → MayMatch h base next at (Node f ts ∷ []) → first + length ts ≤ size_of h → value_of h at ≡ Node f (map (value_of h) (places first (length ts))) → MayMatch h base next first ts
  parts_may f ts may within is_compound = record {
    limit = may.limit;
    there = may.there;
    within = within;
    placed = parts_placed may.limit base f ts may.placed.0;
    unmet = λ v le lt.
        let here : IsUnmet (value_of h) may.limit base at 1 v = may.unmet v le lt in
        let args : List Term = map (value_of h) (places first (length ts)) in
        let none : list_any (λ b. b) (map (occurs (v + base)) args) ≡ false = sym (occurs-Node (v + base) f args) ∙ ap (occurs (v + base)) (sym is_compound) ∙ here.places at (omega arith) (omega arith) in
        record { itself = here.itself; values = here.values; places = λ i l m. absent_place (v + base) (length ts) first i none l m };
  }

  pub alike_may : (t : Term) → View t → MayMatch h base next at (t ∷ []) → IsAlike h at first (out-Term t) → MayMatch h base next first (parts t)
  alike_may t (is_var v) may is = absurd (subst (IsAlike h at first) (outs-Var v) is)
  alike_may t (is_int n) may is = subst (λ x. MayMatch h base next first (parts_of x)) (sym (outs-Int n)) (none_may (Int n) may (subst (IsAlike h at first) (outs-Int n) is).0)
  alike_may t (is_atom a) may is = subst (λ x. MayMatch h base next first (parts_of x)) (sym (outs-Atom a)) (none_may (Atom a) may (subst (IsAlike h at first) (outs-Atom a) is).0)
  alike_may t (is_node f ts) may is =
      let node = subst (IsAlike h at first) (outs-Node f ts) is in
      subst (λ x. MayMatch h base next first (parts_of x)) (sym (outs-Node f ts)) (parts_may f ts may node.0 node.1)

  length_places : (n start : ℕ) → length (map (value_of h) (places start n)) ≡ n
  length_places zero start = refl
  length_places (suc n) start = ap suc (length_places n (suc start))

  alike_goes : (t : Term) → View t → IsAlike h at first (out-Term t) → Goes (equation (value_of h at) (instance (from_base (value_of h) base) t)) (head_equations (value_of h) base first (parts t))
  alike_goes t (is_var v) is = absurd (subst (IsAlike h at first) (outs-Var v) is)
  alike_goes t (is_int n) is =
      let here = subst (IsAlike h at first) (outs-Int n) is in
      subst (λ x. Goes (equation (value_of h at) (instance (from_base (value_of h) base) (Int n))) (head_equations (value_of h) base first (parts_of x))) (sym (outs-Int n))
      (subst (λ e. Goes e []) (λ i. equation (sym here.1 i) (sym (fold-Int Term (instance_step (from_base (value_of h) base)) n) i)) (goes_same (Int n)))
  alike_goes t (is_atom a) is =
      let here = subst (IsAlike h at first) (outs-Atom a) is in
      subst (λ x. Goes (equation (value_of h at) (instance (from_base (value_of h) base) (Atom a))) (head_equations (value_of h) base first (parts_of x))) (sym (outs-Atom a))
      (subst (λ e. Goes e []) (λ i. equation (sym here.1 i) (sym (fold-Atom Term (instance_step (from_base (value_of h) base)) a) i)) (goes_same (Atom a)))
  alike_goes t (is_node f ts) is =
      let here = subst (IsAlike h at first) (outs-Node f ts) is in
      let us : List Term = map (instance (from_base (value_of h) base)) ts in
      subst (λ x. Goes (equation (value_of h at) (instance (from_base (value_of h) base) (Node f ts))) (head_equations (value_of h) base first (parts_of x))) (sym (outs-Node f ts))
      (subst (λ e. Goes e (head_equations (value_of h) base first ts)) (λ i. equation (sym here.1 i) (sym (instance-Node (from_base (value_of h) base) f ts) i))
      (goes_nodes f (map (value_of h) (places first (length ts))) us (length_places (length ts) first ∙ sym (length-map ts (instance (from_base (value_of h) base))))))

  goes_matched : (t : Term) (ts : List Term) (u : Unified) (new : List Change) → Goes (equation (value_of h at) (instance (from_base (value_of h) base) t)) (head_equations (value_of h) base first ts) → HasMatched h base first ts u new → HasMatched h base at (t ∷ []) u new
  goes_matched t ts unified.Same new goes m = (m.0, record { solves = (goes.solved m.0 m.1.solves, tt); general = λ other k. m.1.general other (goes.general other k.0) }, m.2)
  goes_matched t ts unified.Clash new goes ends = is_clash _ (goes.ends [] outcome.Clash (outcome.Clash, subst (λ es. EndsIn es outcome.Clash) (sym (append-nil (head_equations (value_of h) base first ts))) ends, tt))
  goes_matched t ts unified.Cyclic new goes ends = is_cycle _ (goes.ends [] outcome.Cyclic (outcome.Cyclic, subst (λ es. EndsIn es outcome.Cyclic) (sym (append-nil (head_equations (value_of h) base first ts))) ends, tt))

  pub alike_matched : (t : Term) (u : Unified) (new : List Change) → IsAlike h at first (out-Term t) → HasMatched h base first (parts t) u new → HasMatched h base at (t ∷ []) u new
  alike_matched t u new is m = goes_matched t (parts t) u new (alike_goes t (view t) is) m

-- the variables of a term are those of its parts, where it is none
above_parts : (t : Term) → View t → (h : List Change) (at first : ℕ) → IsAlike h at first (out-Term t) → above t ≡ greatest (map above (parts t))
above_parts t (is_var v) h at first is = absurd (subst (IsAlike h at first) (outs-Var v) is)
above_parts t (is_int n) h at first is = fold-Int ℕ above_step n ∙ ap (λ x. greatest (map above (parts_of x))) (sym (outs-Int n))
above_parts t (is_atom a) h at first is = fold-Atom ℕ above_step a ∙ ap (λ x. greatest (map above (parts_of x))) (sym (outs-Atom a))
above_parts t (is_node f ts) h at first is = fold-Node ℕ above_step f ts ∙ ap (λ x. greatest (map above (parts_of x))) (sym (outs-Node f ts))

pub alike_met : (h : List Change) (at first next last : ℕ) (t : Term) (u : Unified) → IsAlike h at first (out-Term t) → AreMet u next (parts t) last → AreMet u next (t ∷ []) last
alike_met h at first next last t unified.Same is met = (met.0, (let p : above t ≡ greatest (map above (parts t)) = above_parts t (view t) h at first is in omega (arith, p, met.1)))
alike_met h at first next last t unified.Clash is met = tt
alike_met h at first next last t unified.Cyclic is met = tt

-- for the measure
pub parts_smaller : (t : Term) → View t → size_all (parts t) < size t
parts_smaller t (is_var v) = let p : size (Var v) ≡ 1 = fold-Var ℕ size_step v in let q : size_all (parts (Var v)) ≡ 0 = ap (λ x. size_all (parts_of x)) (outs-Var v) in omega (arith, p, q)
parts_smaller t (is_int n) = let p : size (Int n) ≡ 1 = fold-Int ℕ size_step n in let q : size_all (parts (Int n)) ≡ 0 = ap (λ x. size_all (parts_of x)) (outs-Int n) in omega (arith, p, q)
parts_smaller t (is_atom a) = let p : size (Atom a) ≡ 1 = fold-Atom ℕ size_step a in let q : size_all (parts (Atom a)) ≡ 0 = ap (λ x. size_all (parts_of x)) (outs-Atom a) in omega (arith, p, q)
parts_smaller t (is_node f ts) =
    let p : size (Node f ts) ≡ size_all ts + 1 = fold-Node ℕ size_step f ts in
    let q : size_all (parts (Node f ts)) ≡ size_all ts = ap (λ x. size_all (parts_of x)) (outs-Node f ts) in
    omega (arith, p, q)

-- what calls ask and promise

pub variable_in : (h : List Change) (base next v at : ℕ) → MayMatch h base next at (Var v ∷ []) → v + base < size_of h
variable_in h base next v at may = let lt : v + base < may.limit = may.placed.0 v (occurs-Var v v ∙ eq-eqb v v refl) in omega (arith, lt, may.there)

pub loaded_met : (limit size base next last : ℕ) (t : Term) (u : Unified) → IsPlaced limit base t → limit ≤ size → size < 2 ^ 64 → last ≡ max next (min (above t) (2 ^ 64 - 1)) → AreMet u next (t ∷ []) last
loaded_met limit size base next last t unified.Same placed le small is =
    let p : above t ≤ limit = above_within limit t (λ v o. let lt : v + base < limit = placed v o in omega (arith, lt)) in
    (omega (arith, is), omega (arith, p, is, le, small))
loaded_met limit size base next last t unified.Clash placed le small is = tt
loaded_met limit size base next last t unified.Cyclic placed le small is = tt

pub loaded_goes : (old mid : History) (base place : ℕ) (ts : List Term) → old.last < 2 ^ 64 → HasLoaded old base ts place mid → GoesOn old mid
loaded_goes old mid base place ts small loaded = subst (GoesOn old) (sym loaded.is_new) (grows_on old loaded.cells small)

pub head_may : (h : List Change) (base first : ℕ) (ts : List Term) → base ≤ size_of h → first + length ts ≤ base → AllByRecursion (IsPlaced (size_of h) base) ts → AreNew h base → MayMatch h base 0 first ts
head_may h base first ts le block placed new = record {
  limit = size_of h;
  there = omega arith;
  within = omega (arith, le, block);
  placed = placed;
  unmet = λ v up lt. record {
    itself = new.themselves (v + base) (omega arith) lt;
    values = λ u less ne. new.apart (v + base) (u + base) (omega arith) lt less (λ e. ne (omega (arith, e)));
    places = λ i l m. new.apart (v + base) i (omega arith) lt (omega (arith, le, block, m)) (λ e. omega (arith, e, block, m));
  };
}

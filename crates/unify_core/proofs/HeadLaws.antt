-- The equations of a head, solved one place after the other.
use Rattle.std.proofs.Common.{◌≡◌, ◌<◌, ◌≤◌, ℕ, zero, suc, ◌+◌, Bool, true, false, ◌||◌, List, [], ◌∷◌, ◌++◌, map, length, take, drop, get_or, refl, sym, ap, ◌∙◌, subst, arith, true≢false}
use Rattle.std.specs.List.{list_any, AllByRecursion}
use Rattle.std.proofs.lemmas.Bool.{eq-eqb, ne_eqb, or_left, or_right}
use Rattle.std.proofs.lemmas.List.{append_assoc, take_more}
use Rattle.term_core.specs.declared.terms.Term.{Term, Var, Node}
use Rattle.term_core.specs.declared.equations.Equation.{Equation}
use Rattle.term_core.specs.declared.equations.Outcome.{Outcome}
use Rattle.term_core.specs.declared.equations.Outcome.TheVariants as outcome
use Rattle.term_core.specs.Terms.{instance, instance_step, occurs, occurs_step, above, above_step, greatest}
use Rattle.term_core.specs.Sizes.{size, size_all}
use Rattle.term_core.specs.Unify.{occurs_in, Unified as EndsIn}
use Rattle.term_core.specs.Sequences.{InSequence}
use Rattle.term_core.specs.Variants.{IsMostGeneral, SameKind, EndsAs, all_instances}
use Rattle.term_core.proofs.AloneLaws.{stays_alone}
use Rattle.term_core.proofs.TermFolds.{fold-Var, fold-Int, fold-Atom, fold-Node, ind_terms}
use Rattle.term_core.proofs.TermLaws.{instance-Var, instance-Node, instance-instance, instance-itself, instance_agrees}
use Rattle.term_core.proofs.Occurrences.{occurs-Node, occurs-Var}
use Rattle.term_core.proofs.KindLaws.{equation}
use Rattle.term_heap.specs.Changes.{Change, History, places, size_of, value_of}
use Rattle.term_heap.specs.Loads.{IsPlaced, from_base}
use Rattle.unify_core.specs.declared.unifying.Unified.TheVariants as unified
use Rattle.unify_core.specs.Heads.{head_equations, HasMatched}
use Rattle.unify_core.specs.Unmet.{IsUnmet, MayMatch, AreMet}
use Rattle.unify_core.proofs.MeetLaws.{is_clash}

-- which variables stand in a term

pub none_of : (a b : Bool) → a ≡ false → b ≡ false → (a || b) ≡ false
none_of true b e h = absurd (true≢false e)
none_of false b e h = h

pub absent_instance : (f : ℕ → Term) (w : ℕ) (t : Term) → ((x : ℕ) → occurs x t ≡ true → occurs w (f x) ≡ false) → occurs w (instance f t) ≡ false
absent_instance f w =
    ind_terms (λ t. ((x : ℕ) → occurs x t ≡ true → occurs w (f x) ≡ false) → occurs w (instance f t) ≡ false)
    (λ v h. ap (occurs w) (instance-Var f v) ∙ h v (occurs-Var v v ∙ eq-eqb v v refl))
    (λ n h. ap (occurs w) (fold-Int Term (instance_step f) n) ∙ fold-Int Bool (occurs_step w) n)
    (λ a h. ap (occurs w) (fold-Atom Term (instance_step f) a) ∙ fold-Atom Bool (occurs_step w) a)
    (λ k ts ih h. ap (occurs w) (instance-Node f k ts) ∙ occurs-Node w k (map (instance f) ts) ∙ each ts ih (λ x o. h x (occurs-Node x k ts ∙ o)))
  where
    each : (ts : List Term) → AllByRecursion (λ t. ((x : ℕ) → occurs x t ≡ true → occurs w (f x) ≡ false) → occurs w (instance f t) ≡ false) ts →
        ((x : ℕ) → list_any (λ b. b) (map (occurs x) ts) ≡ true → occurs w (f x) ≡ false) → list_any (λ b. b) (map (occurs w) (map (instance f) ts)) ≡ false
    each [] ih h = refl
    each (t ∷ ts) ih h = none_of _ _ (ih.0 (λ x o. h x (or_left (occurs x t) _ o))) (each ts ih.1 (λ x o. h x (or_right (occurs x t) _ o)))

pub absent_above : (v : ℕ) (t : Term) → above t ≤ v → occurs v t ≡ false
absent_above v =
    ind_terms (λ t. above t ≤ v → occurs v t ≡ false)
    (λ u le. occurs-Var v u ∙ ne_eqb v u (λ e. let p : above (Var u) ≡ u + 1 = fold-Var ℕ above_step u in omega (arith, le, e, p)))
    (λ n le. fold-Int Bool (occurs_step v) n)
    (λ a le. fold-Atom Bool (occurs_step v) a)
    (λ f ts ih le. occurs-Node v f ts ∙ each ts ih (subst (λ k. k ≤ v) (fold-Node ℕ above_step f ts) le))
  where
    each : (ts : List Term) → AllByRecursion (λ t. above t ≤ v → occurs v t ≡ false) ts → greatest (map above ts) ≤ v → list_any (λ b. b) (map (occurs v) ts) ≡ false
    each [] ih le = refl
    each (t ∷ ts) ih le = none_of _ _ (ih.0 (omega (arith, le))) (each ts ih.1 (omega (arith, le)))

pub above_within : (n : ℕ) (t : Term) → ((v : ℕ) → occurs v t ≡ true → v < n) → above t ≤ n
above_within n =
    ind_terms (λ t. ((v : ℕ) → occurs v t ≡ true → v < n) → above t ≤ n)
    (λ u h. let p : above (Var u) ≡ u + 1 = fold-Var ℕ above_step u in let lt : u < n = h u (occurs-Var u u ∙ eq-eqb u u refl) in omega (arith, p, lt))
    (λ k h. let p : _ = fold-Int ℕ above_step k in omega (arith, p))
    (λ a h. let p : _ = fold-Atom ℕ above_step a in omega (arith, p))
    (λ f ts ih h. subst (λ k. k ≤ n) (sym (fold-Node ℕ above_step f ts)) (each ts ih (λ v o. h v (occurs-Node v f ts ∙ o))))
  where
    each : (ts : List Term) → AllByRecursion (λ t. ((v : ℕ) → occurs v t ≡ true → v < n) → above t ≤ n) ts → ((v : ℕ) → list_any (λ b. b) (map (occurs v) ts) ≡ true → v < n) → greatest (map above ts) ≤ n
    each [] ih h = omega arith
    each (t ∷ ts) ih h =
        let p : above t ≤ n = ih.0 (λ v o. h v (or_left (occurs v t) _ o)) in
        let q : greatest (map above ts) ≤ n = each ts ih.1 (λ v o. h v (or_right (occurs v t) _ o)) in
        omega (arith, p, q)

pub parts_placed : (size base f : ℕ) (ts : List Term) → IsPlaced size base (Node f ts) → AllByRecursion (IsPlaced size base) ts
parts_placed size base f ts placed = each ts (λ v o. placed v (occurs-Node v f ts ∙ o)) where
  each : (ts : List Term) → ((v : ℕ) → list_any (λ b. b) (map (occurs v) ts) ≡ true → v + base < size) → AllByRecursion (IsPlaced size base) ts
  each [] h = tt
  each (t ∷ ts) h = ((λ v o. h v (or_left (occurs v t) _ o)), each ts (λ v o. h v (or_right (occurs v t) _ o)))

-- a variable that was not met stands in no equation of terms without it
pub never_in : (value : ℕ → Term) (limit base first v : ℕ) (ts : List Term) → ((u : ℕ) → u + base < limit → (u ≡ v → ⊥) → occurs (v + base) (value (u + base)) ≡ false) →
    ((i : ℕ) → first ≤ i → i < first + length ts → occurs (v + base) (value i) ≡ false) → AllByRecursion (IsPlaced limit base) ts → greatest (map above ts) ≤ v → occurs_in (v + base) (head_equations value base first ts) ≡ false
never_in value limit base first v [] values places placed le = refl
never_in value limit base first v (t ∷ ts) values places placed le =
    let absent : occurs v t ≡ false = absent_above v t (omega (arith, le)) in
    none_of _ _
    (none_of _ _ (places first (omega arith) (omega arith)) (absent_instance (from_base value base) (v + base) t (λ x o. values x (placed.0 x o) (λ e. true≢false (sym o ∙ ap (λ y. occurs y t) e ∙ absent)))))
    (never_in value limit base (suc first) v ts values (λ i l m. places i (omega (arith, l)) (omega (arith, m))) placed.1 (omega (arith, le)))

-- it stays so under a most general solution
pub unmet_after : (old new : List Change) (es : List Equation) (value : ℕ → Term) (limit base first count later fewer v : ℕ) → limit ≤ size_of old → first + count ≤ size_of old → v + base < limit →
    IsUnmet (value_of old) limit base first count v → IsMostGeneral es value → occurs_in (v + base) es ≡ false → ((i : ℕ) → i < size_of old → value_of new i ≡ instance value (value_of old i)) →
    first ≤ later → later + fewer ≤ first + count → IsUnmet (value_of new) limit base later fewer v
unmet_after old new es value limit base first count later fewer v there within lt unmet general never is_new from to = record {
  itself = is_new w (omega (arith, lt, there)) ∙ ap (instance value) unmet.itself ∙ instance-Var value w ∙ stays.0;
  values = λ u less ne. ap (occurs w) (is_new (u + base) (omega (arith, less, there))) ∙ absent (value_of old (u + base)) (unmet.values u less ne);
  places = λ i le less. ap (occurs w) (is_new i (omega (arith, less, to, within))) ∙ absent (value_of old i) (unmet.places i (omega (arith, le, from)) (omega (arith, less, to)));
} where
  w : ℕ
  w = v + base

  stays : (value w ≡ Var w) × ((x : ℕ) → (x ≡ w → ⊥) → occurs w (value x) ≡ false)
  stays = stays_alone es value w general never

  absent : (t : Term) → occurs w t ≡ false → occurs w (instance value t) ≡ false
  absent t none = absent_instance value w t (λ x o. stays.1 x (λ e. true≢false (sym o ∙ ap (λ y. occurs y t) e ∙ none)))

-- the equations of more terms

pub heads_append : (value : ℕ → Term) (base first : ℕ) (xs ys : List Term) → head_equations value base first (xs ++ ys) ≡ head_equations value base first xs ++ head_equations value base (first + length xs) ys
heads_append value base first [] ys = ap (λ k. head_equations value base k ys) (omega arith)
heads_append value base first (x ∷ xs) ys =
    ap (λ es. equation (value first) (instance (from_base value base) x) ∷ es)
    (heads_append value base (suc first) xs ys ∙ ap (λ k. head_equations value base (suc first) xs ++ head_equations value base k ys) (omega arith))

-- a head's equation with a solution put in
pub moved : (old new : List Change) (value : ℕ → Term) (limit base at : ℕ) (t : Term) → limit ≤ size_of old → at < size_of old → IsPlaced limit base t → ((i : ℕ) → i < size_of old → value_of new i ≡ instance value (value_of old i)) →
    head_equations (value_of new) base at (t ∷ []) ≡ all_instances value (head_equations (value_of old) base at (t ∷ []))
moved old new value limit base at t there lt placed is_new = λ i. equation (is_new at lt i) (right i) ∷ [] where
  right : instance (from_base (value_of new) base) t ≡ instance value (instance (from_base (value_of old) base) t)
  right =
      instance_agrees (from_base (value_of new) base) (λ v. instance value (from_base (value_of old) base v)) t (λ v o. is_new (v + base) (omega (arith, placed v o, there)))
      ∙ sym (instance-instance value (from_base (value_of old) base) t)

-- what ends as by a cycle ends by a cycle
pub is_cycle : (es : List Equation) → EndsAs es outcome.Cyclic → EndsIn es outcome.Cyclic
is_cycle es ends = by_kind ends.0 ends.1 ends.2 where
  by_kind : (o : Outcome) → EndsIn es o → SameKind o outcome.Cyclic → EndsIn es outcome.Cyclic
  by_kind outcome.Cyclic u h = u
  by_kind (outcome.Solved bs) u h = absurd h
  by_kind outcome.Clash u h = absurd h

-- a head's first terms were matched with places in a row
pub record HasGone (old now : History) (base first : ℕ) (ts : List Term) (before after : ℕ) : Type 0 where
  pub value : ℕ → Term
  pub general : IsMostGeneral (head_equations (value_of old.changes) base first ts) value
  pub is_new : (i : ℕ) → i < size_of old.changes → value_of now.changes i ≡ instance value (value_of old.changes i)
  pub rises : before ≤ after
  pub are_above : greatest (map above ts) ≤ after

pub gone_none : (old : History) (base first before : ℕ) → HasGone old old base first [] before before
gone_none old base first before = record {
  value = Var;
  general = record { solves = tt; general = λ other h v. sym (instance-Var other v) };
  is_new = λ i lt. sym (instance-itself (value_of old.changes i));
  rises = omega arith;
  are_above = omega arith;
}

greatest_more : (n : ℕ) (xs : List Term) (t : Term) → greatest (map above xs) ≤ n → above t ≤ n → greatest (map above (xs ++ t ∷ [])) ≤ n
greatest_more n [] t le last = omega (arith, last)
greatest_more n (x ∷ xs) t le last = let rest : greatest (map above (xs ++ t ∷ [])) ≤ n = greatest_more n xs t (omega (arith, le)) last in omega (arith, rest, le)

module _ (law : InSequence) (old mid : History) (base next first : ℕ) (ts xs ys : List Term) (t : Term) (may : MayMatch old.changes base next first ts) (is_all : ts ≡ xs ++ t ∷ ys) (after : ℕ) (gone : HasGone old mid base first xs next after) where
  abbrev at : ℕ
  at = first + length xs

  -- the next place and term may be matched
  in_row : at < size_of old.changes
  in_row = omega (arith, may.within, ap length is_all, longer xs) where
    longer : (zs : List Term) → length (zs ++ t ∷ ys) ≡ length zs + suc (length ys)
    longer [] = omega arith
    longer (z ∷ zs) = omega (arith, longer zs)

  in_count : at + 1 ≤ first + length ts
  in_count = omega (arith, ap length is_all, longer xs) where
    longer : (zs : List Term) → length (zs ++ t ∷ ys) ≡ length zs + suc (length ys)
    longer [] = omega arith
    longer (z ∷ zs) = omega (arith, longer zs)

  fronts : (zs : List Term) → AllByRecursion (IsPlaced may.limit base) (zs ++ t ∷ ys) → AllByRecursion (IsPlaced may.limit base) zs × IsPlaced may.limit base t
  fronts [] h = (tt, h.0)
  fronts (z ∷ zs) h = let rest = fronts zs h.1 in ((h.0, rest.0), rest.1)

  placed : AllByRecursion (IsPlaced may.limit base) xs × IsPlaced may.limit base t
  placed = fronts xs (subst (AllByRecursion (IsPlaced may.limit base)) is_all may.placed)

  pub may_next : size_of old.changes ≤ size_of mid.changes → MayMatch mid.changes base after at (t ∷ [])
  may_next grown = record {
    limit = may.limit;
    there = omega (arith, may.there, grown);
    within = omega (arith, in_row, grown);
    placed = (placed.1, tt);
    unmet = λ v le lt.
        let before : IsUnmet (value_of old.changes) may.limit base first (length ts) v = may.unmet v (omega (arith, gone.rises, le)) lt in
        unmet_after old.changes mid.changes (head_equations (value_of old.changes) base first xs) gone.value may.limit base first (length ts) at 1 v may.there may.within lt before gone.general
        (never_in (value_of old.changes) may.limit base first v xs before.values (λ i l m. before.places i l (omega (arith, m, in_count))) placed.0 (omega (arith, gone.are_above, le)))
        gone.is_new (omega arith) in_count;
  }

  abbrev one : List Equation
  one = head_equations (value_of old.changes) base at (t ∷ [])

  is_moved : head_equations (value_of mid.changes) base at (t ∷ []) ≡ all_instances gone.value one
  is_moved = moved old.changes mid.changes gone.value may.limit base at t may.there in_row placed.1 gone.is_new

  pub gone_more : (new : History) (last : ℕ) → size_of old.changes ≤ size_of mid.changes → HasMatched mid.changes base at (t ∷ []) unified.Same new.changes → AreMet unified.Same after (t ∷ []) last → HasGone old new base first (xs ++ t ∷ []) next last
  gone_more new last grown matched met = record {
    value = λ v. instance matched.0 (gone.value v);
    general = subst (λ es. IsMostGeneral es (λ v. instance matched.0 (gone.value v))) (sym (heads_append (value_of old.changes) base first xs (t ∷ [])))
        (law.solved (head_equations (value_of old.changes) base first xs) one gone.value matched.0 gone.general (subst (λ es. IsMostGeneral es matched.0) is_moved matched.1));
    is_new = λ i lt. matched.2 i (omega (arith, lt, grown)) ∙ ap (instance matched.0) (gone.is_new i lt) ∙ instance-instance matched.0 gone.value (value_of old.changes i);
    rises = omega (arith, gone.rises, met.0);
    are_above = greatest_more last xs t (omega (arith, gone.are_above, met.0)) (omega (arith, met.1));
  }

  all_equations : head_equations (value_of old.changes) base first ts ≡ (head_equations (value_of old.changes) base first xs ++ one) ++ head_equations (value_of old.changes) base (suc at) ys
  all_equations =
      ap (head_equations (value_of old.changes) base first) is_all ∙ heads_append (value_of old.changes) base first xs (t ∷ ys)
      ∙ sym (append_assoc (head_equations (value_of old.changes) base first xs) one (head_equations (value_of old.changes) base (suc at) ys))

  pub gone_clash : EndsIn (head_equations (value_of mid.changes) base at (t ∷ [])) outcome.Clash → EndsIn (head_equations (value_of old.changes) base first ts) outcome.Clash
  gone_clash ends =
      subst (λ es. EndsIn es outcome.Clash) (sym all_equations)
      (law.clashes _ _ (is_clash _ (law.ends (head_equations (value_of old.changes) base first xs) one gone.value outcome.Clash gone.general (subst (λ es. EndsIn es outcome.Clash) is_moved ends))))

  pub gone_cycle : EndsIn (head_equations (value_of mid.changes) base at (t ∷ [])) outcome.Cyclic → EndsIn (head_equations (value_of old.changes) base first ts) outcome.Cyclic
  gone_cycle ends =
      subst (λ es. EndsIn es outcome.Cyclic) (sym all_equations)
      (law.cycles _ _ (is_cycle _ (law.ends (head_equations (value_of old.changes) base first xs) one gone.value outcome.Cyclic gone.general (subst (λ es. EndsIn es outcome.Cyclic) is_moved ends))))

-- a loop's turn

pub split : (i : ℕ) (ts : List Term) (t : Term) → i < length ts → t ≡ get_or ts i t → ts ≡ take i ts ++ t ∷ drop (suc i) ts
split i [] t lt e = absurd (omega (arith, lt))
split zero (u ∷ ts) t lt e = ap (λ x. x ∷ ts) (sym e)
split (suc i) (u ∷ ts) t lt e = ap (λ xs. u ∷ xs) (split i ts t (omega (arith, lt)) e)

length_take : (i : ℕ) (ts : List Term) → i < length ts → length (take i ts) ≡ i
length_take i [] lt = absurd (omega (arith, lt))
length_take zero (u ∷ ts) lt = refl
length_take (suc i) (u ∷ ts) lt = ap suc (length_take i ts (omega (arith, lt)))

module _ (law : InSequence) (old mid : History) (base next first i at : ℕ) (ts : List Term) (t : Term) (may : MayMatch old.changes base next first ts) (after : ℕ) (gone : HasGone old mid base first (take i ts) next after) (lt : i < length ts) (is_item : t ≡ get_or ts i t) (is_at : at ≡ first + i) (grown : size_of old.changes ≤ size_of mid.changes) where
  is_all : ts ≡ take i ts ++ t ∷ drop (suc i) ts
  is_all = split i ts t lt is_item

  is_place : first + length (take i ts) ≡ at
  is_place = ap (λ k. first + k) (length_take i ts lt) ∙ sym is_at

  pub turn_may : MayMatch mid.changes base after at (t ∷ [])
  turn_may = subst (λ k. MayMatch mid.changes base after k (t ∷ [])) is_place (may_next law old mid base next first ts (take i ts) (drop (suc i) ts) t may is_all after gone grown)

  pub turn_more : (new : History) (last : ℕ) → HasMatched mid.changes base at (t ∷ []) unified.Same new.changes → AreMet unified.Same after (t ∷ []) last → HasGone old new base first (take (i + 1) ts) next last
  turn_more new last matched met =
      subst (λ xs. HasGone old new base first xs next last) (sym (take_more ts i t lt ∙ ap (λ u. take i ts ++ u ∷ []) (sym is_item)))
      (gone_more law old mid base next first ts (take i ts) (drop (suc i) ts) t may is_all after gone new last grown (subst (λ k. HasMatched mid.changes base k (t ∷ []) unified.Same new.changes) (sym is_place) matched) met)

  pub turn_clash : (new : List Change) → HasMatched mid.changes base at (t ∷ []) unified.Clash new → HasMatched old.changes base first ts unified.Clash new
  turn_clash new ends =
      gone_clash law old mid base next first ts (take i ts) (drop (suc i) ts) t may is_all after gone (subst (λ k. HasMatched mid.changes base k (t ∷ []) unified.Clash new) (sym is_place) ends)

  pub turn_cycle : (new : List Change) → HasMatched mid.changes base at (t ∷ []) unified.Cyclic new → HasMatched old.changes base first ts unified.Cyclic new
  turn_cycle new ends =
      gone_cycle law old mid base next first ts (take i ts) (drop (suc i) ts) t may is_all after gone (subst (λ k. HasMatched mid.changes base k (t ∷ []) unified.Cyclic new) (sym is_place) ends)

-- the end of the loop
pub gone_all : (i : ℕ) (old new : History) (base first next after : ℕ) (ts : List Term) → (i < length ts → ⊥) → HasGone old new base first (take i ts) next after → HasMatched old.changes base first ts unified.Same new.changes × AreMet unified.Same next ts after
gone_all i old new base first next after ts past gone =
    let all : HasGone old new base first ts next after = subst (λ xs. HasGone old new base first xs next after) (take_past i ts past) gone in
    ((all.value, all.general, all.is_new), (all.rises, all.are_above))
  where
    take_past : (i : ℕ) (ts : List Term) → (i < length ts → ⊥) → take i ts ≡ ts
    take_past zero [] past = refl
    take_past (suc i) [] past = refl
    take_past zero (t ∷ ts) past = absurd (past (omega arith))
    take_past (suc i) (t ∷ ts) past = ap (λ xs. t ∷ xs) (take_past i ts (λ lt. past (omega (arith, lt))))

-- for the measure
pub size_at : (i : ℕ) (ts : List Term) (t : Term) → i < length ts → t ≡ get_or ts i t → size t ≤ size_all ts
size_at i [] t lt e = absurd (omega (arith, lt))
size_at zero (u ∷ ts) t lt e = omega (arith, ap size e)
size_at (suc i) (u ∷ ts) t lt e = omega (arith, size_at i ts t (omega (arith, lt)) e)

-- Looks at pairs, one after another, are one look; and the table that is left has just what the rule gives.
use Rattle.std.proofs.Common.{◌≡◌, ℕ, ◌<◌, ◌+◌, ◌-◌, ◌≤◌, Bool, true, false, ◌&&◌, ◌||◌, List, [], ◌∷◌, length, refl, ap, sym, ◌∙◌, subst, arith, ◌⊎◌, inl, inr, true≢false}
use Rattle.std.proofs.lemmas.Bool.Decides.{nat_tests}
use Rattle.std.specs.Prelude.{filter, not, cond, nat_lt, ◌==◌}
use Rattle.prog_data.specs.declared.grammars.Rule.{Rule}
use Rattle.prog_data.proofs.Leaves.{In, here, later}
use Rattle.name_order.specs.Fixpoints.{RuleOf, ClosedTest, Within, Monotone}
use Rattle.name_order.specs.Relations.{Pair, same_pair, are_names, all_pairs, leaf_has, leaf_below, leaf_meets, looked_up}
use Rattle.std.specs.List.{list_any, list_all}
use Rattle.name_order.specs.declared.marking.Kind.{Kind}
use Rattle.name_order.specs.declared.marking.Kind.TheVariants.{Leads, Members, Outside, Meets}
use Rattle.prog_data.specs.declared.grammars.Rule.TheVariants as rule
use Rattle.name_order.specs.Tables.{unit_leads, due, marking, Grid, has, lacks, unmarked, Grown, Looked, DoneAreMarked, IsLeast, name_after}
use Rattle.name_order.proofs.FixpointLaws.{and_left, and_right, and_both, clash, not_true, table_least}
use Rattle.name_order.proofs.RelationLaws.{pair_same, pair_itself, pair_listed, all_mono, any_mono, leaf_has_mono, leaf_below_mono, leaf_meets_mono}

-- what is left of a list

module _ {A : Type 0} (r s : A → Bool) (w : Within r s) where
  left_le : (xs : List A) → length (filter (λ x. not (s x)) xs) ≤ length (filter (λ x. not (r x)) xs)
  left_le [] = omega arith
  left_le (x ∷ xs) = either (r x) (s x) (w x) (left_le xs)
    where
      either : (b c : Bool) → (b ≡ true → c ≡ true) → length (filter (λ y. not (s y)) xs) ≤ length (filter (λ y. not (r y)) xs) →
          length (cond (not c) (x ∷ filter (λ y. not (s y)) xs) (filter (λ y. not (s y)) xs)) ≤ length (cond (not b) (x ∷ filter (λ y. not (r y)) xs) (filter (λ y. not (r y)) xs))
      either true true h le = le
      either true false h le = absurd (true≢false (sym (h refl)))
      either false true h le = omega (arith, le)
      either false false h le = omega (arith, le)

  -- where one comes to pass, fewer are left
  pub left_fewer : {q : A} (xs : List A) → In q xs → r q ≡ false → s q ≡ true → length (filter (λ x. not (s x)) xs) < length (filter (λ x. not (r x)) xs)
  left_fewer [] i e f = elim i [ ]
  left_fewer {q = q} (x ∷ xs) here e f = either (r q) (s q) e f (left_le xs)
    where
      either : (b c : Bool) → b ≡ false → c ≡ true → length (filter (λ y. not (s y)) xs) ≤ length (filter (λ y. not (r y)) xs) →
          length (cond (not c) (q ∷ filter (λ y. not (s y)) xs) (filter (λ y. not (s y)) xs)) < length (cond (not b) (q ∷ filter (λ y. not (r y)) xs) (filter (λ y. not (r y)) xs))
      either true c e f le = absurd (true≢false e)
      either false true e f le = omega (arith, le)
      either false false e f le = absurd (true≢false (sym f))
  left_fewer (x ∷ xs) (later i) e f = either (r x) (s x) (w x) (left_fewer xs i e f)
    where
      either : (b c : Bool) → (b ≡ true → c ≡ true) → length (filter (λ y. not (s y)) xs) < length (filter (λ y. not (r y)) xs) →
          length (cond (not c) (x ∷ filter (λ y. not (s y)) xs) (filter (λ y. not (s y)) xs)) < length (cond (not b) (x ∷ filter (λ y. not (r y)) xs) (filter (λ y. not (r y)) xs))
      either true true h le = le
      either true false h le = absurd (true≢false (sym (h refl)))
      either false true h le = omega (arith, le)
      either false false h le = omega (arith, le)

-- the rules are monotone

unit_leads_mono : (r s : Pair → Bool) → Within r s → (m : ℕ) → Within (unit_leads r m) (unit_leads s m)
unit_leads_mono r s w m (rule.Unit k) e = w (k, m) e
unit_leads_mono r s w m other e = cc

or_mono : (a b c : Bool) → (b ≡ true → c ≡ true) → (a || b) ≡ true → (a || c) ≡ true
or_mono true b c h e = refl
or_mono false b c h e = h e

not_mono : (b c : Bool) → (c ≡ true → b ≡ true) → not b ≡ true → not c ≡ true
not_mono true c h e = absurd (true≢false (sym e))
not_mono false true h e = h refl
not_mono false false h e = refl

module _ (lists : List (List Rule)) (r s : Pair → Bool) (w : Within r s) where
  abbrev within : (Pair → Bool) → Pair → Bool
  within t q = are_names (length lists) q && not (t q)

  fewer_outside : Within (within s) (within r)
  fewer_outside q e = and_both (are_names (length lists) q) (not (r q)) (and_left _ _ e) (not_mono (s q) (r q) (w q) (and_right (are_names (length lists) q) _ e))

  due_mono : (kind : Kind) → Within (due kind lists r) (due kind lists s)
  due_mono Leads p e = or_mono (p.0 == p.1) _ _ (any_mono (unit_leads r p.1) (unit_leads s p.1) (unit_leads_mono r s w p.1) (looked_up lists p.0)) e
  due_mono Members p e = and_both (p.0 == p.1) _ (and_left _ _ e) (any_mono (leaf_has (λ n. r (n, n))) (leaf_has (λ n. s (n, n))) (leaf_has_mono (λ n. r (n, n)) (λ n. s (n, n)) (λ n. w (n, n))) (looked_up lists p.0) (and_right (p.0 == p.1) _ e))
  due_mono Outside p e =
      not_mono _ _
      (all_mono (λ a. list_any (leaf_below (within s) a) (looked_up lists p.1)) (λ a. list_any (leaf_below (within r) a) (looked_up lists p.1))
      (λ a. any_mono (leaf_below (within s) a) (leaf_below (within r) a) (leaf_below_mono (within s) (within r) fewer_outside a) (looked_up lists p.1)) (looked_up lists p.0))
      e
  due_mono Meets p e =
      any_mono (λ a. list_any (leaf_meets r a) (looked_up lists p.1)) (λ a. list_any (leaf_meets s a) (looked_up lists p.1))
      (λ a. any_mono (leaf_meets r a) (leaf_meets s a) (leaf_meets_mono r s w a) (looked_up lists p.1)) (looked_up lists p.0) e

pub marking_mono : (kind : Kind) (lists : List (List Rule)) → Monotone (marking kind lists)
marking_mono kind lists r s w p e = and_both (are_names (length lists) p) _ (and_left _ _ e) (due_mono lists r s w kind p (and_right (are_names (length lists) p) _ e))

-- a look at one pair

pub or_parts_true : (a b : Bool) → (a || b) ≡ true → (a ≡ true) ⊎ (b ≡ true)
or_parts_true true b e = inl refl
or_parts_true false b e = inr e

pub or_first : (a b : Bool) → a ≡ true → (a || b) ≡ true
or_first true b e = refl
or_first false b e = absurd (true≢false (sym e))

pub or_second : (a b : Bool) → b ≡ true → (a || b) ≡ true
or_second true b e = refl
or_second false b e = e

module _ (rule : RuleOf Pair) where
  pub grown_more : {old cur new : Grid} → Grown rule old cur → Grown rule cur new → Grown rule old new
  grown_more g h = record { size = h.size ∙ g.size; sound = λ s c w. h.sound s c (g.sound s c w) }

  -- a look at a pair that is done
  pub look_done : (q : Pair) (old done : Grid) → has done q ≡ true → Looked rule (λ p. same_pair p q) old done old done false
  look_done q old done e = record {
    grown = record { size = refl; sound = λ s c w. w };
    size = refl;
    fewer = λ f. absurd (true≢false (sym f));
    same = λ f. refl;
    done_marked = λ w. w;
    more = λ f p h. h;
    done = λ f p h. subst (λ x. has done x ≡ true) (sym (pair_same p q h)) e;
  }

  -- at one that is marked, or not due
  pub look_idle : (q : Pair) (old done new_done : Grid) → (rule (has old) q ≡ true → has old q ≡ true) → new_done.size ≡ done.size → ((p : Pair) → has new_done p ≡ (same_pair p q || has done p)) →
      Looked rule (λ p. same_pair p q) old done old new_done false
  look_idle q old done new_done idle z h = record {
    grown = record { size = refl; sound = λ s c w. w };
    size = z;
    fewer = λ f. absurd (true≢false (sym f));
    same = λ f. refl;
    done_marked = λ w p d. either w p (or_parts_true (same_pair p q) (has done p) (sym (h p) ∙ d));
    more = λ f p d. h p ∙ or_second (same_pair p q) (has done p) d;
    done = λ f p s. h p ∙ or_first (same_pair p q) (has done p) s;
  }
    where
      either : DoneAreMarked rule old done → (p : Pair) → (same_pair p q ≡ true) ⊎ (has done p ≡ true) → rule (has old) p ≡ true → has old p ≡ true
      either w p (inl s) = subst (λ x. rule (has old) x ≡ true → has old x ≡ true) (sym (pair_same p q s)) idle
      either w p (inr d) = w p d

  -- at one that is marked now, and what this touches is done no more
  pub look_marks : Monotone rule → (touch : Pair → Bool) (q : Pair) (old done new between new_done : Grid) → are_names old.size q ≡ true → has old q ≡ false → rule (has old) q ≡ true →
      new.size ≡ old.size → ((p : Pair) → has new p ≡ (same_pair p q || has old p)) → ((p : Pair) → touch p ≡ false → rule (has new) p ≡ true → rule (has old) p ≡ true) →
      between.size ≡ done.size → ((p : Pair) → has between p ≡ (same_pair p q || has done p)) →
      new_done.size ≡ between.size → ((p : Pair) → has new_done p ≡ (not (touch p) && has between p)) →
      Looked rule (λ p. same_pair p q) old done new new_done true
  look_marks mono touch q old done new between new_done named n d z h back y g x f = record {
    grown = record { size = z; sound = sound };
    size = x ∙ y;
    fewer = λ e. subst (λ k. length (filter (λ p. not (has new p)) (all_pairs k)) < unmarked old) (sym z)
        (left_fewer (has old) (has new) kept (all_pairs old.size) ((pair_listed old.size q).0 named) n (h q ∙ or_first (same_pair q q) _ (pair_itself q)));
    same = λ e. absurd (true≢false e);
    done_marked = λ w p e. done_marked w p (sym (f p) ∙ e);
    more = λ e. absurd (true≢false e);
    done = λ e. absurd (true≢false e);
  }
    where
      kept : Within (has old) (has new)
      kept p e = h p ∙ or_second (same_pair p q) (has old p) e

      sound : (s : Pair → Bool) → ClosedTest rule s → Within (has old) s → Within (has new) s
      sound s c w p e = either (or_parts_true (same_pair p q) (has old p) (sym (h p) ∙ e))
        where
          either : (same_pair p q ≡ true) ⊎ (has old p ≡ true) → s p ≡ true
          either (inl i) = subst (λ x. s x ≡ true) (sym (pair_same p q i)) (c q (mono (has old) s w q d))
          either (inr o) = w p o

      done_marked : DoneAreMarked rule old done → (p : Pair) → (not (touch p) && has between p) ≡ true → rule (has new) p ≡ true → has new p ≡ true
      done_marked w p e m = either (or_parts_true (same_pair p q) (has done p) (sym (g p) ∙ and_right (not (touch p)) _ e))
        where
          either : (same_pair p q ≡ true) ⊎ (has done p ≡ true) → has new p ≡ true
          either (inl i) = h p ∙ or_first (same_pair p q) (has old p) i
          either (inr o) = h p ∙ or_second (same_pair p q) (has old p) (w p o (back p (not_true (touch p) (and_left _ _ e)) m))

  -- one look after another
  pub and_then : (seen next all : Pair → Bool) (old old_done cur cur_done new new_done : Grid) (a b : Bool) → Looked rule seen old old_done cur cur_done a → Looked rule next cur cur_done new new_done b →
      ((p : Pair) → all p ≡ true → (seen p ≡ true) ⊎ (next p ≡ true)) → Looked rule all old old_done new new_done (a || b)
  and_then seen next all old old_done cur cur_done new new_done a b m n cover = record {
    grown = grown_more m.grown n.grown;
    size = n.size ∙ m.size;
    fewer = λ e. fewer a b e m.fewer m.same n.fewer n.same;
    same = λ e. n.same (neither a b e).1 ∙ m.same (neither a b e).0;
    done_marked = λ w. n.done_marked (m.done_marked w);
    more = λ e p d. n.more (neither a b e).1 p (m.more (neither a b e).0 p d);
    done = λ e p i. done (neither a b e) p (cover p i);
  }
    where
      neither : (a b : Bool) → (a || b) ≡ false → (a ≡ false) × (b ≡ false)
      neither true b e = absurd (true≢false e)
      neither false b e = (refl, e)

      fewer : (a b : Bool) → (a || b) ≡ true → (a ≡ true → unmarked cur < unmarked old) → (a ≡ false → cur ≡ old) → (b ≡ true → unmarked new < unmarked cur) → (b ≡ false → new ≡ cur) → unmarked new < unmarked old
      fewer true true e f g h i = let x = f refl in let y = h refl in omega (arith, x, y)
      fewer true false e f g h i = let x = f refl in let y = ap unmarked (i refl) in omega (arith, x, y)
      fewer false true e f g h i = let x = ap unmarked (g refl) in let y = h refl in omega (arith, x, y)
      fewer false false e f g h i = absurd (true≢false (sym e))

      done : (a ≡ false) × (b ≡ false) → (p : Pair) → (seen p ≡ true) ⊎ (next p ≡ true) → has new_done p ≡ true
      done e p (inl i) = n.more e.1 p (m.done e.0 p i)
      done e p (inr i) = n.done e.1 p i

  -- what the rule gives from the least table is in it
  pub least_has : Monotone rule → (size : ℕ) (t : Grid) → IsLeast rule size t → ClosedTest rule (has t)
  least_has mono size t l p e = (l.least p).1 (λ s c. c p (mono (has t) s (λ q h. (l.least q).0 h s c) p e))

  -- the end
  pub is_least : (size : ℕ) (old new : Grid) → old.size ≡ size → ((p : Pair) → has old p ≡ false) → Grown rule old new → ClosedTest rule (has new) → IsLeast rule size new
  is_least size old new z none g closed = record {
    size = g.size ∙ z;
    least = table_least rule (has new) closed (λ s c. g.sound s c (λ p e. absurd (clash _ e (none p))));
  }

-- the pairs of a row up to some, and one more
pub row_cover : (first second : ℕ) (p : Pair) → ((p.0 == first) && nat_lt p.1 (second + 1)) ≡ true → (((p.0 == first) && nat_lt p.1 second) ≡ true) ⊎ (same_pair p (first, second) ≡ true)
row_cover first second p e = either (p.0 == first) (nat_lt p.1 (second + 1)) (nat_lt p.1 second) (p.1 == second) (and_left _ _ e) (and_right (p.0 == first) _ e) (parts (nat_lt p.1 second) refl)
  where
    parts : (b : Bool) → nat_lt p.1 second ≡ b → nat_lt p.1 (second + 1) ≡ true → (nat_lt p.1 second ≡ true) ⊎ ((p.1 == second) ≡ true)
    parts true e f = inl e
    parts false e f = inr (grind (arith, nat_tests))

    either : (a b c d : Bool) → a ≡ true → b ≡ true → (b ≡ true → (c ≡ true) ⊎ (d ≡ true)) → ((a && c) ≡ true) ⊎ ((a && d) ≡ true)
    either a b c d x y f = elim (f y) as (λ _. ((a && c) ≡ true) ⊎ ((a && d) ≡ true)) [ inl l ↦ inl (and_both a c x l) | inr r ↦ inr (and_both a d x r) ]

-- the names that were looked at after so many looks
abbrev pub looked_at : Bool → ℕ → ℕ → ℕ → Bool
looked_at true size step n = nat_lt n step
looked_at false size step n = nat_lt n size && nat_lt size (n + step + 1)

look_cover : (forward : Bool) (size step n : ℕ) → step < size → looked_at forward size (step + 1) n ≡ true → (looked_at forward size step n ≡ true) ⊎ ((n == name_after forward size step) ≡ true)
look_cover true size step n lt e = either (nat_lt n step) refl
  where
    either : (b : Bool) → nat_lt n step ≡ b → (nat_lt n step ≡ true) ⊎ ((n == step) ≡ true)
    either true f = inl f
    either false f = inr (grind (arith, nat_tests))
look_cover false size step n lt e = either (nat_lt size (n + step + 1)) refl (and_left _ _ e) (and_right (nat_lt n size) _ e)
  where
    either : (b : Bool) → nat_lt size (n + step + 1) ≡ b → nat_lt n size ≡ true → nat_lt size (n + (step + 1) + 1) ≡ true → ((nat_lt n size && nat_lt size (n + step + 1)) ≡ true) ⊎ ((n == size - 1 - step) ≡ true)
    either true f g h = inl (and_both (nat_lt n size) _ g f)
    either false f g h = inr (grind (arith, nat_tests))

-- the pairs whose first name was looked at, and those of one more
pub all_cover : (forward : Bool) (size step first : ℕ) → step < size → first ≡ name_after forward size step → (p : Pair) → (looked_at forward size (step + 1) p.0 && nat_lt p.1 size) ≡ true →
    ((looked_at forward size step p.0 && nat_lt p.1 size) ≡ true) ⊎ (((p.0 == first) && nat_lt p.1 size) ≡ true)
all_cover forward size step first lt e p h = either (look_cover forward size step p.0 lt (and_left _ _ h))
  where
    second : nat_lt p.1 size ≡ true
    second = and_right (looked_at forward size (step + 1) p.0) _ h

    either : (looked_at forward size step p.0 ≡ true) ⊎ ((p.0 == name_after forward size step) ≡ true) → ((looked_at forward size step p.0 && nat_lt p.1 size) ≡ true) ⊎ (((p.0 == first) && nat_lt p.1 size) ≡ true)
    either (inl l) = inl (and_both (looked_at forward size step p.0) _ l second)
    either (inr r) = inr (and_both (p.0 == first) _ (subst (λ n. (p.0 == n) ≡ true) (sym e) r) second)

pub names_of_table : (size n m : ℕ) → n < size → m < size → are_names size (n, m) ≡ true
names_of_table size n m l k = and_both (nat_lt n size) (nat_lt m size) (grind (arith, nat_tests)) (grind (arith, nat_tests))

-- what the code finds of two lists of leaves
pub outside_due : (kind : Kind) (lists : List (List Rule)) (t : Grid) (n m : ℕ) (lows highs : List Rule) (b : Bool) → t.size ≡ length lists → kind ≡ Outside → lows ≡ looked_up lists n → highs ≡ looked_up lists m →
    b ≡ list_all (λ a. list_any (leaf_below (lacks t) a) highs) lows → not b ≡ due kind lists (has t) (n, m)
outside_due kind lists t n m lows highs b z k e f h =
    ap not
    (h
    ∙ ap (list_all (λ a. list_any (leaf_below (lacks t) a) highs)) e
    ∙ ap (λ ys. list_all (λ a. list_any (leaf_below (lacks t) a) ys) (looked_up lists n)) f
    ∙ ap (λ size. list_all (λ a. list_any (leaf_below (λ q. are_names size q && not (has t q)) a) (looked_up lists m)) (looked_up lists n)) z)
    ∙ ap (λ k. due k lists (has t) (n, m)) (sym k)

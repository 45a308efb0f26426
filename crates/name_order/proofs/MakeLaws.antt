-- The tables that are made hold the relations.
use Rattle.std.proofs.Common.{◌≡◌, ◌↔◌, ℕ, zero, suc, ◌<◌, ◌+◌, ◌≤◌, Bool, true, false, ◌&&◌, ◌||◌, List, [], ◌∷◌, length, map, refl, ap, sym, ◌∙◌, subst, arith, ◌⊎◌, inl, inr}
use Rattle.std.proofs.lemmas.Bool.Decides.{nat_tests}
use Rattle.std.proofs.lemmas.List.{length-map}
use Rattle.std.specs.Prelude.{IsTrue, filter, cond, not, ◌==◌}
use Rattle.std.specs.List.{list_any, list_all}
use Rattle.prog_data.specs.declared.grammars.Rule.{Rule}
use Rattle.prog_data.specs.declared.grammars.Rule.TheVariants as rule
use Rattle.prog_data.specs.declared.grammars.Grammar.{Grammar}
use Rattle.prog_data.specs.GrammarRange.{IsGrammar}
use Rattle.prog_data.specs.Membership.{rules_of, is_leaf, leaves}
use Rattle.prog_data.proofs.Leaves.{In, here, later, any_in, in_any, in_filter, filter_in, in_flat, flat_in, Leads, leaf_of, leads_to_leaf}
use Rattle.prog_data.proofs.Leaves as way
use Rattle.name_order.specs.declared.marking.Kind.TheVariants.{Leads as LeadsKind, Members, Outside, Meets as MeetsKind}
use Rattle.name_order.specs.Fixpoints.{RuleOf, ConsistentTest, ClosedTest, GreatestTest, LeastTest, Within}
use Rattle.name_order.specs.Relations.{Pair, is_name, are_names, leaf_has, member_rule, HasMember, names_from, names_below, has_member, full_leaves, looked_up, leaf_below, below_rule, Below, below, leaf_meets, meets_rule, meets}
use Rattle.name_order.specs.Tables.{Grid, has, lacks, unit_leads, marking, led_leaves, leaves_led, all_leaves_led, kept_leaves, IsLeast}
use Rattle.name_order.specs.Held.{SameLeaves, RowsLack, TablesHold}
use Rattle.name_order.proofs.FixpointLaws.{and_left, and_right, and_both, clash, not_true, not_false, not_not_true, by_contrary, table_greatest}
use Rattle.name_order.proofs.RelationLaws.{all_mono, any_mono, leaf_below_mono, name_listed, rules_of_name, named, nat_eq_same, nat_eq_itself, member_law, below_law, meets_law, meets_named}
use Rattle.name_order.proofs.OrderLaws.{inside, outside, empty}
use Rattle.name_order.proofs.TableLaws.{marking_mono, least_has, or_first, or_second, or_parts_true}

same_test : (a b : Bool) → (a ≡ true → b ≡ true) → (b ≡ true → a ≡ true) → a ≡ b
same_test true b f g = sym (f refl)
same_test false true f g = g refl
same_test false false f g = refl

-- a result that is a test that decides a relation
pub by_test : (b t : Bool) (P : Type 0) → b ≡ t → (t ≡ true) ↔ P → IsTrue b ↔ P
by_test b t P e d = subst (λ x. IsTrue x ↔ P) (sym e) d

-- looking up in a list for each name

looked_up_in : (f : ℕ → List Rule) (size n : ℕ) → n < size → looked_up (map f (names_below size)) n ≡ f n
looked_up_in f size n lt = inside f n 0 size lt ∙ ap f (omega arith)

looked_up_out : (f : ℕ → List Rule) (size n : ℕ) → size ≤ n → looked_up (map f (names_below size)) n ≡ []
looked_up_out f size n le = outside f n 0 size le

looked_up_map : (f : List Rule → List Rule) → f [] ≡ [] → (lists : List (List Rule)) (n : ℕ) → looked_up (map f lists) n ≡ f (looked_up lists n)
looked_up_map f e [] n = sym e
looked_up_map f e (xs ∷ lists) zero = refl
looked_up_map f e (xs ∷ lists) (suc n) = looked_up_map f e lists n

any_filter : (p q : Rule → Bool) (xs : List Rule) → list_any p (filter q xs) ≡ list_any (λ x. q x && p x) xs
any_filter p q [] = refl
any_filter p q (x ∷ xs) = either (q x) (any_filter p q xs)
  where
    either : (b : Bool) → list_any p (filter q xs) ≡ list_any (λ x. q x && p x) xs → list_any p (cond b (x ∷ filter q xs) (filter q xs)) ≡ ((b && p x) || list_any (λ x. q x && p x) xs)
    either true e = ap (λ b. p x || b) e
    either false e = e

-- all of a list, by any of it
all_any : (p : Rule → Bool) (xs : List Rule) → list_all p xs ≡ not (list_any (λ x. not (p x)) xs)
all_any p [] = refl
all_any p (x ∷ xs) = either (p x) (all_any p xs)
  where
    either : (b : Bool) → list_all p xs ≡ not (list_any (λ x. not (p x)) xs) → (b && list_all p xs) ≡ not (not b || list_any (λ x. not (p x)) xs)
    either true e = e
    either false e = refl

pub same_all : (xs ys : List Rule) → SameLeaves xs ys → (p : Rule → Bool) → list_all p xs ≡ list_all p ys
same_all xs ys h p = all_any p xs ∙ ap not (h (λ x. not (p x))) ∙ sym (all_any p ys)

-- the leaves, with or without members

module _ (g : Grammar) (t : Grid) (l : IsLeast (marking LeadsKind g.rules) (length g.rules) t) where
  -- a leaf of the name that is led to is one of the name that leads
  led_test : (p : Rule → Bool) → ClosedTest (marking LeadsKind g.rules) (λ q. not (list_any p (leaves g q.1)) || list_any p (leaves g q.0))
  led_test p q e = either (list_any p (leaves g q.1)) refl (or_parts_true (q.0 == q.1) _ (and_right (are_names (length g.rules) q) _ e))
    where
      either : (b : Bool) → list_any p (leaves g q.1) ≡ b → ((q.0 == q.1) ≡ true) ⊎ (list_any (unit_leads (λ q. not (list_any p (leaves g q.1)) || list_any p (leaves g q.0)) q.1) (rules_of g q.0) ≡ true) →
          (not b || list_any p (leaves g q.0)) ≡ true
      either false f h = refl
      either true f (inl s) = subst (λ m. list_any p (leaves g m) ≡ true) (sym (nat_eq_same q.0 q.1 s)) f
      either true f (inr u) = let m = any_in _ (rules_of g q.0) u in by_unit m.0 m.1 m.2
        where
          go_on : (k : ℕ) → In (rule.Unit k) (rules_of g q.0) → (not (list_any p (leaves g q.1)) || list_any p (leaves g k)) ≡ true → list_any p (leaves g q.0) ≡ true
          go_on k i h =
              let there : list_any p (leaves g k) ≡ true = subst (λ b. (not b || list_any p (leaves g k)) ≡ true) f h in
              let x = any_in p (leaves g k) there in
              let w = leaf_of g x.0 (length g.rules) k x.1 in
              in_any p (leaves g q.0) (leads_to_leaf g x.0 q.0 w.0 (q.0 ∷ w.1) (way.more i w.2) w.3 w.4) x.2

          by_unit : (r : Rule) → In r (rules_of g q.0) → unit_leads (λ q. not (list_any p (leaves g q.1)) || list_any p (leaves g q.0)) q.1 r ≡ true → list_any p (leaves g q.0) ≡ true
          by_unit (rule.Unit k) i h = go_on k i h
          by_unit other i h = cc

  leads_both : (n o : ℕ) (xs : List ℕ) → Leads g n o xs → is_name (length g.rules) o ≡ true → is_name (length g.rules) n ≡ true → has t (n, o) ≡ true
  leads_both n o xs way.none e f = least_has (marking LeadsKind g.rules) (marking_mono LeadsKind g.rules) (length g.rules) t l (n, n) (and_both (are_names (length g.rules) (n, n)) _ (and_both (is_name _ n) (is_name _ n) f f) (or_first (n == n) _ (nat_eq_itself n)))
  leads_both n o xs (way.more {m = m} u w) e f =
      least_has (marking LeadsKind g.rules) (marking_mono LeadsKind g.rules) (length g.rules) t l (n, o)
      (and_both (are_names (length g.rules) (n, o)) _ (and_both (is_name _ n) (is_name _ o) f e)
      (or_second (n == o) _ (in_any (unit_leads (has t) o) (rules_of g n) u (leads_both m o _ w e (leads_name m o _ w e)))))
    where
      leads_name : (m o : ℕ) (xs : List ℕ) → Leads g m o xs → is_name (length g.rules) o ≡ true → is_name (length g.rules) m ≡ true
      leads_name m o xs way.none e = e
      leads_name m o xs (way.more {m = k} u w) e = let lt = rules_of_name g.rules (rule.Unit k) m u in grind (arith, nat_tests)

  -- the leaves that are gathered are those of the name
  led_sound : (n : ℕ) (p : Rule → Bool) → list_any p (leaves_led g.rules (has t) n) ≡ true → list_any p (leaves g n) ≡ true
  led_sound n p e =
      let x = any_in p (leaves_led g.rules (has t) n) e in
      let m = flat_in (led_leaves g.rules (has t) n) (names_below (length g.rules)) x.1 in
      from x.0 m.0 m.2 x.2
    where
      from : (r : Rule) (m : ℕ) → In r (led_leaves g.rules (has t) n m) → p r ≡ true → list_any p (leaves g n) ≡ true
      from r m i f = either (has t (n, m)) refl i
        where
          either : (b : Bool) → has t (n, m) ≡ b → In r (cond b (filter is_leaf (looked_up g.rules m)) []) → list_any p (leaves g n) ≡ true
          either true h j =
              let own = filter_in is_leaf (looked_up g.rules m) j in
              let there : list_any p (leaves g m) ≡ true = in_any p (leaves g m) (leads_to_leaf g r m m [] way.none own.0 own.1) f in
              let passed : (not (list_any p (leaves g m)) || list_any p (leaves g n)) ≡ true = (l.least (n, m)).0 h (λ q. not (list_any p (leaves g q.1)) || list_any p (leaves g q.0)) (led_test p) in
              subst (λ b. (not b || list_any p (leaves g n)) ≡ true) there passed
          either false h j = elim j [ ]

  led_complete : (n : ℕ) (p : Rule → Bool) → list_any p (leaves g n) ≡ true → list_any p (leaves_led g.rules (has t) n) ≡ true
  led_complete n p e =
      let x = any_in p (leaves g n) e in
      let w = leaf_of g x.0 (length g.rules) n x.1 in
      let lt = rules_of_name g.rules x.0 w.0 w.3 in
      let o : is_name (length g.rules) w.0 ≡ true = grind (arith, nat_tests) in
      in_any p (leaves_led g.rules (has t) n) (in_flat (led_leaves g.rules (has t) n) (names_below (length g.rules)) ((name_listed (length g.rules) w.0).0 o)
      (subst (λ b. In x.0 (cond b (filter is_leaf (looked_up g.rules w.0)) [])) (sym (leads_both n w.0 w.1 w.2 o (named g x.0 n x.1))) (in_filter is_leaf (looked_up g.rules w.0) w.4 w.3))) x.2

  same_led : (n : ℕ) → SameLeaves (looked_up (all_leaves_led g.rules (has t)) n) (leaves g n)
  same_led n p = either (is_name (length g.rules) n) refl
    where
      either : (b : Bool) → is_name (length g.rules) n ≡ b → list_any p (looked_up (all_leaves_led g.rules (has t)) n) ≡ list_any p (leaves g n)
      either true e = ap (list_any p) (looked_up_in (leaves_led g.rules (has t)) (length g.rules) n (grind (arith, nat_tests))) ∙ same_test _ _ (led_sound n p) (led_complete n p)
      either false e =
          ap (list_any p) (looked_up_out (leaves_led g.rules (has t)) (length g.rules) n (grind (arith, nat_tests)))
          ∙ sym (ap (list_any p) (empty (leaves g n) (λ r i. clash _ (named g r n i) e)))

-- the names with members

module _ (g : Grammar) (all : List (List Rule)) (size : length all ≡ length g.rules) (same : (n : ℕ) → SameLeaves (looked_up all n) (leaves g n)) (t : Grid) (l : IsLeast (marking Members all) (length all) t) where
  members_sound : (n : ℕ) → has t (n, n) ≡ true → HasMember g n
  members_sound n e r closed = (l.least (n, n)).0 e (λ q. r q.0) within
    where
      within : ClosedTest (marking Members all) (λ q. r q.0)
      within q f = closed q.0 (sym (same q.0 (leaf_has r)) ∙ and_right (q.0 == q.1) _ (and_right (are_names (length all) q) _ f))

  members_complete : (n : ℕ) → HasMember g n → has t (n, n) ≡ true
  members_complete n h = h (λ k. has t (k, k)) closed
    where
      closed : ClosedTest (member_rule g) (λ k. has t (k, k))
      closed k e =
          let x = any_in (leaf_has (λ k. has t (k, k))) (leaves g k) e in
          let name : is_name (length all) k ≡ true = subst (λ s. is_name s k ≡ true) (sym size) (named g x.0 k x.1) in
          least_has (marking Members all) (marking_mono Members all) (length all) t l (k, k)
          (and_both (are_names (length all) (k, k)) _ (and_both (is_name _ k) (is_name _ k) name name)
          (and_both (k == k) _ (nat_eq_itself k) (same k (leaf_has (λ k. has t (k, k))) ∙ e)))

  same_members : (n : ℕ) → has t (n, n) ≡ has_member g n
  same_members n = same_test _ _ (λ e. (member_law g n).1 (members_sound n e)) (λ e. members_complete n ((member_law g n).0 e))

  same_kept : (n : ℕ) → SameLeaves (looked_up (map (kept_leaves (has t)) all) n) (full_leaves g n)
  same_kept n p =
      ap (list_any p) (looked_up_map (kept_leaves (has t)) refl all n)
      ∙ any_filter p (leaf_has (λ k. has t (k, k))) (looked_up all n)
      ∙ same n (λ r. leaf_has (λ k. has t (k, k)) r && p r)
      ∙ (λ i. list_any (λ r. leaf_has (λ k. same_members k i) r && p r) (leaves g n))
      ∙ sym (any_filter p (leaf_has (has_member g)) (leaves g n))

-- what is below what, and what meets what

-- the rule of what is not below, by the leaves of each name
abbrev outside_rule : ℕ → (ℕ → List Rule) → RuleOf Pair
outside_rule size full r p = are_names size p && not (list_all (λ a. list_any (leaf_below (λ q. are_names size q && not (r q)) a) (full p.1)) (full p.0))

module _ (size : ℕ) (full : ℕ → List Rule) (t : Grid) (count : t.size ≡ size) (closed : ClosedTest (outside_rule size full) (has t)) (least : (p : Pair) → has t p ≡ true → LeastTest (outside_rule size full) p) where
  lacking_consistent : ConsistentTest (below_rule size full) (λ q. are_names size q && not (has t q))
  lacking_consistent p e =
      and_both (are_names size p) _ (and_left _ _ e)
      (by_contrary _ (λ f. clash (has t p) (closed p (and_both (are_names size p) _ (and_left _ _ e) (not_false _ f))) (not_true (has t p) (and_right (are_names size p) _ e))))

  lacking_greatest : (s : Pair → Bool) → ConsistentTest (below_rule size full) s → Within s (λ q. are_names size q && not (has t q))
  lacking_greatest s cons p e = and_both (are_names size p) _ (names p e) (not_false _ (not_not_true (has t p) (λ h. clash (s p) e (not_true (s p) (least p h (λ q. not (s q)) others)))))
    where
      names : (q : Pair) → s q ≡ true → are_names size q ≡ true
      names q h = and_left _ _ (cons q h)

      twice : (b : Bool) → b ≡ true → not (not b) ≡ true
      twice true h = refl
      twice false h = h

      wider : Within s (λ q. are_names size q && not (not (s q)))
      wider q h = and_both (are_names size q) _ (names q h) (twice (s q) h)

      others : ClosedTest (outside_rule size full) (λ q. not (s q))
      others q h = not_false (s q) (not_not_true (s q) (λ f.
          clash _ (all_mono (λ a. list_any (leaf_below s a) (full q.1)) (λ a. list_any (leaf_below (λ x. are_names size x && not (not (s x))) a) (full q.1))
          (λ a. any_mono (leaf_below s a) (leaf_below (λ x. are_names size x && not (not (s x))) a) (leaf_below_mono s (λ x. are_names size x && not (not (s x))) wider a) (full q.1)) (full q.0)
          (and_right (are_names size q) _ (cons q f)))
          (not_true _ (and_right (are_names size q) _ h))))

  lacks_greatest : (p : Pair) → (lacks t p ≡ true) ↔ GreatestTest (below_rule size full) p
  lacks_greatest p = subst (λ k. ((are_names k p && not (has t p)) ≡ true) ↔ GreatestTest (below_rule size full) p) (sym count) (table_greatest (below_rule size full) (λ q. are_names size q && not (has t q)) lacking_consistent lacking_greatest p)

module _ (g : Grammar) (lists : List (List Rule)) (size : length lists ≡ length g.rules) (same : (n : ℕ) → SameLeaves (looked_up lists n) (full_leaves g n)) (t : Grid) where
  same_pairs : (f : Rule → Rule → Bool) (p : Pair) → list_any (λ a. list_any (f a) (looked_up lists p.1)) (looked_up lists p.0) ≡ list_any (λ a. list_any (f a) (full_leaves g p.1)) (full_leaves g p.0)
  same_pairs f p = same p.0 (λ a. list_any (f a) (looked_up lists p.1)) ∙ (λ i. list_any (λ a. same p.1 (f a) i) (full_leaves g p.0))

  meets_same : (r : Pair → Bool) (p : Pair) → marking MeetsKind lists r p ≡ meets_rule (full_leaves g) r p
  meets_same r p = ap (λ k. are_names k p && list_any (λ a. list_any (leaf_meets r a) (looked_up lists p.1)) (looked_up lists p.0)) size ∙ ap (λ b. are_names (length g.rules) p && b) (same_pairs (leaf_meets r) p) ∙ absorb (are_names (length g.rules) p) (meets_rule (full_leaves g) r p) (meets_named g r p)
    where
      absorb : (a b : Bool) → (b ≡ true → a ≡ true) → (a && b) ≡ b
      absorb true b h = refl
      absorb false true h = h refl
      absorb false false h = refl

  same_meets : IsLeast (marking MeetsKind lists) (length lists) t → (n m : ℕ) → has t (n, m) ≡ meets g n m
  same_meets l n m = same_test _ _ (λ e. (meets_law g n m).1 (subst (λ rule. LeastTest rule (n, m)) is_rule ((l.least (n, m)).0 e))) (λ e. (l.least (n, m)).1 (subst (λ rule. LeastTest rule (n, m)) (sym is_rule) ((meets_law g n m).0 e)))
    where
      is_rule : marking MeetsKind lists ≡ meets_rule (full_leaves g)
      is_rule = λ i r p. meets_same r p i

  outside_same : (r : Pair → Bool) (p : Pair) → marking Outside lists r p ≡ outside_rule (length g.rules) (full_leaves g) r p
  outside_same r p =
      ap (λ k. are_names k p && not (list_all (λ a. list_any (leaf_below (λ q. are_names k q && not (r q)) a) (looked_up lists p.1)) (looked_up lists p.0))) size
      ∙ ap (λ b. are_names (length g.rules) p && not b)
      (same_all (looked_up lists p.0) (full_leaves g p.0) (same p.0) (λ a. list_any (leaf_below (λ q. are_names (length g.rules) q && not (r q)) a) (looked_up lists p.1))
      ∙ (λ i. list_all (λ a. same p.1 (leaf_below (λ q. are_names (length g.rules) q && not (r q)) a) i) (full_leaves g p.0)))

  same_below : IsLeast (marking Outside lists) (length lists) t → (n m : ℕ) → lacks t (n, m) ≡ below g n m
  same_below l n m = same_test _ _ (λ e. (below_law g n m).1 ((lacking n m).0 e)) (λ e. (lacking n m).1 ((below_law g n m).0 e))
    where
      is_rule : marking Outside lists ≡ outside_rule (length g.rules) (full_leaves g)
      is_rule = λ i r p. outside_same r p i

      lacking : (n m : ℕ) → (lacks t (n, m) ≡ true) ↔ Below g n m
      lacking n m = lacks_greatest (length g.rules) (full_leaves g) t (l.size ∙ size)
          (subst (λ rule. ClosedTest rule (has t)) is_rule (least_has (marking Outside lists) (marking_mono Outside lists) (length lists) t l))
          (λ p e. subst (λ rule. LeastTest rule p) is_rule ((l.least p).0 e)) (n, m)

-- all of it

pub all_led_length : (lists : List (List Rule)) (leads : Pair → Bool) → length (all_leaves_led lists leads) ≡ length lists
all_led_length lists leads = length-map (names_below (length lists)) (leaves_led lists leads) ∙ count 0 (length lists)
  where
    count : (first k : ℕ) → length (names_from first k) ≡ k
    count first zero = refl
    count first (suc k) = ap suc (count (first + 1) k)

pub holds : (g : Grammar) → IsGrammar g → (leads members outside meeting : Grid) → IsLeast (marking LeadsKind g.rules) (length g.rules) leads →
    IsLeast (marking Members (all_leaves_led g.rules (has leads))) (length (all_leaves_led g.rules (has leads))) members →
    IsLeast (marking Outside (map (kept_leaves (has members)) (all_leaves_led g.rules (has leads)))) (length (map (kept_leaves (has members)) (all_leaves_led g.rules (has leads)))) outside →
    IsLeast (marking MeetsKind (map (kept_leaves (has members)) (all_leaves_led g.rules (has leads)))) (length (map (kept_leaves (has members)) (all_leaves_led g.rules (has leads)))) meeting →
    (above_rows apart_rows : List (List ℕ)) → RowsLack outside above_rows → RowsLack meeting apart_rows →
    TablesHold g (map (kept_leaves (has members)) (all_leaves_led g.rules (has leads))) members outside meeting above_rows apart_rows
holds g range leads members outside meeting a b c d above_rows apart_rows e f = record {
  range = range;
  same_leaves = kept;
  has_members = same_members g (all_leaves_led g.rules (has leads)) count led members b;
  are_below = belows;
  are_meeting = meeting_is;
  aboves = λ n lt. e n (subst (λ k. n < k) (sym (c.size ∙ kept_count)) lt) ∙ (λ i m. belows n m i);
  aparts = λ n lt. f n (subst (λ k. n < k) (sym (d.size ∙ kept_count)) lt) ∙ (λ i m. are_names ((d.size ∙ kept_count) i) (n, m) && not (meeting_is n m i));
}
  where
    count : length (all_leaves_led g.rules (has leads)) ≡ length g.rules
    count = all_led_length g.rules (has leads)

    led : (n : ℕ) → SameLeaves (looked_up (all_leaves_led g.rules (has leads)) n) (leaves g n)
    led = same_led g leads a

    kept_count : length (map (kept_leaves (has members)) (all_leaves_led g.rules (has leads))) ≡ length g.rules
    kept_count = length-map (all_leaves_led g.rules (has leads)) (kept_leaves (has members)) ∙ count

    kept : (n : ℕ) → SameLeaves (looked_up (map (kept_leaves (has members)) (all_leaves_led g.rules (has leads))) n) (full_leaves g n)
    kept = same_kept g (all_leaves_led g.rules (has leads)) count led members b

    belows : (n m : ℕ) → lacks outside (n, m) ≡ below g n m
    belows = same_below g (map (kept_leaves (has members)) (all_leaves_led g.rules (has leads))) kept_count kept outside c

    meeting_is : (n m : ℕ) → has meeting (n, m) ≡ meets g n m
    meeting_is = same_meets g (map (kept_leaves (has members)) (all_leaves_led g.rules (has leads))) kept_count kept meeting d

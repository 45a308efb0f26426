-- What a rule gives for a pair hangs on the pairs of names that its leaves speak of, so it is new only where one of these was marked.
use Rattle.std.proofs.Common.{◌≡◌, ℕ, Bool, true, false, ◌&&◌, ◌||◌, List, [], ◌∷◌, length, refl, ap, sym, ◌∙◌, subst, arith, ◌⊎◌, inl, inr}
use Rattle.std.proofs.lemmas.Bool.Decides.{nat_tests}
use Rattle.std.specs.Prelude.{not, cond, ◌==◌, slice_index_or}
use Rattle.std.specs.List.{list_any, list_all}
use Rattle.prog_data.specs.declared.grammars.Basic.{Basic}
use Rattle.prog_data.specs.declared.grammars.Basic.TheVariants as basic
use Rattle.prog_data.specs.declared.grammars.Rule.{Rule}
use Rattle.prog_data.specs.declared.grammars.Rule.TheVariants as rule
use Rattle.prog_data.proofs.Leaves.{In, here, later, any_in, in_any, in_flat}
use Rattle.name_order.specs.declared.marking.Kind.{Kind}
use Rattle.name_order.specs.declared.marking.Kind.TheVariants.{Leads, Members, Outside, Meets}
use Rattle.prog_data.specs.declared.basic_names.TheConstants.{GND_TYPE}
use Rattle.name_order.specs.Relations.{Pair, same_pair, is_name, are_names, names_below, leaf_has, each_pair, below_of_node, leaf_below, node_meets_basic, leaf_meets, looked_up}
use Rattle.name_order.specs.Tables.{listed, speaks_of, user_if, users, all_users, touched, unit_leads, due, marking}
use Rattle.name_order.proofs.FixpointLaws.{and_left, and_right, and_both, clash, not_true, not_false, not_not_true}
use Rattle.name_order.proofs.RelationLaws.{all_in, name_listed, nat_eq_same, nat_eq_itself}
use Rattle.name_order.proofs.OrderLaws.{inside}
use Rattle.name_order.proofs.TableLaws.{or_first, or_second, or_parts_true}

listed_in : (ns : List ℕ) (n : ℕ) → In n ns → listed ns n ≡ true
listed_in ns n i = in_any (λ m. n == m) ns i (nat_eq_itself n)

all_by_in : (t : Rule → Bool) (xs : List Rule) → ((x : Rule) → In x xs → t x ≡ true) → list_all t xs ≡ true
all_by_in t [] h = refl
all_by_in t (x ∷ xs) h = and_both (t x) _ (h x here) (all_by_in t xs (λ y i. h y (later i)))

-- a leaf's rule stays where the pairs stay that it speaks of

module _ (r s : Pair → Bool) where
  all_stay : (k : ℕ) (ns : List ℕ) → ((n : ℕ) → In n ns → r (n, k) ≡ true → s (n, k) ≡ true) → list_all (λ n. r (n, k)) ns ≡ true → list_all (λ n. s (n, k)) ns ≡ true
  all_stay k [] w e = refl
  all_stay k (n ∷ ns) w e = and_both (s (n, k)) _ (w n here (and_left _ _ e)) (all_stay k ns (λ m i. w m (later i)) (and_right (r (n, k)) _ e))

  each_stay : (ns ms : List ℕ) → ((n m : ℕ) → In n ns → In m ms → r (n, m) ≡ true → s (n, m) ≡ true) → each_pair r ns ms ≡ true → each_pair s ns ms ≡ true
  each_stay [] [] w e = refl
  each_stay [] (m ∷ ms) w e = cc
  each_stay (n ∷ ns) [] w e = cc
  each_stay (n ∷ ns) (m ∷ ms) w e = and_both (s (n, m)) (each_pair s ns ms) (w n m here here (and_left _ _ e)) (each_stay ns ms (λ x y i j. w x y (later i) (later j)) (and_right (r (n, m)) _ e))

  -- a pair that two leaves speak of, in this order
  abbrev Stays : Rule → Rule → Type 0
  Stays a b = (n m : ℕ) → speaks_of n a ≡ true → ((m == GND_TYPE) || speaks_of m b) ≡ true → r (n, m) ≡ true → s (n, m) ≡ true

  below_stays : (a b : Rule) → Stays a b → leaf_below r a b ≡ true → leaf_below s a b ≡ true
  below_stays (rule.Node f ns) b w e = node b w e
    where
      node : (b : Rule) → Stays (rule.Node f ns) b → below_of_node r f ns b ≡ true → below_of_node s f ns b ≡ true
      node (rule.Basic basic.Term) w e = refl
      node (rule.Basic basic.Struct) w e = refl
      node (rule.Basic basic.Gnd) w e = all_stay GND_TYPE ns (λ n i. w n GND_TYPE (listed_in ns n i) refl) e
      node (rule.Node h ms) w e = and_both (f == h) (each_pair s ns ms) (and_left _ _ e) (each_stay ns ms (λ n m i j. w n m (listed_in ns n i) (or_second (m == GND_TYPE) _ (listed_in ms m j))) (and_right (f == h) _ e))
      node other w e = cc
  below_stays (rule.Basic a) b w e = e
  below_stays (rule.Int k) b w e = e
  below_stays (rule.Atom a) b w e = e
  below_stays (rule.Unit m) b w e = cc

  node_basic_stays : (ns : List ℕ) (b : Basic) → ((n : ℕ) → In n ns → r (n, GND_TYPE) ≡ true → s (n, GND_TYPE) ≡ true) → node_meets_basic r ns b ≡ true → node_meets_basic s ns b ≡ true
  node_basic_stays ns basic.Term w e = refl
  node_basic_stays ns basic.Struct w e = refl
  node_basic_stays ns basic.Gnd w e = all_stay GND_TYPE ns w e
  node_basic_stays ns other w e = cc

  -- meets speaks of them in both orders
  meets_stays : (a b : Rule) → Stays a b → Stays b a → leaf_meets r a b ≡ true → leaf_meets s a b ≡ true
  meets_stays (rule.Basic a) (rule.Node f ns) w v e = node_basic_stays ns a (λ n i. v n GND_TYPE (listed_in ns n i) refl) e
  meets_stays (rule.Basic a) (rule.Basic b) w v e = e
  meets_stays (rule.Basic a) (rule.Int k) w v e = e
  meets_stays (rule.Basic a) (rule.Atom c) w v e = e
  meets_stays (rule.Basic a) (rule.Unit m) w v e = e
  meets_stays (rule.Int k) b w v e = e
  meets_stays (rule.Atom a) b w v e = e
  meets_stays (rule.Node f ns) (rule.Basic b) w v e = node_basic_stays ns b (λ n i. w n GND_TYPE (listed_in ns n i) refl) e
  meets_stays (rule.Node f ns) (rule.Node h ms) w v e = and_both (f == h) (each_pair s ns ms) (and_left _ _ e) (each_stay ns ms (λ n m i j. w n m (listed_in ns n i) (or_second (m == GND_TYPE) _ (listed_in ms m j))) (and_right (f == h) _ e))
  meets_stays (rule.Node f ns) b w v e = cc
  meets_stays (rule.Unit m) b w v e = cc

-- who uses a name

module _ (lists : List (List Rule)) where
  users_found : (k : ℕ) → is_name (length lists) k ≡ true → slice_index_or (all_users lists) k [] ≡ users lists k
  users_found k e = inside (users lists) k 0 (length lists) (grind (arith, nat_tests)) ∙ ap (users lists) (omega arith)

  -- a name with a leaf that speaks of another uses it, and each uses gnd
  used_by : (k n : ℕ) (a : Rule) → is_name (length lists) k ≡ true → is_name (length lists) n ≡ true → In a (looked_up lists n) → ((k == GND_TYPE) || speaks_of k a) ≡ true → listed (slice_index_or (all_users lists) k []) n ≡ true
  used_by k n a known name i e =
      subst (λ ns. listed ns n ≡ true) (sym (users_found k known))
      (listed_in (users lists k) n (in_flat (user_if lists k) (names_below (length lists)) ((name_listed (length lists) n).0 name)
      (subst (λ b. In n (cond b (n ∷ []) [])) (sym (either (or_parts_true (k == GND_TYPE) _ e))) here)))
    where
      either : ((k == GND_TYPE) ≡ true) ⊎ (speaks_of k a ≡ true) → ((k == GND_TYPE) || list_any (speaks_of k) (looked_up lists n)) ≡ true
      either (inl g) = or_first (k == GND_TYPE) _ g
      either (inr h) = or_second (k == GND_TYPE) _ (in_any (speaks_of k) (looked_up lists n) i h)

  module _ (r s : Pair → Bool) (q : Pair) (names : are_names (length lists) q ≡ true) (grown : (p : Pair) → s p ≡ true → (same_pair p q ≡ true) ⊎ (r p ≡ true)) where
    -- the names of the pair use those of q, the first the first and the second the second
    use_both : (x y : ℕ) (a b : Rule) → is_name (length lists) x ≡ true → is_name (length lists) y ≡ true → In a (looked_up lists x) → In b (looked_up lists y) →
        (n m : ℕ) → same_pair (n, m) q ≡ true → speaks_of n a ≡ true → ((m == GND_TYPE) || speaks_of m b) ≡ true →
        (listed (slice_index_or (all_users lists) q.0 []) x && listed (slice_index_or (all_users lists) q.1 []) y) ≡ true
    use_both x y a b name_x name_y i j n m same e f =
        let first : n ≡ q.0 = nat_eq_same n q.0 (and_left _ _ same) in
        let second : m ≡ q.1 = nat_eq_same m q.1 (and_right (n == q.0) _ same) in
        and_both (listed (slice_index_or (all_users lists) q.0 []) x) _
        (used_by q.0 x a (and_left _ _ names) name_x i (or_second (q.0 == GND_TYPE) _ (subst (λ k. speaks_of k a ≡ true) first e)))
        (used_by q.1 y b (and_right (is_name (length lists) q.0) _ names) name_y j (subst (λ k. ((k == GND_TYPE) || speaks_of k b) ≡ true) second f))

    abbrev within : (Pair → Bool) → Pair → Bool
    within t p = are_names (length lists) p && not (t p)

    -- what was marked, or q
    back : (n m : ℕ) → (same_pair (n, m) q ≡ true → ⊥) → s (n, m) ≡ true → r (n, m) ≡ true
    back n m h e = either (grown (n, m) e)
      where
        either : (same_pair (n, m) q ≡ true) ⊎ (r (n, m) ≡ true) → r (n, m) ≡ true
        either (inl same) = absurd (h same)
        either (inr old) = old

    back_outside : (n m : ℕ) → (same_pair (n, m) q ≡ true → ⊥) → within r (n, m) ≡ true → within s (n, m) ≡ true
    back_outside n m h e = and_both (are_names (length lists) (n, m)) _ (and_left _ _ e) (not_false _ (not_not_true _ (λ f. clash _ (back n m h f) (not_true _ (and_right (are_names (length lists) (n, m)) _ e)))))

    module _ (p : Pair) (name_0 : is_name (length lists) p.0 ≡ true) (name_1 : is_name (length lists) p.1 ≡ true) where
      leads_back : touched Leads (all_users lists) q p ≡ false → due Leads lists s p ≡ true → due Leads lists r p ≡ true
      leads_back free e = either (or_parts_true (p.0 == p.1) _ e)
        where
          unit : (k : ℕ) → In (rule.Unit k) (looked_up lists p.0) → s (k, p.1) ≡ true → r (k, p.1) ≡ true
          unit k i f =
              back k p.1
              (λ same.
              let first : k ≡ q.0 = nat_eq_same k q.0 (and_left _ _ same) in
              let second : p.1 ≡ q.1 = nat_eq_same p.1 q.1 (and_right (k == q.0) _ same) in
              clash _ (and_both (listed (slice_index_or (all_users lists) q.0 []) p.0) _
              (used_by q.0 p.0 (rule.Unit k) (and_left _ _ names) name_0 i (or_second (q.0 == GND_TYPE) _ (subst (λ x. (x == k) ≡ true) first (nat_eq_itself k))))
              (or_first (p.1 == q.1) _ (subst (λ x. (p.1 == x) ≡ true) second (nat_eq_itself p.1)))) free)
              f

          by_rule : (x : Rule) → In x (looked_up lists p.0) → unit_leads s p.1 x ≡ true → unit_leads r p.1 x ≡ true
          by_rule (rule.Unit k) i f = unit k i f
          by_rule other i f = cc

          either : ((p.0 == p.1) ≡ true) ⊎ (list_any (unit_leads s p.1) (looked_up lists p.0) ≡ true) → due Leads lists r p ≡ true
          either (inl h) = or_first (p.0 == p.1) _ h
          either (inr h) = let x = any_in (unit_leads s p.1) (looked_up lists p.0) h in or_second (p.0 == p.1) _ (in_any (unit_leads r p.1) (looked_up lists p.0) x.1 (by_rule x.0 x.1 x.2))

      members_back : touched Members (all_users lists) q p ≡ false → due Members lists s p ≡ true → due Members lists r p ≡ true
      members_back free e =
          let one : p.0 ≡ p.1 = nat_eq_same p.0 p.1 (and_left _ _ e) in
          let x = any_in (leaf_has (λ n. s (n, n))) (looked_up lists p.0) (and_right (p.0 == p.1) _ e) in
          and_both (p.0 == p.1) _ (and_left _ _ e) (in_any (leaf_has (λ n. r (n, n))) (looked_up lists p.0) x.1 (by_leaf x.0 x.1 (subst (λ k. In x.0 (looked_up lists k)) one x.1) x.2))
        where
          each : (ns : List ℕ) → ((n : ℕ) → In n ns → s (n, n) ≡ true → r (n, n) ≡ true) → list_all (λ n. s (n, n)) ns ≡ true → list_all (λ n. r (n, n)) ns ≡ true
          each [] w f = refl
          each (n ∷ ns) w f = and_both (r (n, n)) _ (w n here (and_left _ _ f)) (each ns (λ m i. w m (later i)) (and_right (s (n, n)) _ f))

          by_leaf : (a : Rule) → In a (looked_up lists p.0) → In a (looked_up lists p.1) → leaf_has (λ n. s (n, n)) a ≡ true → leaf_has (λ n. r (n, n)) a ≡ true
          by_leaf (rule.Node f ns) i j h =
              each ns (λ n k. back n n (λ same. clash _ (use_both p.0 p.1 (rule.Node f ns) (rule.Node f ns) name_0 name_1 i j n n same (listed_in ns n k) (or_second (n == GND_TYPE) _ (listed_in ns n k))) free)) h
          by_leaf other i j h = refl

      outside_back : touched Outside (all_users lists) q p ≡ false → due Outside lists s p ≡ true → due Outside lists r p ≡ true
      outside_back free e =
          not_false _
          (not_not_true _
          (λ h. clash _ (all_by_in (λ a. list_any (leaf_below (within s) a) (looked_up lists p.1)) (looked_up lists p.0)
          (λ a i. let b = any_in (leaf_below (within r) a) (looked_up lists p.1) (all_in (λ a. list_any (leaf_below (within r) a) (looked_up lists p.1)) (looked_up lists p.0) h i) in
          in_any (leaf_below (within s) a) (looked_up lists p.1) b.1
          (below_stays (within r) (within s) a b.0 (λ n m x y. back_outside n m (λ same. clash _ (use_both p.0 p.1 a b.0 name_0 name_1 i b.1 n m same x y) free)) b.2))) (not_true _ e)))

      meets_back : touched Meets (all_users lists) q p ≡ false → due Meets lists s p ≡ true → due Meets lists r p ≡ true
      meets_back free e =
          let a = any_in (λ a. list_any (leaf_meets s a) (looked_up lists p.1)) (looked_up lists p.0) e in
          let b = any_in (leaf_meets s a.0) (looked_up lists p.1) a.2 in
          in_any (λ a. list_any (leaf_meets r a) (looked_up lists p.1)) (looked_up lists p.0) a.1
          (in_any (leaf_meets r a.0) (looked_up lists p.1) b.1
          (meets_stays s r a.0 b.0
          (λ n m x y. back n m (λ same. clash _ (or_second (listed (slice_index_or (all_users lists) q.1 []) p.0 && listed (slice_index_or (all_users lists) q.0 []) p.1) _ (use_both p.0 p.1 a.0 b.0 name_0 name_1 a.1 b.1 n m same x y)) free))
          (λ n m x y. back n m (λ same. clash _ (or_first (listed (slice_index_or (all_users lists) q.1 []) p.0 && listed (slice_index_or (all_users lists) q.0 []) p.1) _ (turned (listed (slice_index_or (all_users lists) q.0 []) p.1) (listed (slice_index_or (all_users lists) q.1 []) p.0) (use_both p.1 p.0 b.0 a.0 name_1 name_0 b.1 a.1 n m same x y))) free)) b.2))
        where
          turned : (b c : Bool) → (b && c) ≡ true → (c && b) ≡ true
          turned b c h = and_both c b (and_right b c h) (and_left b c h)

    -- what is new of a rule was touched
    due_back : (kind : Kind) (p : Pair) → are_names (length lists) p ≡ true → touched kind (all_users lists) q p ≡ false → due kind lists s p ≡ true → due kind lists r p ≡ true
    due_back Leads p n = leads_back p (and_left _ _ n) (and_right (is_name (length lists) p.0) _ n)
    due_back Members p n = members_back p (and_left _ _ n) (and_right (is_name (length lists) p.0) _ n)
    due_back Outside p n = outside_back p (and_left _ _ n) (and_right (is_name (length lists) p.0) _ n)
    due_back Meets p n = meets_back p (and_left _ _ n) (and_right (is_name (length lists) p.0) _ n)

    pub untouched : (kind : Kind) (p : Pair) → touched kind (all_users lists) q p ≡ false → marking kind lists s p ≡ true → marking kind lists r p ≡ true
    untouched kind p free e = and_both (are_names (length lists) p) _ (and_left _ _ e) (due_back kind p (and_left _ _ e) free (and_right (are_names (length lists) p) _ e))

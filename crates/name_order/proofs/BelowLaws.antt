-- Below is reflexive and transitive, what has no member is below all, and Meets is symmetric.
use Rattle.std.proofs.Common.{◌≡◌, ℕ, zero, suc, ◌<◌, Bool, true, ◌&&◌, List, [], ◌∷◌, length, take, refl, ap, sym, subst, arith}
use Rattle.std.proofs.lemmas.Bool.Decides.{nat_tests, Decides-int_eq}
use Rattle.std.specs.Prelude.{not, ◌==◌, slice_index_or}
use Rattle.std.specs.List.{list_any, list_all}
use Rattle.prog_data.specs.declared.grammars.Basic.{Basic}
use Rattle.prog_data.specs.declared.grammars.Basic.TheVariants as basic
use Rattle.prog_data.specs.declared.grammars.Rule.{Rule}
use Rattle.prog_data.specs.declared.grammars.Rule.TheVariants as rule
use Rattle.prog_data.specs.declared.grammars.Grammar.{Grammar}
use Rattle.prog_data.specs.BasicNames.{basic_grammar}
use Rattle.prog_data.specs.GrammarRange.{IsGrammar}
use Rattle.prog_data.specs.Membership.{leaves, is_leaf}
use Rattle.prog_data.proofs.Leaves.{In, here, later, any_in, in_any, leaf_of}
use Rattle.name_order.specs.Fixpoints.{ConsistentTest, ClosedTest, Within}
use Rattle.prog_data.specs.declared.basic_names.TheConstants.{GND_TYPE}
use Rattle.name_order.specs.Relations.{Pair, is_name, are_names, leaf_has, has_member, below, full_leaves, each_pair, basic_below, below_of_node, leaf_below, below_rule, basic_meets, leaf_meets, meets_rule, HasGnd, HasTerm, names_below}
use Rattle.name_order.specs.Laws.{BelowReflexive, BelowTransitive, MeetsSymmetric, EmptyBelowAll}
use Rattle.name_order.proofs.FixpointLaws.{and_left, and_right, and_both, clash, not_true, not_false, not_not_true}
use Rattle.name_order.proofs.MemberLaws.{int_passes, atom_passes}
use Rattle.name_order.proofs.RelationLaws.{all_in, all_mono, meets_mono, below_law, below_greatest, full_in, name_listed, nat_eq_same, nat_eq_itself, member_law, member_closed}

-- the first rules of a program's grammar
at_front : {A : Type 0} (xs ys : List A) (k i : ℕ) (d : A) → i < k → take k xs ≡ ys → slice_index_or xs i d ≡ slice_index_or ys i d
at_front xs ys zero i d lt e = absurd (omega (arith, lt))
at_front [] ys (suc k) i d lt e = ap (λ zs. slice_index_or zs i d) e
at_front (x ∷ xs) ys (suc k) zero d lt e = ap (λ zs. slice_index_or zs 0 d) e
at_front (x ∷ xs) [] (suc k) (suc i) d lt e = cc
at_front (x ∷ xs) (y ∷ ys) (suc k) (suc i) d lt e =
    let rest : take k xs ≡ ys = cc in
    at_front xs ys k i d (omega (arith, lt)) rest

pub basic_term : (g : Grammar) → IsGrammar g → HasTerm g
basic_term g h = at_front g.rules basic_grammar.rules 10 0 [] (omega arith) h.basic

pub basic_gnd : (g : Grammar) → IsGrammar g → HasGnd g
basic_gnd g h = at_front g.rules basic_grammar.rules 10 5 [] (omega arith) h.basic

-- a name has a leaf exactly where it has a member

member_name : (g : Grammar) (n : ℕ) → has_member g n ≡ true → is_name (length g.rules) n ≡ true
member_name g n e = and_left _ _ e

full_member : (g : Grammar) (n : ℕ) (r : Rule) → In r (full_leaves g n) → has_member g n ≡ true
full_member g n r i = let own = full_in g r n i in member_closed g n (in_any (leaf_has (has_member g)) (leaves g n) own.0 own.1)

-- below is reflexive

module _ (size : ℕ) where
  -- a name of the grammar and itself
  abbrev itself : Pair → Bool
  itself p = (p.0 == p.1) && is_name size p.0

  each_itself : (ns : List ℕ) → list_all (is_name size) ns ≡ true → each_pair (λ p. (p.0 == p.1) && is_name size p.0) ns ns ≡ true
  each_itself [] e = refl
  each_itself (n ∷ ns) e = and_both ((n == n) && is_name size n) (each_pair (λ p. (p.0 == p.1) && is_name size p.0) ns ns) (and_both (n == n) (is_name size n) (nat_eq_itself n) (and_left _ _ e)) (each_itself ns (and_right (is_name size n) _ e))

  basic_itself : (b : Basic) → basic_below b b ≡ true
  basic_itself basic.Term = refl
  basic_itself basic.Int = refl
  basic_itself basic.Nnegint = refl
  basic_itself basic.Atm = refl
  basic_itself basic.Gnd = refl
  basic_itself basic.Struct = refl

  leaf_itself : (r : Rule) → is_leaf r ≡ true → leaf_has (is_name size) r ≡ true → leaf_below (λ p. (p.0 == p.1) && is_name size p.0) r r ≡ true
  leaf_itself (rule.Basic b) l e = basic_itself b
  leaf_itself (rule.Int k) l e = (Decides-int_eq k k).1 refl
  leaf_itself (rule.Atom a) l e = nat_eq_itself a
  leaf_itself (rule.Node f ns) l e = and_both (f == f) _ (nat_eq_itself f) (each_itself ns e)
  leaf_itself (rule.Unit m) l e = cc

leaf_names : (g : Grammar) (r : Rule) → leaf_has (has_member g) r ≡ true → leaf_has (is_name (length g.rules)) r ≡ true
leaf_names g (rule.Node f ns) e = each ns e
  where
    each : (ns : List ℕ) → list_all (has_member g) ns ≡ true → list_all (is_name (length g.rules)) ns ≡ true
    each [] e = refl
    each (n ∷ ns) e = and_both (is_name (length g.rules) n) _ (member_name g n (and_left _ _ e)) (each ns (and_right (has_member g n) _ e))
leaf_names g other e = refl

all_by : (p : Rule → Bool) (xs : List Rule) → ((r : Rule) → In r xs → p r ≡ true) → list_all p xs ≡ true
all_by p [] h = refl
all_by p (x ∷ xs) h = and_both (p x) (list_all p xs) (h x here) (all_by p xs (λ r i. h r (later i)))

pub below_reflexive : (g : Grammar) → BelowReflexive g
below_reflexive g n lt = (itself (length g.rules), consistent, and_both (n == n) _ (nat_eq_itself n) (grind (arith, nat_tests)))
  where
    own : (n : ℕ) (r : Rule) → In r (full_leaves g n) → list_any (leaf_below (itself (length g.rules)) r) (full_leaves g n) ≡ true
    own n r i =
        let full = full_in g r n i in
        let way = leaf_of g r (length g.rules) n full.0 in
        in_any (leaf_below (itself (length g.rules)) r) (full_leaves g n) i (leaf_itself (length g.rules) r way.4 (leaf_names g r full.1))

    consistent : ConsistentTest (below_rule (length g.rules) (full_leaves g)) (itself (length g.rules))
    consistent p e =
        let same : p.0 ≡ p.1 = nat_eq_same p.0 p.1 (and_left _ _ e) in
        let name : is_name (length g.rules) p.0 ≡ true = and_right (p.0 == p.1) _ e in
        and_both (are_names (length g.rules) p) _ (and_both (is_name _ p.0) (is_name _ p.1) name (subst (λ k. is_name (length g.rules) k ≡ true) same name))
        (subst (λ k. list_all (λ a. list_any (leaf_below (itself (length g.rules)) a) (full_leaves g k)) (full_leaves g p.0) ≡ true) same
        (all_by (λ a. list_any (leaf_below (itself (length g.rules)) a) (full_leaves g p.0)) (full_leaves g p.0) (own p.0)))

-- what has no member is below all

pub empty_below : (g : Grammar) → EmptyBelowAll g
empty_below g n m l k none = (empties, consistent, and_both (are_names (length g.rules) (n, m)) (not (has_member g n)) (and_both (is_name _ n) (is_name _ m) (grind (arith, nat_tests)) (grind (arith, nat_tests))) (not_false (has_member g n) (not_not_true (has_member g n) (λ e. none ((member_law g n).0 e)))))
  where
    empties : Pair → Bool
    empties p = are_names (length g.rules) p && not (has_member g p.0)

    consistent : ConsistentTest (below_rule (length g.rules) (full_leaves g)) (λ p. are_names (length g.rules) p && not (has_member g p.0))
    consistent p e =
        and_both (are_names (length g.rules) p) _ (and_left _ _ e)
        (all_by (λ a. list_any (leaf_below (λ p. are_names (length g.rules) p && not (has_member g p.0)) a) (full_leaves g p.1)) (full_leaves g p.0)
        (λ r i. absurd (clash (has_member g p.0) (full_member g p.0 r i) (not_true (has_member g p.0) (and_right (are_names (length g.rules) p) _ e)))))

-- meets is symmetric

module _ (s : Pair → Bool) (symmetric : (n m : ℕ) → s (n, m) ≡ true → s (m, n) ≡ true) where
  each_turned : (ns ms : List ℕ) → each_pair s ns ms ≡ true → each_pair s ms ns ≡ true
  each_turned [] [] e = refl
  each_turned [] (m ∷ ms) e = cc
  each_turned (n ∷ ns) [] e = cc
  each_turned (n ∷ ns) (m ∷ ms) e = and_both (s (m, n)) (each_pair s ms ns) (symmetric n m (and_left _ _ e)) (each_turned ns ms (and_right (s (n, m)) _ e))

  basic_turned : (a b : Basic) → basic_meets a b ≡ true → basic_meets b a ≡ true
  basic_turned basic.Term basic.Term e = refl
  basic_turned basic.Term basic.Int e = refl
  basic_turned basic.Term basic.Nnegint e = refl
  basic_turned basic.Term basic.Atm e = refl
  basic_turned basic.Term basic.Gnd e = refl
  basic_turned basic.Term basic.Struct e = refl
  basic_turned basic.Gnd basic.Term e = refl
  basic_turned basic.Gnd basic.Int e = refl
  basic_turned basic.Gnd basic.Nnegint e = refl
  basic_turned basic.Gnd basic.Atm e = refl
  basic_turned basic.Gnd basic.Gnd e = refl
  basic_turned basic.Gnd basic.Struct e = refl
  basic_turned a basic.Term e = refl
  basic_turned a basic.Gnd e = refl
  basic_turned basic.Int basic.Int e = refl
  basic_turned basic.Int basic.Nnegint e = refl
  basic_turned basic.Nnegint basic.Int e = refl
  basic_turned basic.Nnegint basic.Nnegint e = refl
  basic_turned basic.Atm basic.Atm e = refl
  basic_turned basic.Struct basic.Struct e = refl
  basic_turned a b e = cc

  leaf_turned : (a b : Rule) → leaf_meets s a b ≡ true → leaf_meets s b a ≡ true
  leaf_turned (rule.Basic a) (rule.Basic b) e = basic_turned a b e
  leaf_turned (rule.Basic a) (rule.Int k) e = e
  leaf_turned (rule.Basic a) (rule.Atom c) e = e
  leaf_turned (rule.Basic a) (rule.Node f ns) e = e
  leaf_turned (rule.Int k) (rule.Basic b) e = e
  leaf_turned (rule.Int k) (rule.Int j) e = (Decides-int_eq j k).1 (sym ((Decides-int_eq k j).0 e))
  leaf_turned (rule.Atom c) (rule.Basic b) e = e
  leaf_turned (rule.Atom c) (rule.Atom d) e = subst (λ x. (d == x) ≡ true) (sym (nat_eq_same c d e)) (nat_eq_itself d)
  leaf_turned (rule.Node f ns) (rule.Basic b) e = e
  leaf_turned (rule.Node f ns) (rule.Node h ms) e = and_both (h == f) _ (subst (λ x. (h == x) ≡ true) (sym (nat_eq_same f h (and_left _ _ e))) (nat_eq_itself h)) (each_turned ns ms (and_right (f == h) _ e))
  leaf_turned a b e = cc

  rule_turned : (full : ℕ → List Rule) (n m : ℕ) → meets_rule full s (n, m) ≡ true → meets_rule full s (m, n) ≡ true
  rule_turned full n m e =
      let a = any_in (λ a. list_any (leaf_meets s a) (full m)) (full n) e in
      let b = any_in (leaf_meets s a.0) (full m) a.2 in
      in_any (λ b. list_any (leaf_meets s b) (full n)) (full m) b.1 (in_any (leaf_meets s b.0) (full n) a.1 (leaf_turned a.0 b.0 b.2))

pub meets_symmetric : (g : Grammar) → MeetsSymmetric g
meets_symmetric g n m h r closed = and_right (r (n, m)) _ (h (λ p. r (p.0, p.1) && r (p.1, p.0)) both)
  where
    swapped : (n m : ℕ) → (r (n, m) && r (m, n)) ≡ true → (r (m, n) && r (n, m)) ≡ true
    swapped n m e = and_both (r (m, n)) (r (n, m)) (and_right (r (n, m)) _ e) (and_left _ _ e)

    both : ClosedTest (meets_rule (full_leaves g)) (λ p. r (p.0, p.1) && r (p.1, p.0))
    both p e =
        and_both (r (p.0, p.1)) (r (p.1, p.0))
        (closed (p.0, p.1) (meets_mono (full_leaves g) (λ p. r (p.0, p.1) && r (p.1, p.0)) r (λ q f. and_left _ _ f) (p.0, p.1) e))
        (closed (p.1, p.0) (meets_mono (full_leaves g) (λ p. r (p.0, p.1) && r (p.1, p.0)) r (λ q f. and_left _ _ f) (p.1, p.0) (rule_turned (λ p. r (p.0, p.1) && r (p.1, p.0)) swapped (full_leaves g) p.0 p.1 e)))

-- below is transitive

module _ (r s : Pair → Bool) (wide : Within r s) (chain : (x y z : ℕ) → r (x, y) ≡ true → r (y, z) ≡ true → s (x, z) ≡ true) where
  basic_chain : (a b c : Basic) → basic_below a b ≡ true → basic_below b c ≡ true → basic_below a c ≡ true
  basic_chain a b basic.Term e f = refl
  basic_chain basic.Term basic.Term c e f = f
  basic_chain basic.Int basic.Int c e f = f
  basic_chain basic.Int basic.Gnd basic.Gnd e f = refl
  basic_chain basic.Nnegint basic.Nnegint c e f = f
  basic_chain basic.Nnegint basic.Int basic.Int e f = refl
  basic_chain basic.Nnegint basic.Int basic.Gnd e f = refl
  basic_chain basic.Nnegint basic.Gnd basic.Gnd e f = refl
  basic_chain basic.Atm basic.Atm c e f = f
  basic_chain basic.Atm basic.Gnd basic.Gnd e f = refl
  basic_chain basic.Gnd basic.Gnd c e f = f
  basic_chain basic.Struct basic.Struct c e f = f
  basic_chain a b c e f = cc

  all_chain : (ns ms : List ℕ) → each_pair r ns ms ≡ true → list_all (λ m. r (m, GND_TYPE)) ms ≡ true → list_all (λ n. s (n, GND_TYPE)) ns ≡ true
  all_chain [] [] e f = refl
  all_chain [] (m ∷ ms) e f = cc
  all_chain (n ∷ ns) [] e f = cc
  all_chain (n ∷ ns) (m ∷ ms) e f = and_both (s (n, GND_TYPE)) _ (chain n m GND_TYPE (and_left _ _ e) (and_left _ _ f)) (all_chain ns ms (and_right (r (n, m)) _ e) (and_right (r (m, GND_TYPE)) _ f))

  each_chain : (ns ms ks : List ℕ) → each_pair r ns ms ≡ true → each_pair r ms ks ≡ true → each_pair s ns ks ≡ true
  each_chain [] [] [] e f = refl
  each_chain [] [] (k ∷ ks) e f = cc
  each_chain [] (m ∷ ms) ks e f = cc
  each_chain (n ∷ ns) [] ks e f = cc
  each_chain (n ∷ ns) (m ∷ ms) [] e f = cc
  each_chain (n ∷ ns) (m ∷ ms) (k ∷ ks) e f = and_both (s (n, k)) (each_pair s ns ks) (chain n m k (and_left _ _ e) (and_left _ _ f)) (each_chain ns ms ks (and_right (r (n, m)) _ e) (and_right (r (m, k)) _ f))

  node_chain : (f : ℕ) (ns : List ℕ) (b c : Rule) → below_of_node r f ns b ≡ true → leaf_below r b c ≡ true → below_of_node s f ns c ≡ true
  node_chain f ns (rule.Basic a) (rule.Basic b) e h = node_basic a b e h
    where
      node_basic : (a b : Basic) → below_of_node r f ns (rule.Basic a) ≡ true → basic_below a b ≡ true → below_of_node s f ns (rule.Basic b) ≡ true
      node_basic a basic.Term e h = refl
      node_basic basic.Struct basic.Struct e h = refl
      node_basic basic.Gnd basic.Gnd e h = all_mono (λ n. r (n, GND_TYPE)) (λ n. s (n, GND_TYPE)) (λ n. wide (n, GND_TYPE)) ns e
      node_basic basic.Term b e h = cc
      node_basic basic.Int b e h = cc
      node_basic basic.Nnegint b e h = cc
      node_basic basic.Atm b e h = cc
      node_basic a b e h = cc
  node_chain f ns (rule.Basic a) c e h = cc
  node_chain f ns (rule.Node k ms) (rule.Basic basic.Term) e h = refl
  node_chain f ns (rule.Node k ms) (rule.Basic basic.Struct) e h = refl
  node_chain f ns (rule.Node k ms) (rule.Basic basic.Gnd) e h = all_chain ns ms (and_right (f == k) _ e) h
  node_chain f ns (rule.Node k ms) (rule.Node j ks) e h =
      and_both (f == j) _ (subst (λ x. (f == x) ≡ true) (nat_eq_same k j (and_left _ _ h)) (and_left _ _ e)) (each_chain ns ms ks (and_right (f == k) _ e) (and_right (k == j) _ h))
  node_chain f ns (rule.Node k ms) c e h = cc
  node_chain f ns b c e h = cc

  leaf_chain : (a b c : Rule) → leaf_below r a b ≡ true → leaf_below r b c ≡ true → leaf_below s a c ≡ true
  leaf_chain (rule.Basic a) (rule.Basic b) (rule.Basic c) e h = basic_chain a b c e h
  leaf_chain (rule.Int k) b c e h = int_passes r k b c h e
  leaf_chain (rule.Atom x) b c e h = atom_passes r x b c h e
  leaf_chain (rule.Node f ns) b c e h = node_chain f ns b c e h
  leaf_chain (rule.Unit m) b c e h = cc
  leaf_chain a b c e h = cc

  leaves_chain : (xs ys zs : List Rule) → list_all (λ a. list_any (leaf_below r a) ys) xs ≡ true → list_all (λ b. list_any (leaf_below r b) zs) ys ≡ true → list_all (λ a. list_any (leaf_below s a) zs) xs ≡ true
  leaves_chain xs ys zs e h = all_by (λ a. list_any (leaf_below s a) zs) xs at
    where
      at : (a : Rule) → In a xs → list_any (leaf_below s a) zs ≡ true
      at a i =
          let b = any_in (leaf_below r a) ys (all_in (λ a. list_any (leaf_below r a) ys) xs e i) in
          let c = any_in (leaf_below r b.0) zs (all_in (λ b. list_any (leaf_below r b) zs) ys h b.1) in
          in_any (leaf_below s a) zs c.1 (leaf_chain a b.0 c.0 b.2 c.2)

module _ (g : Grammar) where
  below_consistent : ConsistentTest (below_rule (length g.rules) (full_leaves g)) (λ p. below g p.0 p.1)
  below_consistent = (below_greatest g).consistent

  -- by a name between
  abbrev between : Pair → Bool
  between p = list_any (λ k. below g p.0 k && below g k p.1) (names_below (length g.rules))

  below_names : (n m : ℕ) → below g n m ≡ true → are_names (length g.rules) (n, m) ≡ true
  below_names n m e = and_left _ _ (below_consistent (n, m) e)

  through : (n m k : ℕ) → below g n m ≡ true → below g m k ≡ true → list_any (λ x. below g n x && below g x k) (names_below (length g.rules)) ≡ true
  through n m k e f =
      in_any (λ x. below g n x && below g x k) (names_below (length g.rules)) ((name_listed (length g.rules) m).0 (and_right (is_name (length g.rules) n) _ (below_names n m e)))
      (and_both (below g n m) (below g m k) e f)

  itself_below : (n m : ℕ) → below g n m ≡ true → below g m m ≡ true
  itself_below n m e =
      let name : is_name (length g.rules) m ≡ true = and_right (is_name (length g.rules) n) _ (below_names n m e) in
      (below_law g m m).1 (below_reflexive g m (grind (arith, nat_tests)))

  between_consistent : ConsistentTest (below_rule (length g.rules) (full_leaves g)) between
  between_consistent p e =
      let m = any_in (λ k. below g p.0 k && below g k p.1) (names_below (length g.rules)) e in
      let low : below g p.0 m.0 ≡ true = and_left _ _ m.2 in
      let high : below g m.0 p.1 ≡ true = and_right (below g p.0 m.0) _ m.2 in
      and_both (are_names (length g.rules) p) _
      (and_both (is_name (length g.rules) p.0) (is_name (length g.rules) p.1) (and_left _ _ (below_names p.0 m.0 low)) (and_right (is_name (length g.rules) m.0) _ (below_names m.0 p.1 high)))
      (leaves_chain (λ q. below g q.0 q.1) between (λ q h. through q.0 q.1 q.1 h (itself_below q.0 q.1 h)) through (full_leaves g p.0) (full_leaves g m.0) (full_leaves g p.1)
      (and_right (are_names (length g.rules) (p.0, m.0)) _ (below_consistent (p.0, m.0) low)) (and_right (are_names (length g.rules) (m.0, p.1)) _ (below_consistent (m.0, p.1) high)))

pub below_transitive : (g : Grammar) → BelowTransitive g
below_transitive g n m k b c = (between g, between_consistent g, through g n m k ((below_law g n m).1 b) ((below_law g m k).1 c))

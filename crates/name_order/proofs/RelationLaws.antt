-- The rules of the relations are monotone, and what is computed is the relation.
use Rattle.std.proofs.Common.{◌≡◌, ◌↔◌, ℕ, zero, suc, ◌<◌, ◌+◌, ◌≤◌, Bool, true, false, ◌&&◌, List, [], ◌∷◌, length, map, refl, ap, subst, arith}
use Rattle.std.proofs.lemmas.Bool.Decides.{nat_tests}
use Rattle.std.specs.Prelude.{nat_eq, ◌==◌, slice_index_or}
use Rattle.std.specs.List.{list_any, list_all}
use Rattle.prog_data.specs.declared.grammars.Basic.{Basic}
use Rattle.prog_data.specs.declared.grammars.Basic.TheVariants as basic
use Rattle.prog_data.specs.declared.grammars.Rule.{Rule}
use Rattle.prog_data.specs.declared.grammars.Rule.TheVariants as rule
use Rattle.prog_data.specs.declared.grammars.Grammar.{Grammar}
use Rattle.prog_data.specs.Membership.{rules_of, leaves}
use Rattle.prog_data.proofs.Leaves.{In, here, later, any_in, in_any, in_filter, filter_in, in_flat, Leads, leaf_of}
use Rattle.prog_data.proofs.Leaves as way
use Rattle.name_order.specs.Fixpoints.{ClosedTest, Within, Monotone, IsLeastTest, IsGreatestTest}
use Rattle.prog_data.specs.declared.basic_names.TheConstants.{GND_TYPE}
use Rattle.name_order.specs.Relations.{Pair, same_pair, is_name, are_names, leaf_has, member_rule, HasMember, names_from, names_below, has_member, full_leaves, each_pair, below_of_node, leaf_below, below_rule, Below, all_pairs, below, node_meets_basic, meets_of_basic, meets_of_node, leaf_meets, meets_rule, Meets, meets}
use Rattle.name_order.proofs.FixpointLaws.{and_left, and_right, and_both, greatest_law, least_law, least_closed, least_within}

pub all_mono : {A : Type 0} (p q : A → Bool) → Within p q → (xs : List A) → list_all p xs ≡ true → list_all q xs ≡ true
all_mono p q w [] e = refl
all_mono p q w (x ∷ xs) e = and_both (q x) (list_all q xs) (w x (and_left _ _ e)) (all_mono p q w xs (and_right (p x) _ e))

pub any_mono : {A : Type 0} (p q : A → Bool) → Within p q → (xs : List A) → list_any p xs ≡ true → list_any q xs ≡ true
any_mono p q w xs e = let m = any_in p xs e in in_any q xs m.1 (w m.0 m.2)

pub all_in : {A : Type 0} {x : A} (p : A → Bool) (xs : List A) → list_all p xs ≡ true → In x xs → p x ≡ true
all_in p [] e i = elim i [ ]
all_in p (x ∷ xs) e here = and_left _ _ e
all_in p (y ∷ xs) e (later i) = all_in p xs (and_right (p y) _ e) i

pub in_map : {A B : Type 0} {x : A} (f : A → B) (xs : List A) → In x xs → In (f x) (map f xs)
in_map f [] i = elim i [ ]
in_map f (x ∷ xs) here = here
in_map f (y ∷ xs) (later i) = later (in_map f xs i)

-- names

in_names_from : (n first k : ℕ) → first ≤ n → n < first + k → In n (names_from first k)
in_names_from n first zero le lt = absurd (omega (arith, le, lt))
in_names_from n first (suc k) le lt = either (nat_eq n first) refl (λ h. in_names_from n (first + 1) k h (omega (arith, lt)))
  where
    either : (b : Bool) → nat_eq n first ≡ b → (first + 1 ≤ n → In n (names_from (first + 1) k)) → In n (first ∷ names_from (first + 1) k)
    either true e rest = subst (λ m. In n (m ∷ names_from (first + 1) k)) (grind (arith, nat_tests)) here
    either false e rest = later (rest (grind (arith, nat_tests)))

names_from_in : (n first k : ℕ) → In n (names_from first k) → n < first + k
names_from_in n first zero i = elim i [ ]
names_from_in n first (suc k) i = either n i (names_from_in n (first + 1) k)
  where
    either : (m : ℕ) → In m (first ∷ names_from (first + 1) k) → (In m (names_from (first + 1) k) → m < first + 1 + k) → m < first + suc k
    either m here rest = omega arith
    either m (later i) rest = let lt = rest i in omega (arith, lt)

pub name_listed : (size n : ℕ) → (is_name size n ≡ true) ↔ In n (names_below size)
name_listed size n = ((λ e. in_names_from n 0 size (omega arith) (grind (arith, nat_tests))), (λ i. let lt = names_from_in n 0 size i in grind (arith, nat_tests)))

pub pair_listed : (size : ℕ) (p : Pair) → (are_names size p ≡ true) ↔ In p (all_pairs size)
pair_listed size p = (
  (λ e. in_flat (λ n. map (λ m. (n, m)) (names_below size)) (names_below size) ((name_listed size p.0).0 (and_left _ _ e)) (in_map (λ m. (p.0, m)) (names_below size) ((name_listed size p.1).0 (and_right (is_name size p.0) _ e)))),
  (λ i. let o = way.flat_in (λ n. map (λ m. (n, m)) (names_below size)) (names_below size) i in row p o.0 (names_below size) o.1 o.2 (λ m h. (name_listed size m).1 h)),
)
  where
    row : (p : Pair) (n : ℕ) (ms : List ℕ) → In n (names_below size) → In p (map (λ m. (n, m)) ms) → ((m : ℕ) → In m ms → is_name size m ≡ true) → are_names size p ≡ true
    row p n [] i j h = elim j [ ]
    row p n (m ∷ ms) i here h = and_both (is_name size n) (is_name size m) ((name_listed size n).1 i) (h m here)
    row p n (m ∷ ms) i (later j) h = row p n ms i j (λ k l. h k (later l))

pub nat_eq_same : (a b : ℕ) → nat_eq a b ≡ true → a ≡ b
nat_eq_same a b e = grind (arith, nat_tests)

pub nat_eq_itself : (a : ℕ) → nat_eq a a ≡ true
nat_eq_itself a = grind (arith, nat_tests)

pub pair_same : (a b : Pair) → same_pair a b ≡ true → a ≡ b
pair_same a b e = λ i. (nat_eq_same a.0 b.0 (and_left _ _ e) i, nat_eq_same a.1 b.1 (and_right (a.0 == b.0) _ e) i)

pub pair_itself : (a : Pair) → same_pair a a ≡ true
pair_itself a = and_both (a.0 == a.0) (a.1 == a.1) (nat_eq_itself a.0) (nat_eq_itself a.1)

-- what has a leaf is a name
pub rules_of_name : (rs : List (List Rule)) (r : Rule) (n : ℕ) → In r (slice_index_or rs n []) → n < length rs
rules_of_name [] r n i = elim i [ ]
rules_of_name (x ∷ rs) r zero i = omega arith
rules_of_name (x ∷ rs) r (suc n) i = let le = rules_of_name rs r n i in omega (arith, le)

leaf_name : (g : Grammar) (r : Rule) (n o : ℕ) (xs : List ℕ) → Leads g n o xs → In r (rules_of g o) → n < length g.rules
leaf_name g r n o xs way.none i = rules_of_name g.rules r n i
leaf_name g r n o xs (way.more {m = m} u l) i = rules_of_name g.rules (rule.Unit m) n u

pub named : (g : Grammar) (r : Rule) (n : ℕ) → In r (leaves g n) → is_name (length g.rules) n ≡ true
named g r n i = let l = leaf_of g r (length g.rules) n i in let lt = leaf_name g r n l.0 l.1 l.2 l.3 in grind (arith, nat_tests)

pub full_in : (g : Grammar) (r : Rule) (n : ℕ) → In r (full_leaves g n) → In r (leaves g n) × (leaf_has (has_member g) r ≡ true)
full_in g r n i = filter_in (leaf_has (has_member g)) (leaves g n) i

pub in_full : (g : Grammar) (r : Rule) (n : ℕ) → In r (leaves g n) → leaf_has (has_member g) r ≡ true → In r (full_leaves g n)
in_full g r n i e = in_filter (leaf_has (has_member g)) (leaves g n) e i

-- monotony

pub leaf_has_mono : (r s : ℕ → Bool) → Within r s → Within (leaf_has r) (leaf_has s)
leaf_has_mono r s w (rule.Node f ns) e = all_mono r s w ns e
leaf_has_mono r s w other e = refl

pub member_mono : (g : Grammar) → Monotone (member_rule g)
member_mono g r s w n e = any_mono (leaf_has r) (leaf_has s) (leaf_has_mono r s w) (leaves g n) e

pub each_mono : (r s : Pair → Bool) → Within r s → (ns ms : List ℕ) → each_pair r ns ms ≡ true → each_pair s ns ms ≡ true
each_mono r s w [] [] e = refl
each_mono r s w [] (m ∷ ms) e = cc
each_mono r s w (n ∷ ns) [] e = cc
each_mono r s w (n ∷ ns) (m ∷ ms) e = and_both (s (n, m)) (each_pair s ns ms) (w (n, m) (and_left _ _ e)) (each_mono r s w ns ms (and_right (r (n, m)) _ e))

module _ (r s : Pair → Bool) (w : Within r s) where
  below_node_mono : (f : ℕ) (ns : List ℕ) (b : Rule) → below_of_node r f ns b ≡ true → below_of_node s f ns b ≡ true
  below_node_mono f ns (rule.Basic basic.Term) e = refl
  below_node_mono f ns (rule.Basic basic.Struct) e = refl
  below_node_mono f ns (rule.Basic basic.Gnd) e = all_mono (λ n. r (n, GND_TYPE)) (λ n. s (n, GND_TYPE)) (λ n. w (n, GND_TYPE)) ns e
  below_node_mono f ns (rule.Node h ms) e = and_both (f == h) (each_pair s ns ms) (and_left _ _ e) (each_mono r s w ns ms (and_right (f == h) _ e))
  below_node_mono f ns other e = cc

  pub leaf_below_mono : (a b : Rule) → leaf_below r a b ≡ true → leaf_below s a b ≡ true
  leaf_below_mono (rule.Basic a) b e = e
  leaf_below_mono (rule.Int k) b e = e
  leaf_below_mono (rule.Atom a) b e = e
  leaf_below_mono (rule.Node f ns) b e = below_node_mono f ns b e
  leaf_below_mono (rule.Unit m) b e = cc

  node_basic_mono : (ns : List ℕ) (b : Basic) → node_meets_basic r ns b ≡ true → node_meets_basic s ns b ≡ true
  node_basic_mono ns basic.Term e = refl
  node_basic_mono ns basic.Struct e = refl
  node_basic_mono ns basic.Gnd e = all_mono (λ n. r (n, GND_TYPE)) (λ n. s (n, GND_TYPE)) (λ n. w (n, GND_TYPE)) ns e
  node_basic_mono ns other e = cc

  meets_basic_mono : (a : Basic) (b : Rule) → meets_of_basic r a b ≡ true → meets_of_basic s a b ≡ true
  meets_basic_mono a (rule.Node f ns) e = node_basic_mono ns a e
  meets_basic_mono a (rule.Basic b) e = e
  meets_basic_mono a (rule.Int k) e = e
  meets_basic_mono a (rule.Atom c) e = e
  meets_basic_mono a (rule.Unit m) e = cc

  meets_node_mono : (f : ℕ) (ns : List ℕ) (b : Rule) → meets_of_node r f ns b ≡ true → meets_of_node s f ns b ≡ true
  meets_node_mono f ns (rule.Basic b) e = node_basic_mono ns b e
  meets_node_mono f ns (rule.Node h ms) e = and_both (f == h) (each_pair s ns ms) (and_left _ _ e) (each_mono r s w ns ms (and_right (f == h) _ e))
  meets_node_mono f ns other e = cc

  pub leaf_meets_mono : (a b : Rule) → leaf_meets r a b ≡ true → leaf_meets s a b ≡ true
  leaf_meets_mono (rule.Basic a) b e = meets_basic_mono a b e
  leaf_meets_mono (rule.Int k) b e = e
  leaf_meets_mono (rule.Atom a) b e = e
  leaf_meets_mono (rule.Node f ns) b e = meets_node_mono f ns b e
  leaf_meets_mono (rule.Unit m) b e = cc

pub below_mono : (size : ℕ) (full : ℕ → List Rule) → Monotone (below_rule size full)
below_mono size full r s w p e =
    and_both (are_names size p) _ (and_left _ _ e)
    (all_mono (λ a. list_any (leaf_below r a) (full p.1)) (λ a. list_any (leaf_below s a) (full p.1)) (λ a. any_mono (leaf_below r a) (leaf_below s a) (leaf_below_mono r s w a) (full p.1)) (full p.0) (and_right (are_names size p) _ e))

pub meets_mono : (full : ℕ → List Rule) → Monotone (meets_rule full)
meets_mono full r s w p e =
    any_mono (λ a. list_any (leaf_meets r a) (full p.1)) (λ a. list_any (leaf_meets s a) (full p.1)) (λ a. any_mono (leaf_meets r a) (leaf_meets s a) (leaf_meets_mono r s w a) (full p.1)) (full p.0) e

-- what is computed is the relation

module _ (g : Grammar) where
  pub member_named : (r : ℕ → Bool) (n : ℕ) → member_rule g r n ≡ true → is_name (length g.rules) n ≡ true
  member_named r n e = let m = any_in (leaf_has r) (leaves g n) e in named g m.0 n m.1

  pub member_law : (n : ℕ) → (has_member g n ≡ true) ↔ HasMember g n
  member_law = least_law nat_eq nat_eq_same nat_eq_itself (member_rule g) (member_mono g) (is_name (length g.rules)) (names_below (length g.rules)) (name_listed (length g.rules)) member_named

  pub member_closed : ClosedTest (member_rule g) (has_member g)
  member_closed = least_closed nat_eq nat_eq_same nat_eq_itself (member_rule g) (member_mono g) (is_name (length g.rules)) (names_below (length g.rules)) (name_listed (length g.rules)) member_named

  pub member_least : IsLeastTest (member_rule g) (has_member g)
  member_least = record {
    closed = member_closed;
    least = least_within nat_eq nat_eq_same nat_eq_itself (member_rule g) (member_mono g) (is_name (length g.rules)) (names_below (length g.rules)) (name_listed (length g.rules)) member_named;
  }

  pub below_law : (n m : ℕ) → (below g n m ≡ true) ↔ Below g n m
  below_law n m = greatest_law same_pair pair_same pair_itself (below_rule (length g.rules) (full_leaves g)) (below_mono (length g.rules) (full_leaves g)) (all_pairs (length g.rules))
      (λ r cons p h. (pair_listed (length g.rules) p).0 (and_left _ _ (cons p h))) (n, m)

  pub below_greatest : IsGreatestTest (below_rule (length g.rules) (full_leaves g)) (λ p. below g p.0 p.1)
  below_greatest = record {
    consistent = λ p e.
        let b = (below_law p.0 p.1).0 e in
        below_mono (length g.rules) (full_leaves g) b.0 (λ q. below g q.0 q.1) (λ q h. (below_law q.0 q.1).1 (b.0, b.1, h)) p (b.1 p b.2);
    greatest = λ s cons p e. (below_law p.0 p.1).1 (s, cons, e);
  }

  pub meets_named : (r : Pair → Bool) (p : Pair) → meets_rule (full_leaves g) r p ≡ true → are_names (length g.rules) p ≡ true
  meets_named r p e =
      let a = any_in (λ a. list_any (leaf_meets r a) (full_leaves g p.1)) (full_leaves g p.0) e in
      let b = any_in (leaf_meets r a.0) (full_leaves g p.1) a.2 in
      and_both (is_name _ p.0) (is_name _ p.1) (named g a.0 p.0 (full_in g a.0 p.0 a.1).0) (named g b.0 p.1 (full_in g b.0 p.1 b.1).0)

  pub meets_law : (n m : ℕ) → (meets g n m ≡ true) ↔ Meets g n m
  meets_law n m = least_law same_pair pair_same pair_itself (meets_rule (full_leaves g)) (meets_mono (full_leaves g)) (are_names (length g.rules)) (all_pairs (length g.rules)) (pair_listed (length g.rules)) meets_named (n, m)

  pub meets_least : IsLeastTest (meets_rule (full_leaves g)) (λ p. meets g p.0 p.1)
  meets_least = record {
    closed = λ p. least_closed same_pair pair_same pair_itself (meets_rule (full_leaves g)) (meets_mono (full_leaves g)) (are_names (length g.rules)) (all_pairs (length g.rules)) (pair_listed (length g.rules)) meets_named (p.0, p.1);
    least = λ s closed p e. least_within same_pair pair_same pair_itself (meets_rule (full_leaves g)) (meets_mono (full_leaves g)) (are_names (length g.rules)) (all_pairs (length g.rules)) (pair_listed (length g.rules)) meets_named s closed (p.0, p.1) e;
  }

-- lists of different lengths are not related
pub unequal_pairs : (r : Pair → Bool) (ns ms : List ℕ) → (length ns ≡ length ms → ⊥) → each_pair r ns ms ≡ false
unequal_pairs r [] [] h = absurd (h refl)
unequal_pairs r [] (m ∷ ms) h = refl
unequal_pairs r (n ∷ ns) [] h = refl
unequal_pairs r (n ∷ ns) (m ∷ ms) h = either (r (n, m)) (unequal_pairs r ns ms (λ e. h (ap suc e)))
  where
    either : (b : Bool) → each_pair r ns ms ≡ false → (b && each_pair r ns ms) ≡ false
    either true e = e
    either false e = refl

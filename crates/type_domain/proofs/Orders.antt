-- Names, their leaves and what they are below, in the order that values are computed with.
use Rattle.std.proofs.Common.{◌≡◌, ◌↔◌, ℕ, zero, suc, ◌<◌, ◌≤◌, Bool, true, ◌&&◌, List, [], ◌∷◌, length, take, refl, ap, sym, ◌∙◌, subst, arith}
use Rattle.std.proofs.lemmas.Bool.{and_from}
use Rattle.std.proofs.lemmas.Bool.Decides.{nat_tests}
use Rattle.std.specs.Prelude.{◌==◌}
use Rattle.std.specs.Cmp.{both_ways}
use Rattle.std.specs.List.{list_any}
use Rattle.prog_data.specs.declared.grammars.Basic.TheVariants as basic
use Rattle.prog_data.specs.declared.grammars.Rule.{Rule}
use Rattle.prog_data.specs.declared.grammars.Rule.TheVariants as rule
use Rattle.prog_data.specs.declared.grammars.Grammar.{Grammar}
use Rattle.prog_data.specs.GrammarRange.{IsGrammar}
use Rattle.prog_data.specs.Membership.{leaves, is_leaf}
use Rattle.prog_data.proofs.Leaves.{In, here, any_in, in_any, in_filter, filter_in, leaf_of}
use Rattle.name_order.specs.Fixpoints.{ConsistentTest, ClosedTest, Within}
use Rattle.name_order.specs.Relations.{Pair, is_name, are_names, leaf_has, leaf_below, below_rule, member_rule, HasMember, has_member, full_leaves, Order, IsOrder}
use Rattle.type_domain.specs.Values.{is_inhabited}
use Rattle.type_domain.proofs.Lists.{and_left, and_right, all_mono, all_in, all_given}

-- leaves with members

pub full_in : (g : Grammar) (r : Rule) (n : ℕ) → In r (full_leaves g n) → In r (leaves g n) × (leaf_has (has_member g) r ≡ true)
full_in g r n i = filter_in (leaf_has (has_member g)) (leaves g n) i

pub in_full : (g : Grammar) (r : Rule) (n : ℕ) → In r (leaves g n) → leaf_has (has_member g) r ≡ true → In r (full_leaves g n)
in_full g r n i e = in_filter (leaf_has (has_member g)) (leaves g n) e i

pub in_inhabited : (r : Rule) (rs : List Rule) → In r rs → is_inhabited rs ≡ true
in_inhabited r [] i = elim i [ ]
in_inhabited r (x ∷ xs) i = refl

inhabited_in : (rs : List Rule) → is_inhabited rs ≡ true → (r : Rule) × In r rs
inhabited_in [] e = cc
inhabited_in (r ∷ rs) e = (r, here)

leaf_within : (p q : ℕ → Bool) → Within p q → Within (leaf_has p) (leaf_has q)
leaf_within p q w (rule.Node f ns) e = all_mono p q w ns e
leaf_within p q w other e = refl

-- a name has a member exactly where it has a leaf with members
module _ (g : Grammar) (member : (n : ℕ) → (has_member g n ≡ true) ↔ HasMember g n) where
  full_member : (n : ℕ) → is_inhabited (full_leaves g n) ≡ true → has_member g n ≡ true
  full_member n e =
      let r = inhabited_in (full_leaves g n) e in
      let full = full_in g r.0 n r.1 in
      (member n).1 (λ s closed. closed n (in_any (leaf_has s) (leaves g n) full.0 (leaf_within (has_member g) s (λ m h. (member m).0 h s closed) r.0 full.1)))

  member_full : (n : ℕ) → has_member g n ≡ true → is_inhabited (full_leaves g n) ≡ true
  member_full n e = (member n).0 e (λ n. is_inhabited (full_leaves g n)) closed
    where
      closed : ClosedTest (member_rule g) (λ n. is_inhabited (full_leaves g n))
      closed m f =
          let r = any_in (leaf_has (λ n. is_inhabited (full_leaves g n))) (leaves g m) f in
          in_inhabited r.0 (full_leaves g m) (in_full g r.0 m r.1 (leaf_within (λ n. is_inhabited (full_leaves g n)) (has_member g) full_member r.0 r.2))

  pub member_is : (o : Order) → IsOrder g o → (n : ℕ) → has_member g n ≡ is_inhabited (o.leaves n)
  member_is o is n = both_ways _ _ (member_full n) (full_member n) ∙ ap (λ f. is_inhabited (f n)) (sym is.leaves)

module _ (g : Grammar) (o : Order) (is : IsOrder g o) where
  pub in_leaves : (r : Rule) (n : ℕ) → In r (o.leaves n) → In r (full_leaves g n)
  in_leaves r n i = subst (λ f. In r (f n)) is.leaves i

  pub leaves_in : (r : Rule) (n : ℕ) → In r (full_leaves g n) → In r (o.leaves n)
  leaves_in r n i = subst (λ f. In r (f n)) (sym is.leaves) i

  -- only names are below names
  pub below_names : (n m : ℕ) → o.below n m ≡ true → m < length g.rules
  below_names n m e =
      let by = (is.below n m).0 e in
      let named : is_name (length g.rules) m ≡ true = and_right (is_name (length g.rules) n) (is_name (length g.rules) m) (and_left (are_names (length g.rules) (n, m)) _ (by.1 (n, m) by.2)) in
      grind (arith, nat_tests)

  -- each leaf of a name below another is below a leaf of that, by a test of pairs of which the first is below the second
  pub below_leaf : (n m : ℕ) (a : Rule) → o.below n m ≡ true → In a (o.leaves n) → (r : Pair → Bool) × ((x y : ℕ) → r (x, y) ≡ true → o.below x y ≡ true) × (b : Rule) × In b (o.leaves m) × (leaf_below r a b ≡ true)
  below_leaf n m a e i =
      let by = (is.below n m).0 e in
      let b = any_in (leaf_below by.0 a) (full_leaves g m) (all_in (λ a. list_any (leaf_below by.0 a) (full_leaves g m)) (full_leaves g n) (and_right (are_names (length g.rules) (n, m)) _ (by.1 (n, m) by.2)) (in_leaves a n i)) in
      (by.0, (λ x y h. (is.below x y).1 (by.0, by.1, h)), b.0, leaves_in b.0 m b.1, b.2)

  -- each name is below term

  module _ (term_leaf : In (rule.Basic basic.Term) (o.leaves 0)) where
    abbrev to_term : Pair → Bool
    to_term p = is_name (length g.rules) p.0 && (p.1 == 0)

    below_top : (r : Pair → Bool) (a : Rule) → is_leaf a ≡ true → leaf_below r a (rule.Basic basic.Term) ≡ true
    below_top r (rule.Basic a) e = refl
    below_top r (rule.Int k) e = refl
    below_top r (rule.Atom a) e = refl
    below_top r (rule.Node f ns) e = refl
    below_top r (rule.Unit m) e = cc

    to_term_consistent : ConsistentTest (below_rule (length g.rules) (full_leaves g)) to_term
    to_term_consistent p e =
        let name : is_name (length g.rules) p.0 ≡ true = and_left _ _ e in
        let second : (p.1 == 0) ≡ true = and_right (is_name (length g.rules) p.0) _ e in
        let zero : p.1 ≡ 0 = grind (arith, nat_tests) in
        let first : is_name (length g.rules) 0 ≡ true = grind (arith, nat_tests) in
        subst (λ m. below_rule (length g.rules) (full_leaves g) to_term (p.0, m) ≡ true) (sym zero)
        (and_from (are_names (length g.rules) (p.0, 0)) _ (and_from (is_name (length g.rules) p.0) (is_name (length g.rules) 0) name first)
        (all_given (λ a. list_any (leaf_below to_term a) (full_leaves g 0)) (full_leaves g p.0)
        (λ a i. in_any (leaf_below to_term a) (full_leaves g 0) (in_leaves (rule.Basic basic.Term) 0 term_leaf) (below_top to_term a (leaf_of g a (length g.rules) p.0 (full_in g a p.0 i).0).4))))

    pub below_term : (n : ℕ) → n < length g.rules → o.below n 0 ≡ true
    below_term n lt = (is.below n 0).1 (to_term, to_term_consistent, and_from (is_name (length g.rules) n) (0 == 0) (grind (arith, nat_tests)) refl)

-- there are at least the basic names
taken_length : {A : Type 0} (xs : List A) (k : ℕ) → length (take k xs) ≤ length xs
taken_length xs zero = omega arith
taken_length [] (suc k) = omega arith
taken_length (x ∷ xs) (suc k) = let le = taken_length xs k in omega (arith, le)

pub ten_names : (g : Grammar) → IsGrammar g → 10 ≤ length g.rules
ten_names g is = let ten : length (take 10 g.rules) ≡ 10 = ap length is.basic in let le = taken_length g.rules 10 in omega (arith, ten, le)

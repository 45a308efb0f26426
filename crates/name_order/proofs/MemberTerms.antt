-- A name that has a member has a term.
use Rattle.std.proofs.Common.{◌≡◌, ℕ, zero, suc, ◌≤◌, Bool, true, false, ◌&&◌, ◌||◌, List, [], ◌∷◌, length, map, refl, ap, sym, ◌∙◌, subst, arith, ◌⊎◌, inl, inr, true≢false}
use Rattle.std.proofs.lemmas.Bool.Decides.{Decides-int_eq}
use Rattle.std.specs.Prelude.{ℤ, pos, not, filter, ◌==◌}
use Rattle.std.specs.List.{list_any, list_all}
use Rattle.term_core.specs.declared.terms.Term.{Term, Int, Atom, Node}
use Rattle.term_core.proofs.TermFolds.{fold-Int, fold-Atom, fold-Node}
use Rattle.prog_data.specs.declared.grammars.Basic.TheVariants as basic
use Rattle.prog_data.specs.declared.grammars.Rule.{Rule}
use Rattle.prog_data.specs.declared.grammars.Rule.TheVariants as rule
use Rattle.prog_data.specs.declared.grammars.Grammar.{Grammar}
use Rattle.prog_data.specs.Membership.{leaves, is_leaf, admits, admits_step, admit_each, admits_node, admits_int, admits_atom, Belongs}
use Rattle.prog_data.proofs.Leaves.{any_in, in_any, leaf_of}
use Rattle.prog_data.proofs.MembershipLaws.{belongs_sound, belongs_complete}
use Rattle.name_order.specs.Fixpoints.{ClosedTest}
use Rattle.name_order.specs.Relations.{leaf_has, member_rule, HasMember, names_below}
use Rattle.name_order.specs.Laws.{MembersBelong}
use Rattle.name_order.proofs.FixpointLaws.{and_left, and_right, and_both, clash, not_true, not_false, by_contrary}
use Rattle.name_order.proofs.RelationLaws.{name_listed, nat_eq_same, nat_eq_itself, member_named}
use Rattle.name_order.proofs.TableLaws.{left_fewer, or_first, or_second, or_parts_true}
use Rattle.name_order.proofs.MemberLaws.{belong_member}

module _ (g : Grammar) where
  -- each name that passes has a term
  abbrev HaveTerms : (ℕ → Bool) → Type 0
  HaveTerms r = (n : ℕ) → r n ≡ true → (t : Term) × Belongs g t n

  -- a term that a leaf admits

  by_int : (k : ℤ) (x : Rule) → admits_int k x ≡ true → (t : Term) × (admits g t x ≡ true)
  by_int k x e = (Int k, ap (λ p. p x) (fold-Int _ (admits_step g) k) ∙ e)

  by_atom : (a : ℕ) (x : Rule) → admits_atom a x ≡ true → (t : Term) × (admits g t x ≡ true)
  by_atom a x e = (Atom a, ap (λ p. p x) (fold-Atom _ (admits_step g) a) ∙ e)

  by_node : (f : ℕ) (ts : List Term) (x : Rule) → admits_node g f (map (admits g) ts) x ≡ true → (t : Term) × (admits g t x ≡ true)
  by_node f ts x e = (Node f ts, ap (λ p. p x) (fold-Node _ (admits_step g) f ts) ∙ e)

  module _ (r : ℕ → Bool) (terms : HaveTerms r) where
    each_term : (ns : List ℕ) → list_all r ns ≡ true → (ts : List Term) × (admit_each g (map (admits g) ts) ns ≡ true)
    each_term [] e = ([], refl)
    each_term (n ∷ ns) e =
        let first = terms n (and_left _ _ e) in
        let rest = each_term ns (and_right (r n) _ e) in
        (first.0 ∷ rest.0, and_both (list_any (admits g first.0) (leaves g n)) (admit_each g (map (admits g) rest.0) ns) (belongs_complete g first.1) rest.1)

    leaf_term : (x : Rule) → is_leaf x ≡ true → leaf_has r x ≡ true → (t : Term) × (admits g t x ≡ true)
    leaf_term (rule.Basic basic.Term) l e = by_int (pos 0) (rule.Basic basic.Term) refl
    leaf_term (rule.Basic basic.Int) l e = by_int (pos 0) (rule.Basic basic.Int) refl
    leaf_term (rule.Basic basic.Nnegint) l e = by_int (pos 0) (rule.Basic basic.Nnegint) refl
    leaf_term (rule.Basic basic.Gnd) l e = by_int (pos 0) (rule.Basic basic.Gnd) refl
    leaf_term (rule.Basic basic.Atm) l e = by_atom 0 (rule.Basic basic.Atm) refl
    leaf_term (rule.Basic basic.Struct) l e = by_node 0 [] (rule.Basic basic.Struct) refl
    leaf_term (rule.Int k) l e = by_int k (rule.Int k) ((Decides-int_eq k k).1 refl)
    leaf_term (rule.Atom a) l e = by_atom a (rule.Atom a) (nat_eq_itself a)
    leaf_term (rule.Node f ns) l e = let ts = each_term ns e in by_node f ts.0 (rule.Node f ns) (and_both (f == f) (admit_each g (map (admits g) ts.0) ns) (nat_eq_itself f) ts.1)
    leaf_term (rule.Unit m) l e = cc

    -- a name that the rule gives has a term too
    next_term : (n : ℕ) → member_rule g r n ≡ true → (t : Term) × Belongs g t n
    next_term n e =
        let x = any_in (leaf_has r) (leaves g n) e in
        let way = leaf_of g x.0 (length g.rules) n x.1 in
        let t = leaf_term x.0 way.4 x.2 in
        (t.0, belongs_sound g t.0 n (in_any (admits g t.0) (leaves g n) x.1 t.1))

  with_terms : (r : ℕ → Bool) → HaveTerms r → (n : ℕ) → member_rule g r n ≡ true → HaveTerms (λ m. (m == n) || r m)
  with_terms r terms n e m f = either (or_parts_true (m == n) (r m) f)
    where
      either : ((m == n) ≡ true) ⊎ (r m ≡ true) → (t : Term) × Belongs g t m
      either (inl s) = subst (λ k. (t : Term) × Belongs g t k) (sym (nat_eq_same m n s)) (next_term r terms n e)
      either (inr o) = terms m o

  -- where no name is left that the rule gives
  all_found : (r : ℕ → Bool) → list_any (λ n. member_rule g r n && not (r n)) (names_below (length g.rules)) ≡ false → ClosedTest (member_rule g) r
  all_found r none n e =
      by_contrary (r n)
      (λ f. clash _ (in_any (λ n. member_rule g r n && not (r n)) (names_below (length g.rules)) ((name_listed (length g.rules) n).0 (member_named g r n e)) (and_both (member_rule g r n) (not (r n)) e (not_false (r n) f))) none)

  -- one name after another, until the rule gives no more
  found : (k : ℕ) (r : ℕ → Bool) → HaveTerms r → length (filter (λ n. not (r n)) (names_below (length g.rules))) ≤ k → (s : ℕ → Bool) × HaveTerms s × ClosedTest (member_rule g) s
  found zero r terms le = either (list_any (λ n. member_rule g r n && not (r n)) (names_below (length g.rules))) refl
    where
      either : (b : Bool) → list_any (λ n. member_rule g r n && not (r n)) (names_below (length g.rules)) ≡ b → (s : ℕ → Bool) × HaveTerms s × ClosedTest (member_rule g) s
      either false e = (r, terms, all_found r e)
      either true e =
          let n = any_in (λ n. member_rule g r n && not (r n)) (names_below (length g.rules)) e in
          let fewer = left_fewer r (λ m. (m == n.0) || r m) (λ m h. or_second (m == n.0) (r m) h) (names_below (length g.rules)) n.1 (not_true (r n.0) (and_right (member_rule g r n.0) _ n.2)) (or_first (n.0 == n.0) (r n.0) (nat_eq_itself n.0)) in
          absurd (omega (arith, fewer, le))
  found (suc k) r terms le = either (list_any (λ n. member_rule g r n && not (r n)) (names_below (length g.rules))) refl (found k)
    where
      either : (b : Bool) → list_any (λ n. member_rule g r n && not (r n)) (names_below (length g.rules)) ≡ b →
          ((r : ℕ → Bool) → HaveTerms r → length (filter (λ n. not (r n)) (names_below (length g.rules))) ≤ k → (s : ℕ → Bool) × HaveTerms s × ClosedTest (member_rule g) s) →
          (s : ℕ → Bool) × HaveTerms s × ClosedTest (member_rule g) s
      either false e go = (r, terms, all_found r e)
      either true e go =
          let n = any_in (λ n. member_rule g r n && not (r n)) (names_below (length g.rules)) e in
          let fewer = left_fewer r (λ m. (m == n.0) || r m) (λ m h. or_second (m == n.0) (r m) h) (names_below (length g.rules)) n.1 (not_true (r n.0) (and_right (member_rule g r n.0) _ n.2)) (or_first (n.0 == n.0) (r n.0) (nat_eq_itself n.0)) in
          go (λ m. (m == n.0) || r m) (with_terms r terms n.0 (and_left _ _ n.2)) (omega (arith, fewer, le))

pub members_belong : (g : Grammar) → MembersBelong g
members_belong g n = (some_term, (λ b. belong_member g b.0 n b.1))
  where
    some_term : HasMember g n → (t : Term) × Belongs g t n
    some_term h =
        let f = found g (length (filter (λ n. not false) (names_below (length g.rules)))) (λ n. false) (λ n e. absurd (true≢false (sym e))) (omega arith) in
        f.1 n (h f.0 f.2)

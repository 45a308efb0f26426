-- `belongs` decides the least relation.
use Rattle.std.proofs.Common.{◌≡◌, ℕ, zero, suc, ◌<◌, Bool, true, false, ◌&&◌, List, [], ◌∷◌, length, map, refl, ap, sym, ◌∙◌, subst, arith}
use Rattle.std.proofs.lemmas.Bool.Decides.{nat_tests, Decides-int_eq}
use Rattle.std.specs.Prelude.{Contains, slice_index_or, ℤ, pos, negsuc, int_le, ◌==◌}
use Rattle.std.specs.List.{list_any, list_all, AllByRecursion}
use Rattle.std.specs.Ordering.{int_eq}
use Rattle.term_core.specs.declared.terms.Term.{Term, Var, Int, Atom, Node}
use Rattle.term_core.specs.Terms.{is_ground, is_ground_step}
use Rattle.term_core.proofs.TermFolds.{fold-Var, fold-Int, fold-Atom, fold-Node, ind_terms}
use Rattle.term_core.specs.declared.terms.Term.TheOpen as layer
use Rattle.prog_data.specs.declared.grammars.Basic.{Basic}
use Rattle.prog_data.specs.declared.grammars.Basic.TheVariants as basic
use Rattle.prog_data.specs.declared.grammars.Rule.{Rule}
use Rattle.prog_data.specs.declared.grammars.Rule.TheVariants as rule
use Rattle.prog_data.specs.declared.grammars.Grammar.{Grammar}
use Rattle.prog_data.specs.Membership.{rules_of, is_leaf, leaves, IsBasic, Belongs, by_basic, by_int, by_atom, by_node, by_unit, BelongEach, none, more, admits, admits_step, admits_node, admit_each, belongs}
use Rattle.prog_data.proofs.Leaves.{In, here, later, any_in, in_any, Leads, leaf_of, leads_to_leaf}
use Rattle.prog_data.proofs.Leaves as way

pub in_contains : {A : Type 0} {x : A} (xs : List A) → In x xs → Contains xs x
in_contains [] i = elim i [ ]
in_contains (x ∷ xs) here = (0, omega arith, refl)
in_contains (y ∷ xs) (later i) = let c = in_contains xs i in (suc c.0, let le = c.1 in omega (arith, le), c.2)

pub contains_in : {A : Type 0} (x : A) (xs : List A) → Contains xs x → In x xs
contains_in x [] c = absurd (let le = c.1 in omega (arith, le))
contains_in {A} x (y ∷ xs) c = at c.0 c.1 c.2 (contains_in x xs)
  where
    at : (k : ℕ) → k < suc (length xs) → slice_index_or (y ∷ xs) k x ≡ x → (Contains xs x → In x xs) → In x (y ∷ xs)
    at zero le e rest = subst (λ z. In z (y ∷ xs)) e here
    at (suc k) le e rest = later (rest (k, omega (arith, le), e))

both_left : (a b : Bool) → (a && b) ≡ true → a ≡ true
both_left true b e = refl
both_left false b e = e

both_right : (a b : Bool) → (a && b) ≡ true → b ≡ true
both_right true b e = e
both_right false b e = cc

both_true : (a b : Bool) → a ≡ true → b ≡ true → (a && b) ≡ true
both_true a b e f = ap (λ x. x && b) e ∙ f

nat_same : (a b : ℕ) → (a == b) ≡ true → a ≡ b
nat_same a b e = grind (arith, nat_tests)

int_same : (a b : ℤ) → int_eq a b ≡ true → a ≡ b
int_same a b e = (Decides-int_eq a b).0 e

int_itself : (a : ℤ) → int_eq a a ≡ true
int_itself a = (Decides-int_eq a a).1 refl

nat_itself : (a : ℕ) → (a == a) ≡ true
nat_itself a = grind (arith, nat_tests)

module _ (g : Grammar) where
  -- the leaf gnd admits what is ground
  pub ground_same : (t : Term) → admits g t (rule.Basic basic.Gnd) ≡ is_ground t
  ground_same =
      ind_terms (λ t. admits g t (rule.Basic basic.Gnd) ≡ is_ground t)
      (λ v. ap (λ p. p (rule.Basic basic.Gnd)) (fold-Var _ (admits_step g) v) ∙ sym (fold-Var _ is_ground_step v))
      (λ n. ap (λ p. p (rule.Basic basic.Gnd)) (fold-Int _ (admits_step g) n) ∙ sym (fold-Int _ is_ground_step n))
      (λ a. ap (λ p. p (rule.Basic basic.Gnd)) (fold-Atom _ (admits_step g) a) ∙ sym (fold-Atom _ is_ground_step a))
      (λ f ts h. ap (λ p. p (rule.Basic basic.Gnd)) (fold-Node _ (admits_step g) f ts) ∙ each ts h ∙ sym (fold-Node _ is_ground_step f ts))
    where
      each : (ts : List Term) → AllByRecursion (λ t. admits g t (rule.Basic basic.Gnd) ≡ is_ground t) ts → list_all (λ p. p (rule.Basic basic.Gnd)) (map (admits g) ts) ≡ list_all (λ b. b) (map is_ground ts)
      each [] h = refl
      each (t ∷ ts) h = ap (λ b. b && list_all (λ p. p (rule.Basic basic.Gnd)) (map (admits g) ts)) h.0 ∙ ap (λ b. is_ground t && b) (each ts h.1)

  -- what belongs to a name belongs to each from which unit rules lead there
  pub led : (t : Term) (n o : ℕ) (xs : List ℕ) → Leads g n o xs → Belongs g t o → Belongs g t n
  led t n o xs way.none b = b
  led t n o xs (way.more {m = m} {xs = rest} u l) b = by_unit m (in_contains _ u) (led t m o rest l b)

  -- a leaf that admits a term makes it belong
  abbrev pub ByLeaf : Term → Type 0
  ByLeaf t = (r : Rule) (m : ℕ) → admits g t r ≡ true → In r (rules_of g m) → Belongs g t m

  at_var : (v : ℕ) → ByLeaf (Var v)
  at_var v r m e i = by_rule r (sym (ap (λ p. p r) (fold-Var _ (admits_step g) v)) ∙ e) i
    where
      by_rule : (r : Rule) → admits_step g (layer.Var v) r ≡ true → In r (rules_of g m) → Belongs g (Var v) m
      by_rule (rule.Basic basic.Term) e i = by_basic basic.Term (in_contains _ i) tt
      by_rule other e i = cc

  at_int : (k : ℤ) → ByLeaf (Int k)
  at_int k r m e i = by_rule r (sym (ap (λ p. p r) (fold-Int _ (admits_step g) k)) ∙ e) i
    where
      natural : (k : ℤ) → int_le (pos 0) k ≡ true → IsBasic basic.Nnegint (Int k)
      natural (pos n) e = (n, refl)
      natural (negsuc n) e = cc

      by_rule : (r : Rule) → admits_step g (layer.Int k) r ≡ true → In r (rules_of g m) → Belongs g (Int k) m
      by_rule (rule.Basic basic.Term) e i = by_basic basic.Term (in_contains _ i) tt
      by_rule (rule.Basic basic.Int) e i = by_basic basic.Int (in_contains _ i) (k, refl)
      by_rule (rule.Basic basic.Nnegint) e i = by_basic basic.Nnegint (in_contains _ i) (natural k e)
      by_rule (rule.Basic basic.Gnd) e i = by_basic basic.Gnd (in_contains _ i) (fold-Int _ is_ground_step k)
      by_rule (rule.Int j) e i = by_int j (in_contains _ i) (ap Int (int_same k j e))
      by_rule other e i = cc

  at_atom : (a : ℕ) → ByLeaf (Atom a)
  at_atom a r m e i = by_rule r (sym (ap (λ p. p r) (fold-Atom _ (admits_step g) a)) ∙ e) i
    where
      by_rule : (r : Rule) → admits_step g (layer.Atom a) r ≡ true → In r (rules_of g m) → Belongs g (Atom a) m
      by_rule (rule.Basic basic.Term) e i = by_basic basic.Term (in_contains _ i) tt
      by_rule (rule.Basic basic.Atm) e i = by_basic basic.Atm (in_contains _ i) (a, refl)
      by_rule (rule.Basic basic.Gnd) e i = by_basic basic.Gnd (in_contains _ i) (fold-Atom _ is_ground_step a)
      by_rule (rule.Atom b) e i = by_atom b (in_contains _ i) (ap Atom (nat_same a b e))
      by_rule other e i = cc

  belong_each : (ts : List Term) (ns : List ℕ) → AllByRecursion ByLeaf ts → admit_each g (map (admits g) ts) ns ≡ true → BelongEach g ts ns
  belong_each [] [] h e = none
  belong_each [] (n ∷ ns) h e = cc
  belong_each (t ∷ ts) [] h e = cc
  belong_each (t ∷ ts) (n ∷ ns) h e =
      let a = any_in (admits g t) (leaves g n) (both_left _ _ e) in
      let l = leaf_of g a.0 (length g.rules) n a.1 in
      more (led t n l.0 l.1 l.2 (h.0 a.0 l.0 a.2 l.3)) (belong_each ts ns h.1 (both_right (list_any (admits g t) (leaves g n)) _ e))

  at_node : (f : ℕ) (ts : List Term) → AllByRecursion ByLeaf ts → ByLeaf (Node f ts)
  at_node f ts h r m e i = by_rule r (sym (ap (λ p. p r) (fold-Node _ (admits_step g) f ts)) ∙ e) i
    where
      by_rule : (r : Rule) → admits_node g f (map (admits g) ts) r ≡ true → In r (rules_of g m) → Belongs g (Node f ts) m
      by_rule (rule.Basic basic.Term) e i = by_basic basic.Term (in_contains _ i) tt
      by_rule (rule.Basic basic.Struct) e i = by_basic basic.Struct (in_contains _ i) (f, ts, refl)
      by_rule (rule.Basic basic.Gnd) e i = by_basic basic.Gnd (in_contains _ i) (sym (ground_same (Node f ts)) ∙ ap (λ p. p (rule.Basic basic.Gnd)) (fold-Node _ (admits_step g) f ts) ∙ e)
      by_rule (rule.Node k ns) e i = by_node k ts ns (in_contains _ i) (ap (λ k. Node k ts) (nat_same f k (both_left _ _ e))) (belong_each ts ns h (both_right (f == k) _ e))
      by_rule other e i = cc

  by_leaf : (t : Term) → ByLeaf t
  by_leaf = ind_terms ByLeaf at_var at_int at_atom at_node

  pub belongs_sound : (t : Term) (n : ℕ) → belongs g t n ≡ true → Belongs g t n
  belongs_sound t n e =
      let a = any_in (admits g t) (leaves g n) e in
      let l = leaf_of g a.0 (length g.rules) n a.1 in
      led t n l.0 l.1 l.2 (by_leaf t a.0 l.0 a.2 l.3)

  -- the other way

  basic_admits : (b : Basic) (t : Term) → IsBasic b t → admits g t (rule.Basic b) ≡ true
  basic_admits basic.Term t i = ind_terms (λ t. admits g t (rule.Basic basic.Term) ≡ true)
      (λ v. ap (λ p. p (rule.Basic basic.Term)) (fold-Var _ (admits_step g) v)) (λ n. ap (λ p. p (rule.Basic basic.Term)) (fold-Int _ (admits_step g) n))
      (λ a. ap (λ p. p (rule.Basic basic.Term)) (fold-Atom _ (admits_step g) a)) (λ f ts h. ap (λ p. p (rule.Basic basic.Term)) (fold-Node _ (admits_step g) f ts)) t
  basic_admits basic.Int t i = ap (λ t. admits g t (rule.Basic basic.Int)) i.1 ∙ ap (λ p. p (rule.Basic basic.Int)) (fold-Int _ (admits_step g) i.0)
  basic_admits basic.Nnegint t i = ap (λ t. admits g t (rule.Basic basic.Nnegint)) i.1 ∙ ap (λ p. p (rule.Basic basic.Nnegint)) (fold-Int _ (admits_step g) (pos i.0)) ∙ natural i.0
    where
      natural : (n : ℕ) → int_le (pos 0) (pos n) ≡ true
      natural n = grind (arith, nat_tests)
  basic_admits basic.Atm t i = ap (λ t. admits g t (rule.Basic basic.Atm)) i.1 ∙ ap (λ p. p (rule.Basic basic.Atm)) (fold-Atom _ (admits_step g) i.0)
  basic_admits basic.Gnd t i = ground_same t ∙ i
  basic_admits basic.Struct t i = ap (λ t. admits g t (rule.Basic basic.Struct)) i.2 ∙ ap (λ p. p (rule.Basic basic.Struct)) (fold-Node _ (admits_step g) i.0 i.1)

  own_leaf : (t : Term) (n : ℕ) (r : Rule) → Contains (rules_of g n) r → is_leaf r ≡ true → admits g t r ≡ true → belongs g t n ≡ true
  own_leaf t n r c leaf e = in_any (admits g t) (leaves g n) (leads_to_leaf g r n n [] way.none (contains_in r (rules_of g n) c) leaf) e

  mutual
    pub belongs_complete : {t : Term} {n : ℕ} → Belongs g t n → belongs g t n ≡ true
    belongs_complete {t} {n} (by_basic b c i) = own_leaf t n (rule.Basic b) c refl (basic_admits b t i)
    belongs_complete {t} {n} (by_int k c e) = own_leaf t n (rule.Int k) c refl (ap (λ t. admits g t (rule.Int k)) e ∙ ap (λ p. p (rule.Int k)) (fold-Int _ (admits_step g) k) ∙ int_itself k)
    belongs_complete {t} {n} (by_atom a c e) = own_leaf t n (rule.Atom a) c refl (ap (λ t. admits g t (rule.Atom a)) e ∙ ap (λ p. p (rule.Atom a)) (fold-Atom _ (admits_step g) a) ∙ nat_itself a)
    belongs_complete {t} {n} (by_node f ts ns c e each) =
        own_leaf t n (rule.Node f ns) c refl (ap (λ t. admits g t (rule.Node f ns)) e ∙ ap (λ p. p (rule.Node f ns)) (fold-Node _ (admits_step g) f ts) ∙ both_true (f == f) (admit_each g (map (admits g) ts) ns) (nat_itself f) (each_complete each))
    belongs_complete {t} {n} (by_unit m c b) =
        let a = any_in (admits g t) (leaves g m) (belongs_complete b) in
        let l = leaf_of g a.0 (length g.rules) m a.1 in
        in_any (admits g t) (leaves g n) (leads_to_leaf g a.0 n l.0 (n ∷ l.1) (way.more (contains_in (rule.Unit m) (rules_of g n) c) l.2) l.3 l.4) a.2

    each_complete : {ts : List Term} {ns : List ℕ} → BelongEach g ts ns → admit_each g (map (admits g) ts) ns ≡ true
    each_complete none = refl
    each_complete (more {t} {ts} {n} {ns} b rest) = both_true (list_any (admits g t) (leaves g n)) (admit_each g (map (admits g) ts) ns) (belongs_complete b) (each_complete rest)

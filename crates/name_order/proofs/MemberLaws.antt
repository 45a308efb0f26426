-- What is below has no more terms, and names that share a term meet.
use Rattle.std.proofs.Common.{◌≡◌, ℕ, Bool, true, false, List, [], ◌∷◌, length, map, refl, ap, sym, ◌∙◌, subst, arith}
use Rattle.std.proofs.lemmas.Bool.Decides.{nat_tests, Decides-int_eq}
use Rattle.std.specs.Prelude.{ℤ, ◌==◌}
use Rattle.std.specs.Ordering.{int_eq}
use Rattle.std.specs.List.{list_any, list_all, AllByRecursion}
use Rattle.term_core.specs.declared.terms.Term.{Term, Var, Int, Atom, Node}
use Rattle.term_core.proofs.TermFolds.{fold-Var, fold-Int, fold-Atom, fold-Node, ind_terms}
use Rattle.prog_data.specs.declared.grammars.Basic.{Basic}
use Rattle.prog_data.specs.declared.grammars.Basic.TheVariants as basic
use Rattle.prog_data.specs.declared.grammars.Rule.{Rule}
use Rattle.prog_data.specs.declared.grammars.Rule.TheVariants as rule
use Rattle.prog_data.specs.declared.grammars.Grammar.{Grammar}
use Rattle.prog_data.specs.Membership.{rules_of, leaves, admits_var, admits_int, admits_atom, admits_node, admit_each, admits, admits_step, belongs, Belongs}
use Rattle.prog_data.proofs.Leaves.{In, here, later, any_in, in_any, Leads, leaf_of, leads_to_leaf}
use Rattle.prog_data.proofs.Leaves as way
use Rattle.prog_data.proofs.MembershipLaws.{belongs_sound, belongs_complete}
use Rattle.name_order.specs.Fixpoints.{ConsistentTest, ClosedTest}
use Rattle.prog_data.specs.declared.basic_names.TheConstants.{GND_TYPE}
use Rattle.name_order.specs.Relations.{Pair, leaf_has, has_member, full_leaves, each_pair, basic_below, leaf_below, below_rule, basic_meets, leaf_meets, meets_rule, HasGnd, Below, Meets, HasMember}
use Rattle.name_order.proofs.FixpointLaws.{and_left, and_right, and_both}
use Rattle.name_order.proofs.RelationLaws.{all_in, full_in, in_full, member_law, member_closed}

int_same : (a b : ℤ) → int_eq a b ≡ true → a ≡ b
int_same a b e = (Decides-int_eq a b).0 e

nat_same : (a b : ℕ) → (a == b) ≡ true → a ≡ b
nat_same a b e = grind (arith, nat_tests)

same_third : (a b c : ℕ) → (a == b) ≡ true → (b == c) ≡ true → (a == c) ≡ true
same_third a b c e f = subst (λ x. (a == x) ≡ true) (nat_same b c f) e

same_both : (a b c : ℕ) → (a == b) ≡ true → (a == c) ≡ true → (b == c) ≡ true
same_both a b c e f = subst (λ x. (x == c) ≡ true) (nat_same a b e) f

-- the leaves of gnd
module _ (g : Grammar) (has_gnd : HasGnd g) where
  gnd_leaf : (r : Rule) → In r (leaves g GND_TYPE) → r ≡ rule.Basic basic.Gnd
  gnd_leaf r i = let l = leaf_of g r (length g.rules) GND_TYPE i in at_end GND_TYPE l.0 l.1 l.2 has_gnd l.3
    where
      only : (s : Rule) → In r (s ∷ []) → r ≡ s
      only s here = refl
      only s (later i) = elim i [ ]

      no_unit : (m : ℕ) (s : Rule) → In s (rule.Basic basic.Gnd ∷ []) → s ≡ rule.Unit m → r ≡ rule.Basic basic.Gnd
      no_unit m s here e = cc
      no_unit m s (later i) e = elim i [ ]

      at_end : (n o : ℕ) (xs : List ℕ) → Leads g n o xs → rules_of g n ≡ rule.Basic basic.Gnd ∷ [] → In r (rules_of g o) → r ≡ rule.Basic basic.Gnd
      at_end n o xs way.none e i = only (rule.Basic basic.Gnd) (subst (In r) e i)
      at_end n o xs (way.more {m = m} u l) e i = no_unit m (rule.Unit m) (subst (In (rule.Unit m)) e u) refl

  pub in_gnd : (t : Term) → belongs g t GND_TYPE ≡ true → admits g t (rule.Basic basic.Gnd) ≡ true
  in_gnd t e = let m = any_in (admits g t) (leaves g GND_TYPE) e in subst (λ r. admits g t r ≡ true) (gnd_leaf m.0 m.1) m.2

  pub gnd_in : (t : Term) → admits g t (rule.Basic basic.Gnd) ≡ true → belongs g t GND_TYPE ≡ true
  gnd_in t e = in_any (admits g t) (leaves g GND_TYPE) (leads_to_leaf g (rule.Basic basic.Gnd) GND_TYPE GND_TYPE [] way.none (subst (In (rule.Basic basic.Gnd)) (sym has_gnd) here) refl) e

-- a leaf with a member, and a name with one

module _ (g : Grammar) where
  abbrev pub ShowsMember : Term → Type 0
  ShowsMember t = (r : Rule) → admits g t r ≡ true → leaf_has (has_member g) r ≡ true

  shows_name : (t : Term) (n : ℕ) → ShowsMember t → belongs g t n ≡ true → has_member g n ≡ true
  shows_name t n h e = let m = any_in (admits g t) (leaves g n) e in member_closed g n (in_any (leaf_has (has_member g)) (leaves g n) m.1 (h m.0 m.2))

  shows_each : (ts : List Term) (ns : List ℕ) → AllByRecursion ShowsMember ts → admit_each g (map (admits g) ts) ns ≡ true → list_all (has_member g) ns ≡ true
  shows_each [] [] h e = refl
  shows_each [] (n ∷ ns) h e = cc
  shows_each (t ∷ ts) [] h e = cc
  shows_each (t ∷ ts) (n ∷ ns) h e = and_both (has_member g n) (list_all (has_member g) ns) (shows_name t n h.0 (and_left _ _ e)) (shows_each ts ns h.1 (and_right (list_any (admits g t) (leaves g n)) _ e))

  shows_at : (test : Rule → Bool) → ((f : ℕ) (ns : List ℕ) → test (rule.Node f ns) ≡ true → list_all (has_member g) ns ≡ true) → (r : Rule) → test r ≡ true → leaf_has (has_member g) r ≡ true
  shows_at test h (rule.Node f ns) e = h f ns e
  shows_at test h other e = refl

  pub shows_member : (t : Term) → ShowsMember t
  shows_member = ind_terms ShowsMember
      (λ v. shows_at (admits g (Var v)) (λ f ns e. absurd (clash_of (sym (ap (λ p. p (rule.Node f ns)) (fold-Var _ (admits_step g) v)) ∙ e))))
      (λ k. shows_at (admits g (Int k)) (λ f ns e. absurd (clash_of (sym (ap (λ p. p (rule.Node f ns)) (fold-Int _ (admits_step g) k)) ∙ e))))
      (λ a. shows_at (admits g (Atom a)) (λ f ns e. absurd (clash_of (sym (ap (λ p. p (rule.Node f ns)) (fold-Atom _ (admits_step g) a)) ∙ e))))
      (λ f ts h. shows_at (admits g (Node f ts)) (λ k ns e. shows_each ts ns h (and_right (f == k) _ (sym (ap (λ p. p (rule.Node k ns)) (fold-Node _ (admits_step g) f ts)) ∙ e))))
    where
      clash_of : false ≡ true → ⊥
      clash_of e = cc

  -- the leaf by which a term belongs to a name
  pub own_leaf : (t : Term) (n : ℕ) → belongs g t n ≡ true → (r : Rule) × In r (full_leaves g n) × (admits g t r ≡ true)
  own_leaf t n e = let m = any_in (admits g t) (leaves g n) e in (m.0, in_full g m.0 n m.1 (shows_member t m.0 m.2), m.2)

  pub by_leaf : (t : Term) (n : ℕ) (r : Rule) → In r (full_leaves g n) → admits g t r ≡ true → belongs g t n ≡ true
  by_leaf t n r i e = in_any (admits g t) (leaves g n) (full_in g r n i).0 e

  pub belongs_member : (t : Term) (n : ℕ) → belongs g t n ≡ true → HasMember g n
  belongs_member t n e = (member_law g n).0 (shows_name t n (shows_member t) e)

-- below

module _ (r : Pair → Bool) where
  -- what passes a test at a leaf passes it at each leaf that is above
  abbrev pub Passes : (Rule → Bool) → Type 0
  Passes test = (a b : Rule) → leaf_below r a b ≡ true → test a ≡ true → test b ≡ true

  var_passes : Passes admits_var
  var_passes (rule.Basic basic.Term) (rule.Basic basic.Term) l e = refl
  var_passes (rule.Basic basic.Term) other l e = cc
  var_passes other b l e = cc

  int_rises : (k : ℤ) (a b : Basic) → basic_below a b ≡ true → admits_int k (rule.Basic a) ≡ true → admits_int k (rule.Basic b) ≡ true
  int_rises k a basic.Term l e = refl
  int_rises k basic.Int basic.Int l e = refl
  int_rises k basic.Int basic.Gnd l e = refl
  int_rises k basic.Nnegint basic.Int l e = refl
  int_rises k basic.Nnegint basic.Nnegint l e = e
  int_rises k basic.Nnegint basic.Gnd l e = refl
  int_rises k basic.Gnd basic.Gnd l e = refl
  int_rises k basic.Term b l e = cc
  int_rises k basic.Int b l e = cc
  int_rises k basic.Nnegint b l e = cc
  int_rises k basic.Gnd b l e = cc
  int_rises k basic.Atm b l e = cc
  int_rises k basic.Struct b l e = cc

  pub int_passes : (k : ℤ) → Passes (admits_int k)
  int_passes k (rule.Int j) b l e = subst (λ i. admits_int i b ≡ true) (sym (int_same k j e)) l
  int_passes k (rule.Basic a) (rule.Basic b) l e = int_rises k a b l e
  int_passes k (rule.Basic a) b l e = cc
  int_passes k a b l e = cc

  atom_rises : (c : ℕ) (a b : Basic) → basic_below a b ≡ true → admits_atom c (rule.Basic a) ≡ true → admits_atom c (rule.Basic b) ≡ true
  atom_rises c a basic.Term l e = refl
  atom_rises c basic.Atm basic.Atm l e = refl
  atom_rises c basic.Atm basic.Gnd l e = refl
  atom_rises c basic.Gnd basic.Gnd l e = refl
  atom_rises c basic.Term b l e = cc
  atom_rises c basic.Int b l e = cc
  atom_rises c basic.Nnegint b l e = cc
  atom_rises c basic.Gnd b l e = cc
  atom_rises c basic.Atm b l e = cc
  atom_rises c basic.Struct b l e = cc

  pub atom_passes : (c : ℕ) → Passes (admits_atom c)
  atom_passes c (rule.Atom d) b l e = subst (λ x. admits_atom x b ≡ true) (sym (nat_same c d e)) l
  atom_passes c (rule.Basic a) (rule.Basic b) l e = atom_rises c a b l e
  atom_passes c (rule.Basic a) b l e = cc
  atom_passes c a b l e = cc

module _ (g : Grammar) (has_gnd : HasGnd g) (r : Pair → Bool) where
  -- what belongs to a name belongs to each that the test has above it
  abbrev pub Rises : Term → Type 0
  Rises t = (n m : ℕ) → r (n, m) ≡ true → belongs g t n ≡ true → belongs g t m ≡ true

  all_rise : (ts : List Term) (ns : List ℕ) → AllByRecursion Rises ts → list_all (λ n. r (n, GND_TYPE)) ns ≡ true → admit_each g (map (admits g) ts) ns ≡ true → list_all (λ p. p (rule.Basic basic.Gnd)) (map (admits g) ts) ≡ true
  all_rise [] [] h l e = refl
  all_rise [] (n ∷ ns) h l e = cc
  all_rise (t ∷ ts) [] h l e = cc
  all_rise (t ∷ ts) (n ∷ ns) h l e =
      and_both (admits g t (rule.Basic basic.Gnd)) (list_all (λ p. p (rule.Basic basic.Gnd)) (map (admits g) ts)) (in_gnd g has_gnd t (h.0 n GND_TYPE (and_left _ _ l) (and_left _ _ e)))
      (all_rise ts ns h.1 (and_right (r (n, GND_TYPE)) _ l) (and_right (list_any (admits g t) (leaves g n)) _ e))

  each_rise : (ts : List Term) (ns ms : List ℕ) → AllByRecursion Rises ts → each_pair r ns ms ≡ true → admit_each g (map (admits g) ts) ns ≡ true → admit_each g (map (admits g) ts) ms ≡ true
  each_rise [] [] [] h l e = refl
  each_rise [] [] (m ∷ ms) h l e = cc
  each_rise [] (n ∷ ns) ms h l e = cc
  each_rise (t ∷ ts) [] ms h l e = cc
  each_rise (t ∷ ts) (n ∷ ns) [] h l e = cc
  each_rise (t ∷ ts) (n ∷ ns) (m ∷ ms) h l e =
      and_both (list_any (admits g t) (leaves g m)) (admit_each g (map (admits g) ts) ms) (h.0 n m (and_left _ _ l) (and_left _ _ e))
      (each_rise ts ns ms h.1 (and_right (r (n, m)) _ l) (and_right (list_any (admits g t) (leaves g n)) _ e))

  node_rises : (f : ℕ) (ps : List (Rule → Bool)) (a b : Basic) → basic_below a b ≡ true → admits_node g f ps (rule.Basic a) ≡ true → admits_node g f ps (rule.Basic b) ≡ true
  node_rises f ps a basic.Term l e = refl
  node_rises f ps basic.Struct basic.Struct l e = refl
  node_rises f ps basic.Gnd basic.Gnd l e = e
  node_rises f ps basic.Term b l e = cc
  node_rises f ps basic.Int b l e = cc
  node_rises f ps basic.Nnegint b l e = cc
  node_rises f ps basic.Gnd b l e = cc
  node_rises f ps basic.Atm b l e = cc
  node_rises f ps basic.Struct b l e = cc

  node_passes : (f : ℕ) (ts : List Term) → AllByRecursion Rises ts → Passes r (admits_node g f (map (admits g) ts))
  node_passes f ts h (rule.Basic a) (rule.Basic b) l e = node_rises f (map (admits g) ts) a b l e
  node_passes f ts h (rule.Node k ns) (rule.Basic basic.Term) l e = refl
  node_passes f ts h (rule.Node k ns) (rule.Basic basic.Struct) l e = refl
  node_passes f ts h (rule.Node k ns) (rule.Basic basic.Gnd) l e = all_rise ts ns h l (and_right (f == k) _ e)
  node_passes f ts h (rule.Node k ns) (rule.Node j ms) l e = and_both (f == j) _ (same_third f k j (and_left _ _ e) (and_left _ _ l)) (each_rise ts ns ms h (and_right (k == j) _ l) (and_right (f == k) _ e))
  node_passes f ts h (rule.Basic a) b l e = cc
  node_passes f ts h (rule.Node k ns) b l e = cc
  node_passes f ts h a b l e = cc

  module _ (cons : ConsistentTest (below_rule (length g.rules) (full_leaves g)) r) where
    rises_by : (t : Term) → Passes r (admits g t) → Rises t
    rises_by t p n m e h =
        let a = own_leaf g t n h in
        let b = any_in (leaf_below r a.0) (full_leaves g m) (all_in (λ a. list_any (leaf_below r a) (full_leaves g m)) (full_leaves g n) (and_right _ _ (cons (n, m) e)) a.1) in
        by_leaf g t m b.0 b.1 (p a.0 b.0 b.2 a.2)

    pub rises : (t : Term) → Rises t
    rises = ind_terms Rises
        (λ v. rises_by (Var v) (subst (Passes r) (sym (fold-Var _ (admits_step g) v)) (var_passes r)))
        (λ k. rises_by (Int k) (subst (Passes r) (sym (fold-Int _ (admits_step g) k)) (int_passes r k)))
        (λ a. rises_by (Atom a) (subst (Passes r) (sym (fold-Atom _ (admits_step g) a)) (atom_passes r a)))
        (λ f ts h. rises_by (Node f ts) (subst (Passes r) (sym (fold-Node _ (admits_step g) f ts)) (node_passes f ts h)))

pub below_belongs : (g : Grammar) → HasGnd g → (t : Term) (n m : ℕ) → Below g n m → belongs g t n ≡ true → belongs g t m ≡ true
below_belongs g h t n m b = rises g h b.0 b.1 t n m b.2

-- meets

module _ (g : Grammar) (has_gnd : HasGnd g) (r : Pair → Bool) where
  abbrev pub Joins : (Rule → Bool) → Type 0
  Joins test = (a b : Rule) → test a ≡ true → test b ≡ true → leaf_meets r a b ≡ true

  var_joins : Joins admits_var
  var_joins (rule.Basic basic.Term) (rule.Basic b) d e = refl
  var_joins (rule.Basic basic.Term) other d e = cc
  var_joins other b d e = cc

  int_basics : (k : ℤ) (a b : Basic) → admits_int k (rule.Basic a) ≡ true → admits_int k (rule.Basic b) ≡ true → basic_meets a b ≡ true
  int_basics k basic.Term b d e = refl
  int_basics k basic.Gnd b d e = refl
  int_basics k basic.Int basic.Term d e = refl
  int_basics k basic.Int basic.Gnd d e = refl
  int_basics k basic.Int basic.Int d e = refl
  int_basics k basic.Int basic.Nnegint d e = refl
  int_basics k basic.Nnegint basic.Term d e = refl
  int_basics k basic.Nnegint basic.Gnd d e = refl
  int_basics k basic.Nnegint basic.Int d e = refl
  int_basics k basic.Nnegint basic.Nnegint d e = refl
  int_basics k a b d e = cc

  int_joins : (k : ℤ) → Joins (admits_int k)
  int_joins k (rule.Int j) b d e = subst (λ i. admits_int i b ≡ true) (int_same k j d) e
  int_joins k (rule.Basic a) (rule.Int j) d e = subst (λ i. admits_int i (rule.Basic a) ≡ true) (int_same k j e) d
  int_joins k (rule.Basic a) (rule.Basic b) d e = int_basics k a b d e
  int_joins k a b d e = cc

  atom_basics : (c : ℕ) (a b : Basic) → admits_atom c (rule.Basic a) ≡ true → admits_atom c (rule.Basic b) ≡ true → basic_meets a b ≡ true
  atom_basics c basic.Term b d e = refl
  atom_basics c basic.Gnd b d e = refl
  atom_basics c basic.Atm basic.Term d e = refl
  atom_basics c basic.Atm basic.Gnd d e = refl
  atom_basics c basic.Atm basic.Atm d e = refl
  atom_basics c a b d e = cc

  atom_joins : (c : ℕ) → Joins (admits_atom c)
  atom_joins c (rule.Atom j) b d e = subst (λ i. admits_atom i b ≡ true) (nat_same c j d) e
  atom_joins c (rule.Basic a) (rule.Atom j) d e = subst (λ i. admits_atom i (rule.Basic a) ≡ true) (nat_same c j e) d
  atom_joins c (rule.Basic a) (rule.Basic b) d e = atom_basics c a b d e
  atom_joins c a b d e = cc

  -- two names that the term belongs to are in the test
  abbrev pub Meet : Term → Type 0
  Meet t = (n m : ℕ) → belongs g t n ≡ true → belongs g t m ≡ true → r (n, m) ≡ true

  all_meet : (ts : List Term) (ns : List ℕ) → AllByRecursion Meet ts → admit_each g (map (admits g) ts) ns ≡ true → list_all (λ p. p (rule.Basic basic.Gnd)) (map (admits g) ts) ≡ true → list_all (λ n. r (n, GND_TYPE)) ns ≡ true
  all_meet [] [] h d e = refl
  all_meet [] (n ∷ ns) h d e = cc
  all_meet (t ∷ ts) [] h d e = cc
  all_meet (t ∷ ts) (n ∷ ns) h d e =
      and_both (r (n, GND_TYPE)) (list_all (λ n. r (n, GND_TYPE)) ns) (h.0 n GND_TYPE (and_left _ _ d) (gnd_in g has_gnd t (and_left _ _ e)))
      (all_meet ts ns h.1 (and_right (list_any (admits g t) (leaves g n)) _ d) (and_right (admits g t (rule.Basic basic.Gnd)) _ e))

  each_meet : (ts : List Term) (ns ms : List ℕ) → AllByRecursion Meet ts → admit_each g (map (admits g) ts) ns ≡ true → admit_each g (map (admits g) ts) ms ≡ true → each_pair r ns ms ≡ true
  each_meet [] [] [] h d e = refl
  each_meet [] [] (m ∷ ms) h d e = cc
  each_meet [] (n ∷ ns) ms h d e = cc
  each_meet (t ∷ ts) [] ms h d e = cc
  each_meet (t ∷ ts) (n ∷ ns) [] h d e = cc
  each_meet (t ∷ ts) (n ∷ ns) (m ∷ ms) h d e =
      and_both (r (n, m)) (each_pair r ns ms) (h.0 n m (and_left _ _ d) (and_left _ _ e))
      (each_meet ts ns ms h.1 (and_right (list_any (admits g t) (leaves g n)) _ d) (and_right (list_any (admits g t) (leaves g m)) _ e))

  node_joins : (f : ℕ) (ts : List Term) → AllByRecursion Meet ts → Joins (admits_node g f (map (admits g) ts))
  node_joins f ts h (rule.Basic basic.Term) (rule.Basic b) d e = refl
  node_joins f ts h (rule.Basic basic.Term) (rule.Node k ns) d e = refl
  node_joins f ts h (rule.Basic basic.Gnd) (rule.Basic b) d e = refl
  node_joins f ts h (rule.Basic basic.Gnd) (rule.Node k ns) d e = all_meet ts ns h (and_right (f == k) _ e) d
  node_joins f ts h (rule.Basic basic.Struct) (rule.Basic basic.Term) d e = refl
  node_joins f ts h (rule.Basic basic.Struct) (rule.Basic basic.Struct) d e = refl
  node_joins f ts h (rule.Basic basic.Struct) (rule.Basic basic.Gnd) d e = refl
  node_joins f ts h (rule.Basic basic.Struct) (rule.Node k ns) d e = refl
  node_joins f ts h (rule.Node k ns) (rule.Basic basic.Term) d e = refl
  node_joins f ts h (rule.Node k ns) (rule.Basic basic.Struct) d e = refl
  node_joins f ts h (rule.Node k ns) (rule.Basic basic.Gnd) d e = all_meet ts ns h (and_right (f == k) _ d) e
  node_joins f ts h (rule.Node k ns) (rule.Node j ms) d e = and_both (k == j) _ (same_both f k j (and_left _ _ d) (and_left _ _ e)) (each_meet ts ns ms h (and_right (f == k) _ d) (and_right (f == j) _ e))
  node_joins f ts h a b d e = cc

  module _ (closed : ClosedTest (meets_rule (full_leaves g)) r) where
    meet_by : (t : Term) → Joins (admits g t) → Meet t
    meet_by t p n m d e =
        let a = own_leaf g t n d in
        let b = own_leaf g t m e in
        closed (n, m) (in_any (λ a. list_any (leaf_meets r a) (full_leaves g m)) (full_leaves g n) a.1 (in_any (leaf_meets r a.0) (full_leaves g m) b.1 (p a.0 b.0 a.2 b.2)))

    pub meet_all : (t : Term) → Meet t
    meet_all = ind_terms Meet
        (λ v. meet_by (Var v) (subst Joins (sym (fold-Var _ (admits_step g) v)) var_joins))
        (λ k. meet_by (Int k) (subst Joins (sym (fold-Int _ (admits_step g) k)) (int_joins k)))
        (λ a. meet_by (Atom a) (subst Joins (sym (fold-Atom _ (admits_step g) a)) (atom_joins a)))
        (λ f ts h. meet_by (Node f ts) (subst Joins (sym (fold-Node _ (admits_step g) f ts)) (node_joins f ts h)))

pub belongs_meet : (g : Grammar) → HasGnd g → (t : Term) (n m : ℕ) → belongs g t n ≡ true → belongs g t m ≡ true → Meets g n m
belongs_meet g h t n m d e r closed = meet_all g h r closed t n m d e

-- over the relation itself

pub below_belong : (g : Grammar) → HasGnd g → (t : Term) (n m : ℕ) → Below g n m → Belongs g t n → Belongs g t m
below_belong g h t n m b d = belongs_sound g t m (below_belongs g h t n m b (belongs_complete g d))

pub belong_member : (g : Grammar) (t : Term) (n : ℕ) → Belongs g t n → HasMember g n
belong_member g t n d = belongs_member g t n (belongs_complete g d)

pub belong_meet : (g : Grammar) → HasGnd g → (t : Term) (n m : ℕ) → Belongs g t n → Belongs g t m → Meets g n m
belong_meet g h t n m d e = belongs_meet g h t n m (belongs_complete g d) (belongs_complete g e)

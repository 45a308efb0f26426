-- Lower values give lower outcomes: terms, pushing, unifying, built-ins.
use Rattle.std.proofs.Common.{◌≡◌, ℕ, ◌+◌, Bool, true, false, List, [], ◌∷◌, map, refl, sym, subst}
use Rattle.std.specs.Prelude.{ℤ, ◌==◌, None, Some, if◌then◌else◌}
use Rattle.std.specs.Ordering.{int_eq}
use Rattle.std.specs.List.{AllByRecursion}
use Rattle.term_core.specs.declared.terms.Term.{Term, Var, Int, Atom, Node, out-Term}
use Rattle.term_core.specs.declared.terms.Term.TheOpen as layer
use Rattle.term_core.specs.declared.terms.Term.TheFolds.{fold-Term}
use Rattle.term_core.proofs.TermFolds.{fold-Var, fold-Int, fold-Atom, fold-Node, ind_terms}
use Rattle.prog_data.specs.declared.basic_names.TheConstants.{GND_TYPE, INT_TYPE, ATM_TYPE}
use Rattle.prog_data.specs.declared.goals.Builtin.{Builtin as BuiltinName}
use Rattle.prog_data.specs.declared.goals.Builtin.TheVariants as builtin
use Rattle.prog_data.specs.Values.{TypeValue}
use Rattle.name_order.specs.Relations.{Order}
use Rattle.type_domain.specs.Values.{Leq, is_set, meet, of_name, of_int, of_atom}
use Rattle.type_domain.specs.Laws.{LeqEach, AreOrdered, AreMonotone}
use Rattle.goal_transfer.specs.Transfer.{Values, Known, then_known, known_where, set_value, in_turn, term_value_step, term_value, push_parts, push_step, push, push_each, Unifier, push_both, int_with, atom_with, unify_parts, node_with, unifier_step, unify_values, ground_step, ground, compare_values, builtin_effect}
use Rattle.goal_transfer.specs.Lower.{AllLeq, KnownLeq}

pub then_leq : (a b : Known) (f g : Values → Known) → KnownLeq a b → ((vs ws : Values) → AllLeq vs ws → KnownLeq (f vs) (g ws)) → KnownLeq (then_known a f) (then_known b g)
then_leq None b f g l h = tt
then_leq (Some vs) None f g l h = absurd l
then_leq (Some vs) (Some ws) f g l h = h vs ws l

pub where_leq : (a b : Bool) (vs ws : Values) → (a ≡ true → b ≡ true) → AllLeq vs ws → KnownLeq (known_where a vs) (known_where b ws)
where_leq false b vs ws h l = tt
where_leq true b vs ws h l = subst (λ b. KnownLeq (Some vs) (known_where b ws)) (sym (h refl)) l

pub set_is : (a b : TypeValue) → Leq a b → is_set a ≡ true → is_set b ≡ true
set_is None b l e = cc
set_is (Some p) None l e = absurd l
set_is (Some p) (Some q) l e = refl

moved : (a b c d : TypeValue) → a ≡ c → b ≡ d → Leq c d → Leq a b
moved a b c d e f l = subst (λ x. Leq x b) (sym e) (subst (λ y. Leq c y) (sym f) l)

set_leq : (vs ws : Values) (v : ℕ) (x y : TypeValue) → AllLeq vs ws → Leq x y → KnownLeq (set_value vs v x) (set_value ws v y)
set_leq vs ws v None y a l = tt
set_leq vs ws v (Some p) None a l = absurd l
set_leq vs ws v (Some p) (Some q) a l = λ u. by_test (v == u) u
  where
    by_test : (b : Bool) (u : ℕ) → Leq (if b then Some p else vs u) (if b then Some q else ws u)
    by_test true u = l
    by_test false u = a u

module _ (o : Order) (ordered : AreOrdered o) (mono : AreMonotone o) where
  each_leq : (vs ws : Values) (ts : List Term) → AllByRecursion (λ t. Leq (term_value o vs t) (term_value o ws t)) ts → LeqEach (map (term_value o vs) ts) (map (term_value o ws) ts)
  each_leq vs ws [] h = tt
  each_leq vs ws (t ∷ ts) h = (h.0, each_leq vs ws ts h.1)

  -- a term's value
  pub value_leq : (vs ws : Values) → AllLeq vs ws → (t : Term) → Leq (term_value o vs t) (term_value o ws t)
  value_leq vs ws a = ind_terms (λ t. Leq (term_value o vs t) (term_value o ws t))
      (λ v. moved _ _ _ _ (fold-Var _ (term_value_step o vs) v) (fold-Var _ (term_value_step o ws) v) (a v))
      (λ k. moved _ _ _ _ (fold-Int _ (term_value_step o vs) k) (fold-Int _ (term_value_step o ws) k) (ordered.reflexive (of_int o k)))
      (λ c. moved _ _ _ _ (fold-Atom _ (term_value_step o vs) c) (fold-Atom _ (term_value_step o ws) c) (ordered.reflexive (of_atom o c)))
      (λ f ts h. moved _ _ _ _ (fold-Node _ (term_value_step o vs) f ts) (fold-Node _ (term_value_step o ws) f ts) (mono.build f _ _ (each_leq vs ws ts h)))

  pub values_leq : (vs ws : Values) → AllLeq vs ws → (ts : List Term) → LeqEach (map (term_value o vs) ts) (map (term_value o ws) ts)
  values_leq vs ws a [] = tt
  values_leq vs ws a (t ∷ ts) = (value_leq vs ws a t, values_leq vs ws a ts)

  meet_leq : (a b c d : TypeValue) → Leq a c → Leq b d → Leq (meet o a b) (meet o c d)
  meet_leq = mono.meet

  constant_leq : (c w x : TypeValue) (vs ws : Values) → Leq w x → AllLeq vs ws → KnownLeq (known_where (is_set (meet o c w)) vs) (known_where (is_set (meet o c x)) ws)
  constant_leq c w x vs ws l a = where_leq _ _ vs ws (set_is _ _ (meet_leq c w c x (ordered.reflexive c) l)) a

  -- pushing a value into a term
  abbrev pub PushesLower : Term → Type 0
  PushesLower t = (w x : TypeValue) (vs ws : Values) → Leq w x → AllLeq vs ws → KnownLeq (push o t w vs) (push o t x ws)

  at_push : (t : Term) (go : TypeValue → Values → Known) → push o t ≡ go → ((w x : TypeValue) (vs ws : Values) → Leq w x → AllLeq vs ws → KnownLeq (go w vs) (go x ws)) → PushesLower t
  at_push t go e h w x vs ws l a = subst (λ p. KnownLeq (p w vs) (p x ws)) (sym e) (h w x vs ws l a)

  parts_leq : (w x : TypeValue) (f n i : ℕ) (ts : List Term) → Leq w x → AllByRecursion PushesLower ts → (vs ws : Values) → AllLeq vs ws → KnownLeq (push_parts o w f n i (map (push o) ts) vs) (push_parts o x f n i (map (push o) ts) ws)
  parts_leq w x f n i [] l h vs ws a = a
  parts_leq w x f n i (t ∷ ts) l h vs ws a = then_leq _ _ _ _ (h.0 _ _ vs ws (mono.project w x f n i l) a) (parts_leq w x f n (i + 1) ts l h.1)

  pub push_leq : (t : Term) → PushesLower t
  push_leq = ind_terms PushesLower
      (λ v. at_push (Var v) _ (fold-Var _ (push_step o) v) (λ w x vs ws l a. set_leq vs ws v _ _ a (meet_leq _ _ _ _ (a v) l)))
      (λ k. at_push (Int k) _ (fold-Int _ (push_step o) k) (λ w x vs ws l a. constant_leq (of_int o k) w x vs ws l a))
      (λ c. at_push (Atom c) _ (fold-Atom _ (push_step o) c) (λ w x vs ws l a. constant_leq (of_atom o c) w x vs ws l a))
      (λ f ts h. at_push (Node f ts) _ (fold-Node _ (push_step o) f ts) (λ w x vs ws l a. parts_leq w x f _ 0 ts l h vs ws a))

  pub push_each_leq : (ts : List Term) (us xs : List TypeValue) → LeqEach us xs → (vs ws : Values) → AllLeq vs ws → KnownLeq (push_each o ts us vs) (push_each o ts xs ws)
  push_each_leq [] us xs l vs ws a = a
  push_each_leq (t ∷ ts) [] [] l vs ws a = a
  push_each_leq (t ∷ ts) [] (x ∷ xs) l vs ws a = absurd l
  push_each_leq (t ∷ ts) (u ∷ us) [] l vs ws a = absurd l
  push_each_leq (t ∷ ts) (u ∷ us) (x ∷ xs) l vs ws a = then_leq _ _ _ _ (push_leq t u x vs ws l.0 a) (push_each_leq ts us xs l.1)

  -- unifying
  both_leq : (t u : Term) (vs ws : Values) → AllLeq vs ws → KnownLeq (push_both o t u vs) (push_both o t u ws)
  both_leq t u vs ws a =
      let l = meet_leq _ _ _ _ (value_leq vs ws a t) (value_leq vs ws a u) in
      then_leq _ _ _ _ (push_leq t _ _ vs ws l a) (λ vs' ws' a'. push_leq u _ _ vs' ws' l a')

  abbrev pub UnifiesLower : Term → Type 0
  UnifiesLower t = (u : Term) (vs ws : Values) → AllLeq vs ws → KnownLeq (unify_values o t u vs) (unify_values o t u ws)

  at_unify : (t : Term) (go : Unifier o) → fold-Term (Unifier o) (unifier_step o) t ≡ go → ((u : Term) (vs ws : Values) → AllLeq vs ws → KnownLeq (go.with_term u vs) (go.with_term u ws)) → UnifiesLower t
  at_unify t go e h u vs ws a = subst (λ p. KnownLeq (p.with_term u vs) (p.with_term u ws)) (sym e) (h u vs ws a)

  int_leq : (k : ℤ) (u : Term) (x : layer.Term-F Term) (vs ws : Values) → AllLeq vs ws → KnownLeq (int_with o k u x vs) (int_with o k u x ws)
  int_leq k u (layer.Var v) vs ws a = both_leq (Int k) u vs ws a
  int_leq k u (layer.Int j) vs ws a = where_leq (int_eq k j) (int_eq k j) vs ws (λ e. e) a
  int_leq k u (layer.Atom c) vs ws a = tt
  int_leq k u (layer.Node f us) vs ws a = tt

  atom_leq : (c : ℕ) (u : Term) (x : layer.Term-F Term) (vs ws : Values) → AllLeq vs ws → KnownLeq (atom_with o c u x vs) (atom_with o c u x ws)
  atom_leq c u (layer.Var v) vs ws a = both_leq (Atom c) u vs ws a
  atom_leq c u (layer.Atom d) vs ws a = where_leq (c == d) (c == d) vs ws (λ e. e) a
  atom_leq c u (layer.Int j) vs ws a = tt
  atom_leq c u (layer.Node f us) vs ws a = tt

  each_unifies : (ts us : List Term) → AllByRecursion UnifiesLower ts → (vs ws : Values) → AllLeq vs ws →
      KnownLeq (unify_parts o (map (fold-Term (Unifier o) (unifier_step o)) ts) us vs) (unify_parts o (map (fold-Term (Unifier o) (unifier_step o)) ts) us ws)
  each_unifies [] us h vs ws a = a
  each_unifies (t ∷ ts) [] h vs ws a = a
  each_unifies (t ∷ ts) (u ∷ us) h vs ws a = then_leq _ _ _ _ (h.0 u vs ws a) (each_unifies ts us h.1)

  node_leq : (f : ℕ) (ts : List Term) → AllByRecursion UnifiesLower ts → (u : Term) (x : layer.Term-F Term) (vs ws : Values) → AllLeq vs ws →
      KnownLeq (node_with o f (map (fold-Term (Unifier o) (unifier_step o)) ts) u x vs) (node_with o f (map (fold-Term (Unifier o) (unifier_step o)) ts) u x ws)
  node_leq f ts h u (layer.Var v) vs ws a = both_leq (Node f (map (λ t. t.whole) (map (fold-Term (Unifier o) (unifier_step o)) ts))) u vs ws a
  node_leq f ts h u (layer.Int j) vs ws a = tt
  node_leq f ts h u (layer.Atom c) vs ws a = tt
  node_leq f ts h u (layer.Node k us) vs ws a = then_leq _ _ _ _ (where_leq _ _ vs ws (λ e. e) a) (each_unifies ts us h)

  pub unify_leq : (t : Term) → UnifiesLower t
  unify_leq = ind_terms UnifiesLower
      (λ v. at_unify (Var v) _ (fold-Var _ (unifier_step o) v) (λ u. both_leq (Var v) u))
      (λ k. at_unify (Int k) _ (fold-Int _ (unifier_step o) k) (λ u. int_leq k u (out-Term u)))
      (λ c. at_unify (Atom c) _ (fold-Atom _ (unifier_step o) c) (λ u. atom_leq c u (out-Term u)))
      (λ f ts h. at_unify (Node f ts) _ (fold-Node _ (unifier_step o) f ts) (λ u. node_leq f ts h u (out-Term u)))

  -- the variables of a term meet gnd
  abbrev pub GroundsLower : Term → Type 0
  GroundsLower t = (vs ws : Values) → AllLeq vs ws → KnownLeq (ground o t vs) (ground o t ws)

  at_ground : (t : Term) (go : Values → Known) → ground o t ≡ go → ((vs ws : Values) → AllLeq vs ws → KnownLeq (go vs) (go ws)) → GroundsLower t
  at_ground t go e h vs ws a = subst (λ p. KnownLeq (p vs) (p ws)) (sym e) (h vs ws a)

  turns_leq : (ts : List Term) → AllByRecursion GroundsLower ts → (vs ws : Values) → AllLeq vs ws → KnownLeq (in_turn (map (ground o) ts) vs) (in_turn (map (ground o) ts) ws)
  turns_leq [] h vs ws a = a
  turns_leq (t ∷ ts) h vs ws a = then_leq _ _ _ _ (h.0 vs ws a) (turns_leq ts h.1)

  pub ground_leq : (t : Term) → GroundsLower t
  ground_leq = ind_terms GroundsLower
      (λ v. at_ground (Var v) _ (fold-Var _ (ground_step o) v) (λ vs ws a. set_leq vs ws v _ _ a (meet_leq _ _ _ _ (a v) (ordered.reflexive (of_name o GND_TYPE)))))
      (λ k. at_ground (Int k) _ (fold-Int _ (ground_step o) k) (λ vs ws a. a))
      (λ c. at_ground (Atom c) _ (fold-Atom _ (ground_step o) c) (λ vs ws a. a))
      (λ f ts h. at_ground (Node f ts) _ (fold-Node _ (ground_step o) f ts) (turns_leq ts h))

  compare_leq : (t u : Term) (vs ws : Values) → AllLeq vs ws → KnownLeq (compare_values o t u vs) (compare_values o t u ws)
  compare_leq t u vs ws a = then_leq _ _ _ _ (ground_leq t vs ws a) (ground_leq u)

  push_name_leq : (t : Term) (n : ℕ) (vs ws : Values) → AllLeq vs ws → KnownLeq (push o t (of_name o n) vs) (push o t (of_name o n) ws)
  push_name_leq t n vs ws a = push_leq t _ _ vs ws (ordered.reflexive (of_name o n)) a

  pub builtin_leq : (b : BuiltinName) (t u : Term) (vs ws : Values) → AllLeq vs ws → KnownLeq (builtin_effect o b t u vs) (builtin_effect o b t u ws)
  builtin_leq builtin.Unify t u vs ws a = unify_leq t u vs ws a
  builtin_leq builtin.NotUnify t u vs ws a = a
  builtin_leq builtin.Same t u vs ws a = a
  builtin_leq builtin.NotSame t u vs ws a = a
  builtin_leq builtin.Is t u vs ws a = then_leq _ _ _ _ (ground_leq u vs ws a) (push_name_leq t INT_TYPE)
  builtin_leq builtin.Less t u vs ws a = compare_leq t u vs ws a
  builtin_leq builtin.Greater t u vs ws a = compare_leq t u vs ws a
  builtin_leq builtin.LessEq t u vs ws a = compare_leq t u vs ws a
  builtin_leq builtin.GreaterEq t u vs ws a = compare_leq t u vs ws a
  builtin_leq builtin.NumEq t u vs ws a = compare_leq t u vs ws a
  builtin_leq builtin.NumNotEq t u vs ws a = compare_leq t u vs ws a
  builtin_leq builtin.Integer t u vs ws a = push_name_leq t INT_TYPE vs ws a
  builtin_leq builtin.Atom t u vs ws a = push_name_leq t ATM_TYPE vs ws a
  builtin_leq builtin.Write t u vs ws a = a
  builtin_leq builtin.Writeq t u vs ws a = a
  builtin_leq builtin.Nl t u vs ws a = a
  builtin_leq (builtin.Belongs n) t u vs ws a = push_name_leq t n vs ws a
  builtin_leq builtin.IsVar t u vs ws a = a
  builtin_leq builtin.IsNonvar t u vs ws a = a
  builtin_leq builtin.IsGround t u vs ws a = push_name_leq t GND_TYPE vs ws a

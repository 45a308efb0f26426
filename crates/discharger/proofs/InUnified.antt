-- Unifying terms that have become the same, and grounding a term that has become ground, keeps each variable's term in its value.
use Rattle.std.proofs.Common.{◌≡◌, ℕ, Bool, true, false, ◌&&◌, List, [], ◌∷◌, length, map, refl, ap, sym, ◌∙◌, subst, arith, true≢false}
use Rattle.std.proofs.lemmas.Bool.{and_from}
use Rattle.std.proofs.lemmas.Bool.Decides.{nat_tests, Decides-int_eq}
use Rattle.std.specs.Prelude.{ℤ, ◌==◌}
use Rattle.std.specs.Ordering.{int_eq}
use Rattle.std.specs.List.{list_all, AllByRecursion}
use Rattle.term_core.specs.declared.terms.Term.{Term, Var, Int, Atom, Node, out-Term, roll-Term, roll-out-Term}
use Rattle.term_core.specs.declared.terms.Term.TheOpen as layer
use Rattle.term_core.specs.declared.terms.Term.TheFolds.{fold-Term}
use Rattle.term_core.specs.declared.terms.Term.TheVariants.{rolls-Int, rolls-Atom, rolls-Node, outs-Node}
use Rattle.term_core.specs.Terms.{instance, instance_step, is_ground, is_ground_step}
use Rattle.term_core.proofs.TermFolds.{fold-Var, fold-Int, fold-Atom, fold-Node, ind_terms}
use Rattle.prog_data.specs.declared.basic_names.TheConstants.{GND_TYPE}
use Rattle.prog_data.specs.declared.grammars.Grammar.{Grammar}
use Rattle.name_order.specs.Relations.{order}
use Rattle.type_domain.specs.Values.{of_name}
use Rattle.discharger.specs.ReliedOn.{ReliedOn}
use Rattle.goal_transfer.specs.Transfer.{Values, Known, in_turn, Unifier, push_both, int_with, atom_with, unify_parts, node_with, unifier_step, unify_values, ground_step, ground}
use Rattle.discharger.proofs.InValues.{AllIn, KnownIn, then_in, map_length, where_in, in_gnd_name, met, set_in, both_in}

-- a term as a unifier
abbrev unifier : (g : Grammar) → Term → Unifier (order g)
unifier g = fold-Term (Unifier (order g)) (unifier_step (order g))

-- the term in a unifier is the term
whole_is : (g : Grammar) (t : Term) → (unifier g t).whole ≡ t
whole_is g = ind_terms (λ t. (unifier g t).whole ≡ t)
    (λ v. ap (λ u. u.whole) (fold-Var _ (unifier_step (order g)) v)) (λ k. ap (λ u. u.whole) (fold-Int _ (unifier_step (order g)) k)) (λ c. ap (λ u. u.whole) (fold-Atom _ (unifier_step (order g)) c))
    (λ f ts h. ap (λ u. u.whole) (fold-Node _ (unifier_step (order g)) f ts) ∙ ap (Node f) (each ts h))
  where
    each : (ts : List Term) → AllByRecursion (λ t. (unifier g t).whole ≡ t) ts → map (λ t. t.whole) (map (unifier g) ts) ≡ ts
    each [] h = refl
    each (t ∷ ts) h = ap (λ x. x ∷ map (λ t. t.whole) (map (unifier g) ts)) h.0 ∙ ap (λ xs. t ∷ xs) (each ts h.1)

wholes_are : (g : Grammar) (ts : List Term) → map (λ t. t.whole) (map (unifier g) ts) ≡ ts
wholes_are g [] = refl
wholes_are g (t ∷ ts) = ap (λ x. x ∷ map (λ t. t.whole) (map (unifier g) ts)) (whole_is g t) ∙ ap (λ xs. t ∷ xs) (wholes_are g ts)

module _ (g : Grammar) (relied : ReliedOn g) (value : ℕ → Term) where
  -- what is claimed of a term
  abbrev pub Unifies : Term → Type 0
  Unifies t = (u : Term) (vs : Values) → AllIn g value vs → instance value t ≡ instance value u → KnownIn g value (unify_values (order g) t u vs)

  at_unify : (t : Term) (go : Unifier (order g)) → unifier g t ≡ go → ((u : Term) (vs : Values) → AllIn g value vs → instance value t ≡ instance value u → KnownIn g value (go.with_term u vs)) → Unifies t
  at_unify t go e h u vs a same = subst (λ x. KnownIn g value (x.with_term u vs)) (sym e) (h u vs a same)

  -- what the other term's layer says
  shown_int : (u : Term) (j : ℤ) → roll-Term (layer.Int j) ≡ u → instance value u ≡ Int j
  shown_int u j r = ap (instance value) (sym r ∙ rolls-Int j) ∙ fold-Int _ (instance_step value) j

  shown_atom : (u : Term) (c : ℕ) → roll-Term (layer.Atom c) ≡ u → instance value u ≡ Atom c
  shown_atom u c r = ap (instance value) (sym r ∙ rolls-Atom c) ∙ fold-Atom _ (instance_step value) c

  shown_node : (u : Term) (f : ℕ) (us : List Term) → roll-Term (layer.Node f us) ≡ u → instance value u ≡ Node f (map (instance value) us)
  shown_node u f us r = ap (instance value) (sym r ∙ rolls-Node f us) ∙ fold-Node _ (instance_step value) f us

  int_in : (k : ℤ) → Unifies (Int k)
  int_in k = at_unify (Int k) _ (fold-Int _ (unifier_step (order g)) k) (λ u vs a e. by_layer u vs a e (sym (fold-Int _ (instance_step value) k) ∙ e) (out-Term u) (roll-out-Term u))
    where
      by_layer : (u : Term) (vs : Values) → AllIn g value vs → instance value (Int k) ≡ instance value u → Int k ≡ instance value u → (x : layer.Term-F Term) → roll-Term x ≡ u → KnownIn g value (int_with (order g) k u x vs)
      by_layer u vs a e same (layer.Var w) r = both_in g relied value (Int k) u vs a e
      by_layer u vs a e same (layer.Int j) r = where_in g value (int_eq k j) vs ((Decides-int_eq k j).1 (let h = same ∙ shown_int u j r in cc)) a
      by_layer u vs a e same (layer.Atom c) r = absurd (let h = same ∙ shown_atom u c r in cc)
      by_layer u vs a e same (layer.Node f us) r = absurd (let h = same ∙ shown_node u f us r in cc)

  atom_in : (c : ℕ) → Unifies (Atom c)
  atom_in c = at_unify (Atom c) _ (fold-Atom _ (unifier_step (order g)) c) (λ u vs a e. by_layer u vs a e (sym (fold-Atom _ (instance_step value) c) ∙ e) (out-Term u) (roll-out-Term u))
    where
      by_layer : (u : Term) (vs : Values) → AllIn g value vs → instance value (Atom c) ≡ instance value u → Atom c ≡ instance value u → (x : layer.Term-F Term) → roll-Term x ≡ u → KnownIn g value (atom_with (order g) c u x vs)
      by_layer u vs a e same (layer.Var w) r = both_in g relied value (Atom c) u vs a e
      by_layer u vs a e same (layer.Atom d) r = where_in g value (c == d) vs (let h = same ∙ shown_atom u d r in let name : c ≡ d = cc in grind (arith, nat_tests, name)) a
      by_layer u vs a e same (layer.Int j) r = absurd (let h = same ∙ shown_int u j r in cc)
      by_layer u vs a e same (layer.Node f us) r = absurd (let h = same ∙ shown_node u f us r in cc)

  parts_unify : (ts us : List Term) → AllByRecursion Unifies ts → map (instance value) ts ≡ map (instance value) us → (vs : Values) → AllIn g value vs → KnownIn g value (unify_parts (order g) (map (unifier g) ts) us vs)
  parts_unify [] us h e vs a = a
  parts_unify (t ∷ ts) [] h e vs a = a
  parts_unify (t ∷ ts) (u ∷ us) h e vs a = then_in g value _ _ (h.0 u vs a cc) (parts_unify ts us h.1 cc)

  node_in : (f : ℕ) (ts : List Term) → AllByRecursion Unifies ts → Unifies (Node f ts)
  node_in f ts hs = at_unify (Node f ts) _ (fold-Node _ (unifier_step (order g)) f ts) (λ u vs a e. by_layer u vs a e (sym (fold-Node _ (instance_step value) f ts) ∙ e) (out-Term u) (roll-out-Term u))
    where
      by_layer : (u : Term) (vs : Values) → AllIn g value vs → instance value (Node f ts) ≡ instance value u → Node f (map (instance value) ts) ≡ instance value u → (x : layer.Term-F Term) → roll-Term x ≡ u → KnownIn g value (node_with (order g) f (map (unifier g) ts) u x vs)
      by_layer u vs a e same (layer.Var w) r = subst (λ xs. KnownIn g value (push_both (order g) (Node f xs) u vs)) (sym (wholes_are g ts)) (both_in g relied value (Node f ts) u vs a e)
      by_layer u vs a e same (layer.Int j) r = absurd (let h = same ∙ shown_int u j r in cc)
      by_layer u vs a e same (layer.Atom c) r = absurd (let h = same ∙ shown_atom u c r in cc)
      by_layer u vs a e same (layer.Node h us) r =
          let both = sym (outs-Node f (map (instance value) ts)) ∙ ap out-Term (same ∙ shown_node u h us r) ∙ outs-Node h (map (instance value) us) in
          let name : f ≡ h = cc in
          let args : map (instance value) ts ≡ map (instance value) us = cc in
          let counts : length (map (unifier g) ts) ≡ length us = map_length (unifier g) ts ∙ sym (map_length (instance value) ts) ∙ ap length args ∙ map_length (instance value) us in
          let named : (f == h) ≡ true = grind (arith, nat_tests, name) in
          let counted : (length (map (unifier g) ts) == length us) ≡ true = grind (arith, nat_tests, counts) in
          then_in g value _ _ (where_in g value _ vs (and_from (f == h) (length (map (unifier g) ts) == length us) named counted) a) (parts_unify ts us hs args)

  -- unifying terms that have become the same
  pub unify_in : (t : Term) → Unifies t
  unify_in = ind_terms Unifies (λ v. at_unify (Var v) _ (fold-Var _ (unifier_step (order g)) v) (λ u vs a e. both_in g relied value (Var v) u vs a e)) int_in atom_in node_in

  -- grounding

  abbrev pub Grounds : Term → Type 0
  Grounds t = is_ground (instance value t) ≡ true → (vs : Values) → AllIn g value vs → KnownIn g value (ground (order g) t vs)

  at_ground : (t : Term) (go : Values → Known) → ground (order g) t ≡ go → (is_ground (instance value t) ≡ true → (vs : Values) → AllIn g value vs → KnownIn g value (go vs)) → Grounds t
  at_ground t go e h is vs a = subst (λ p. KnownIn g value (p vs)) (sym e) (h is vs a)

  both : (a b : Bool) → (a && b) ≡ true → (a ≡ true) × (b ≡ true)
  both true b e = (refl, e)
  both false b e = absurd (true≢false (sym e))

  each_ground : (ts : List Term) → AllByRecursion Grounds ts → list_all (λ b. b) (map is_ground (map (instance value) ts)) ≡ true → (vs : Values) → AllIn g value vs → KnownIn g value (in_turn (map (ground (order g)) ts) vs)
  each_ground [] h e vs a = a
  each_ground (t ∷ ts) h e vs a = let b = both (is_ground (instance value t)) _ e in then_in g value _ _ (h.0 b.0 vs a) (each_ground ts h.1 b.1)

  -- the variables of a term that has become ground meet gnd
  pub ground_in : (t : Term) → Grounds t
  ground_in = ind_terms Grounds
      (λ v. at_ground (Var v) _ (fold-Var _ (ground_step (order g)) v) (λ e vs a. set_in g relied value vs v _ a (met g relied (value v) (vs v) (of_name (order g) GND_TYPE) (a v) (in_gnd_name g relied (value v) (sym (ap is_ground (fold-Var _ (instance_step value) v)) ∙ e)))))
      (λ k. at_ground (Int k) _ (fold-Int _ (ground_step (order g)) k) (λ e vs a. a))
      (λ c. at_ground (Atom c) _ (fold-Atom _ (ground_step (order g)) c) (λ e vs a. a))
      (λ f ts h. at_ground (Node f ts) _ (fold-Node _ (ground_step (order g)) f ts) (λ e vs a.
      each_ground ts h (sym (fold-Node _ is_ground_step f (map (instance value) ts)) ∙ sym (ap is_ground (fold-Node _ (instance_step value) f ts)) ∙ e) vs a))

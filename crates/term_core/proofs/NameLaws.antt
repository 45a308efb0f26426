-- What does not look at the names of variables.
use Rattle.std.proofs.Common.{◌≡◌, ℕ, ◌+◌, Bool, true, false, ◌||◌, ◌⊎◌, inl, inr, List, [], ◌∷◌, ◌++◌, map, refl, sym, ap, ◌∙◌, subst, true≢false}
use Rattle.std.specs.Prelude.{if◌then◌else◌, nat_eq, flat_map, not}
use Rattle.std.specs.List.{list_any, AllByRecursion, position_or_len}
use Rattle.std.proofs.lemmas.Bool.{eq-eqb, ne_eqb, cases_eq}
use Rattle.std.proofs.lemmas.List.{map-append}
use Rattle.term_core.specs.declared.terms.Term.{Term, Var, Int, Atom, Node, out-Term}
use Rattle.term_core.specs.declared.terms.Term.TheVariants.{outs-Var}
use Rattle.term_core.specs.declared.terms.Term.TheOpen as layer
use Rattle.term_core.specs.declared.terms.Term.TheFolds.{fold-Term}
use Rattle.term_core.specs.Terms.{instance, instance_step, occurrences, occurrences_step, with_new, with_all_new, vars, numbered}
use Rattle.term_core.proofs.TermFolds.{fold-Var, fold-Int, fold-Atom, fold-Node, ind_terms, map_same}
use Rattle.term_core.proofs.TermLaws.{instance-Var, instance-Node, instance-instance, instance_agrees, map_map}
use Rattle.term_core.proofs.Counting.{occurs_found}
use Rattle.term_core.proofs.VariantLaws.{node_inside, var_inside}
use Rattle.term_core.proofs.KindLaws.{Alike, both_var, both_int, both_atom, both_node, alike}

abbrev is_node : layer.Term-F Bool → Bool
is_node (layer.Node f bs) = true
is_node other = false

not_node : (f : ℕ) (ts : List Term) (v : ℕ) → Node f ts ≡ Var v → ⊥
not_node f ts v e = apart (sym (fold-Node Bool is_node f ts) ∙ ap (fold-Term Bool is_node) e ∙ fold-Var Bool is_node v)
  where
    apart : is_node (layer.Node f (map (fold-Term Bool is_node) ts)) ≡ is_node (layer.Var v) → ⊥
    apart e = cc

module _ (there back : ℕ → Term) where
  -- the term comes back from its instance
  abbrev pub Returns : Term → Type 0
  Returns t = instance back (instance there t) ≡ t

  -- the variable that stands for a variable
  pub record Renamed (v : ℕ) : Type 0 where
    pub name : ℕ
    pub is_there : there v ≡ Var name
    pub is_back : back name ≡ Var v

  pub returns_var : (v : ℕ) → Returns (Var v) → Renamed v
  returns_var v e = by_kind (Var v) (there v) v (alike there back (Var v) (there v) (instance-Var there v) (sym (ap (instance back) (instance-Var there v)) ∙ e)) refl where
    by_kind : (t t' : Term) (v : ℕ) → Alike there back t t' → t ≡ Var v → Renamed v
    by_kind t t' v (both_var w w' e b) same = subst Renamed (var_inside w v same) (record { name = w'; is_there = e; is_back = b })
    by_kind t t' v (both_int n) same = absurd (apart same) where
      apart : Int n ≡ Var v → ⊥
      apart e = cc
    by_kind t t' v (both_atom a) same = absurd (apart same) where
      apart : Atom a ≡ Var v → ⊥
      apart e = cc
    by_kind t t' v (both_node f ts ts' e b) same = absurd (not_node f ts v same)

  pub returns_parts : (f : ℕ) (ts : List Term) → Returns (Node f ts) → AllByRecursion Returns ts
  returns_parts f ts e = each ts (node_inside f f _ ts (sym (ap (instance back) (instance-Node there f ts) ∙ instance-Node back f (map (instance there) ts)) ∙ e)).1 where
    heads : (x y : Term) (xs ys : List Term) → x ∷ xs ≡ y ∷ ys → (x ≡ y) × (xs ≡ ys)
    heads x y xs ys e = (cc, cc)

    each : (ts : List Term) → map (instance back) (map (instance there) ts) ≡ ts → AllByRecursion Returns ts
    each [] e = tt
    each (t ∷ ts) e = let h = heads _ t _ ts e in (h.0, each ts h.1)

  -- a fold that does not look at the names of variables gives the same
  pub blind : (A : Type 0) (step : layer.Term-F A → A) → ((v w : ℕ) → step (layer.Var v) ≡ step (layer.Var w)) → (t : Term) → Returns t → fold-Term A step (instance there t) ≡ fold-Term A step t
  blind A step same = ind_terms (λ t. Returns t → fold-Term A step (instance there t) ≡ fold-Term A step t)
      (λ v e. let r = returns_var v e in ap (fold-Term A step) (instance-Var there v ∙ r.is_there) ∙ fold-Var A step r.name ∙ same r.name v ∙ sym (fold-Var A step v))
      (λ n e. ap (fold-Term A step) (fold-Int Term (instance_step there) n))
      (λ a e. ap (fold-Term A step) (fold-Atom Term (instance_step there) a))
      (λ f ts h e. ap (fold-Term A step) (instance-Node there f ts) ∙ fold-Node A step f (map (instance there) ts)
      ∙ ap (λ as'. step (layer.Node f as')) (map_map (fold-Term A step) (instance there) ts ∙ map_same _ _ ts (each ts h (returns_parts f ts e))) ∙ sym (fold-Node A step f ts))
    where
      each : (ts : List Term) → AllByRecursion (λ t. Returns t → fold-Term A step (instance there t) ≡ fold-Term A step t) ts → AllByRecursion Returns ts → AllByRecursion (λ t. fold-Term A step (instance there t) ≡ fold-Term A step t) ts
      each [] h r = tt
      each (t ∷ ts) h r = (h.0 r.0, each ts h.1 r.1)

  -- the name of the variable that stands for a variable
  abbrev name_at : layer.Term-F Term → ℕ
  name_at (layer.Var w) = w
  name_at other = 0

  abbrev name : ℕ → ℕ
  name v = name_at (out-Term (there v))

  -- that name leads there and back
  abbrev Good : ℕ → Type 0
  Good v = (there v ≡ Var (name v)) × (back (name v) ≡ Var v)

  good : (v : ℕ) → Returns (Var v) → Good v
  good v e =
      let r = returns_var v e in
      let is_name : name v ≡ r.name = ap (λ t. name_at (out-Term t)) r.is_there ∙ ap name_at (outs-Var r.name) in
      (r.is_there ∙ ap Var (sym is_name), ap back is_name ∙ r.is_back)

  all_joined : (xs ys : List ℕ) → AllByRecursion Good xs → AllByRecursion Good ys → AllByRecursion Good (xs ++ ys)
  all_joined [] ys h k = k
  all_joined (x ∷ xs) ys h k = (h.0, all_joined xs ys h.1 k)

  -- the variables of the instance are the names of those of the term
  abbrev Names : Term → Type 0
  Names t = (occurrences (instance there t) ≡ map name (occurrences t)) × AllByRecursion Good (occurrences t)

  names : (t : Term) → Returns t → Names t
  names = ind_terms (λ t. Returns t → Names t)
      (λ v e. (
        ap occurrences (instance-Var there v ∙ (good v e).0) ∙ fold-Var (List ℕ) occurrences_step (name v) ∙ ap (map name) (sym (fold-Var (List ℕ) occurrences_step v)),
        subst (AllByRecursion Good) (sym (fold-Var (List ℕ) occurrences_step v)) (good v e, tt),
      ))
      (λ n e. (
        ap occurrences (fold-Int Term (instance_step there) n) ∙ fold-Int (List ℕ) occurrences_step n ∙ ap (map name) (sym (fold-Int (List ℕ) occurrences_step n)),
        subst (AllByRecursion Good) (sym (fold-Int (List ℕ) occurrences_step n)) tt,
      ))
      (λ a e. (
        ap occurrences (fold-Atom Term (instance_step there) a) ∙ fold-Atom (List ℕ) occurrences_step a ∙ ap (map name) (sym (fold-Atom (List ℕ) occurrences_step a)),
        subst (AllByRecursion Good) (sym (fold-Atom (List ℕ) occurrences_step a)) tt,
      ))
      (λ f ts h e.
      let parts = each ts h (returns_parts f ts e) in (
        ap occurrences (instance-Node there f ts) ∙ fold-Node (List ℕ) occurrences_step f (map (instance there) ts) ∙ parts.0 ∙ ap (map name) (sym (fold-Node (List ℕ) occurrences_step f ts)),
        subst (AllByRecursion Good) (sym (fold-Node (List ℕ) occurrences_step f ts)) parts.1,
      ))
    where
      each : (ts : List Term) → AllByRecursion (λ t. Returns t → Names t) ts → AllByRecursion Returns ts →
          (flat_map (λ vs. vs) (map occurrences (map (instance there) ts)) ≡ map name (flat_map (λ vs. vs) (map occurrences ts))) × AllByRecursion Good (flat_map (λ vs. vs) (map occurrences ts))
      each [] h r = (refl, tt)
      each (t ∷ ts) h r =
          let first = h.0 r.0 in
          let rest = each ts h.1 r.1 in
          ((λ i. first.0 i ++ rest.0 i) ∙ sym (map-append name (occurrences t) (flat_map (λ vs. vs) (map occurrences ts))), all_joined (occurrences t) _ first.1 rest.1)

  eq_name : (v w : ℕ) → Good v → Good w → nat_eq (name v) (name w) ≡ nat_eq v w
  eq_name v w g h = by_place (cases_eq v w) where
    by_place : (v ≡ w) ⊎ (v ≡ w → ⊥) → nat_eq (name v) (name w) ≡ nat_eq v w
    by_place (inl e) = eq-eqb (name v) (name w) (ap name e) ∙ sym (eq-eqb v w e)
    by_place (inr ne) = ne_eqb (name v) (name w) (λ same. ne (var_inside v w (sym g.1 ∙ ap back same ∙ h.1))) ∙ sym (ne_eqb v w ne)

  any_name : (v : ℕ) → Good v → (seen : List ℕ) → AllByRecursion Good seen → list_any (nat_eq (name v)) (map name seen) ≡ list_any (nat_eq v) seen
  any_name v g [] h = refl
  any_name v g (w ∷ seen) h = λ i. eq_name v w g h.0 i || any_name v g seen h.1 i

  first_name : (v : ℕ) → Good v → (seen : List ℕ) → AllByRecursion Good seen → position_or_len (nat_eq (name v)) (map name seen) ≡ position_or_len (nat_eq v) seen
  first_name v g [] h = refl
  first_name v g (w ∷ seen) h = λ i. if not (eq_name v w g h.0 i) then 1 + first_name v g seen h.1 i else 0

  new_name : (seen : List ℕ) (v : ℕ) → AllByRecursion Good seen → Good v → (with_new (map name seen) (name v) ≡ map name (with_new seen v)) × AllByRecursion Good (with_new seen v)
  new_name seen v h g = (ap (λ b. if b then map name seen else map name seen ++ name v ∷ []) (any_name v g seen h) ∙ either (list_any (nat_eq v) seen), kept (list_any (nat_eq v) seen)) where
    either : (b : Bool) → (if b then map name seen else map name seen ++ name v ∷ []) ≡ map name (if b then seen else seen ++ v ∷ [])
    either true = refl
    either false = sym (map-append name seen (v ∷ []))

    kept : (b : Bool) → AllByRecursion Good (if b then seen else seen ++ v ∷ [])
    kept true = h
    kept false = all_joined seen (v ∷ []) h (g, tt)

  new_names : (seen vs : List ℕ) → AllByRecursion Good seen → AllByRecursion Good vs → (with_all_new (map name seen) (map name vs) ≡ map name (with_all_new seen vs)) × AllByRecursion Good (with_all_new seen vs)
  new_names seen [] h g = (refl, h)
  new_names seen (v ∷ vs) h g =
      let one = new_name seen v h g.0 in
      let rest = new_names (with_new seen v) vs one.1 g.1 in
      (ap (λ s. with_all_new s (map name vs)) one.0 ∙ rest.0, rest.1)

  found_good : (v : ℕ) (vs : List ℕ) → AllByRecursion Good vs → list_any (nat_eq v) vs ≡ true → Good v
  found_good v [] h e = absurd (true≢false (sym e))
  found_good v (w ∷ vs) h e = by_place (found_good v vs h.1) (cases_eq v w) where
    by_place : (list_any (nat_eq v) vs ≡ true → Good v) → (v ≡ w) ⊎ (v ≡ w → ⊥) → Good v
    by_place later (inl same) = subst Good (sym same) h.0
    by_place later (inr ne) = later (ap (λ b. b || list_any (nat_eq v) vs) (sym (ne_eqb v w ne)) ∙ e)

  -- numbered by first appearance, the two are the same
  pub numbered_same : (t : Term) → Returns t → numbered (instance there t) ≡ numbered t
  numbered_same t e =
      let n = names t e in
      let new = new_names [] (occurrences t) tt n.1 in
      let is_vars : vars (instance there t) ≡ map name (vars t) = ap (with_all_new []) n.0 ∙ new.0 in
      let number : ℕ → Term = λ v. Var (position_or_len (nat_eq v) (vars (instance there t)) + 1) in
      instance-instance number there t
      ∙ instance_agrees (λ v. instance number (there v)) (λ v. Var (position_or_len (nat_eq v) (vars t) + 1)) t (λ v o.
      let g = found_good v (occurrences t) n.1 (occurs_found v t o) in
      ap (instance number) g.0 ∙ instance-Var number (name v) ∙ ap (λ vs. Var (position_or_len (nat_eq (name v)) vs + 1)) is_vars ∙ ap (λ k. Var (k + 1)) (first_name v g (vars t) new.1))

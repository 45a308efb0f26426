-- Where each variable's term is in its value, so are terms, and pushing, unifying and grounding keep that.
use Rattle.std.proofs.Common.{◌≡◌, ℕ, zero, suc, ◌+◌, ◌<◌, Bool, true, false, List, [], ◌∷◌, length, map, take, refl, ap, sym, ◌∙◌, subst, arith}
use Rattle.std.proofs.lemmas.Bool.Decides.{nat_tests}
use Rattle.std.specs.Prelude.{ℤ, ◌==◌, slice_index_or, None, Some, if◌then◌else◌, Contains}
use Rattle.std.specs.List.{AllByRecursion}
use Rattle.term_core.specs.declared.terms.Term.{Term, Var, Int, Atom, Node}
use Rattle.term_core.specs.Terms.{instance, instance_step, is_ground}
use Rattle.term_core.proofs.TermFolds.{fold-Var, fold-Int, fold-Atom, fold-Node, ind_terms}
use Rattle.prog_data.specs.declared.basic_names.TheConstants.{GND_TYPE, INT_TYPE, ATM_TYPE}
use Rattle.prog_data.specs.declared.grammars.Basic.{Basic}
use Rattle.prog_data.specs.declared.grammars.Basic.TheVariants as basic
use Rattle.prog_data.specs.declared.grammars.Rule.TheVariants.{Basic as BasicRule}
use Rattle.prog_data.specs.declared.grammars.Grammar.{Grammar}
use Rattle.prog_data.specs.Membership.{rules_of, IsBasic, Belongs, by_basic}
use Rattle.prog_data.specs.Values.{TypeValue, IsIn, AreIn}
use Rattle.prog_data.proofs.Leaves.{here}
use Rattle.prog_data.proofs.MembershipLaws.{in_contains}
use Rattle.name_order.specs.Relations.{order}
use Rattle.type_domain.specs.Values.{term_name, is_set, meet, of_name, of_int, of_atom, project}
use Rattle.discharger.specs.ReliedOn.{ReliedOn}
use Rattle.goal_transfer.specs.Transfer.{Values, Known, then_known, known_where, set_value, term_value_step, term_value, push_parts, push_step, push, push_each, push_both}

-- each variable's term is in its value
abbrev pub AllIn : Grammar → (ℕ → Term) → Values → Type 0
AllIn g value vs = (v : ℕ) → IsIn g (value v) (vs v)

-- and it is not none
abbrev pub KnownIn : Grammar → (ℕ → Term) → Known → Type 0
KnownIn g value None = ⊥
KnownIn g value (Some vs) = AllIn g value vs

pub then_in : (g : Grammar) (value : ℕ → Term) (k : Known) (go : Values → Known) → KnownIn g value k → ((vs : Values) → AllIn g value vs → KnownIn g value (go vs)) → KnownIn g value (then_known k go)
then_in g value None go h rest = absurd h
then_in g value (Some vs) go h rest = rest vs h

pub in_set : (g : Grammar) (t : Term) (v : TypeValue) → IsIn g t v → is_set v ≡ true
in_set g t None h = absurd h
in_set g t (Some p) h = refl

pub map_length : {A B : Type 0} (f : A → B) (xs : List A) → length (map f xs) ≡ length xs
map_length f [] = refl
map_length f (x ∷ xs) = ap suc (map_length f xs)

moved : (g : Grammar) (a b : Term) (v w : TypeValue) → a ≡ b → v ≡ w → IsIn g b w → IsIn g a v
moved g a b v w e f h = subst (λ x. IsIn g x v) (sym e) (subst (IsIn g b) (sym f) h)

pub where_in : (g : Grammar) (value : ℕ → Term) (b : Bool) (vs : Values) → b ≡ true → AllIn g value vs → KnownIn g value (known_where b vs)
where_in g value b vs e a = subst (λ b. KnownIn g value (known_where b vs)) (sym e) a

take_at : {A : Type 0} (xs : List A) (k n : ℕ) (d : A) → n < k → slice_index_or (take k xs) n d ≡ slice_index_or xs n d
take_at xs zero n d lt = absurd (omega (arith, lt))
take_at [] (suc k) n d lt = refl
take_at (x ∷ xs) (suc k) zero d lt = refl
take_at (x ∷ xs) (suc k) (suc n) d lt = take_at xs k n d (omega (arith, lt))

module _ (g : Grammar) (relied : ReliedOn g) where
  -- a name with one basic rule has the terms of that rule
  belongs_basic : (n : ℕ) (b : Basic) (t : Term) → rules_of g n ≡ BasicRule b ∷ [] → IsBasic b t → Belongs g t n
  belongs_basic n b t e is = by_basic b (subst (λ rs. Contains rs (BasicRule b)) (sym e) (in_contains (BasicRule b ∷ []) here)) is

  basic_rules : (n : ℕ) → n < 10 → slice_index_or (take 10 g.rules) n [] ≡ rules_of g n
  basic_rules n lt = take_at g.rules 10 n [] lt

  int_rules : rules_of g 1 ≡ BasicRule basic.Int ∷ []
  int_rules = sym (basic_rules 1 (omega arith)) ∙ ap (λ rs. slice_index_or rs 1 []) relied.grammar.basic

  atm_rules : rules_of g 4 ≡ BasicRule basic.Atm ∷ []
  atm_rules = sym (basic_rules 4 (omega arith)) ∙ ap (λ rs. slice_index_or rs 4 []) relied.grammar.basic

  term_rules : rules_of g 0 ≡ BasicRule basic.Term ∷ []
  term_rules = sym (basic_rules 0 (omega arith)) ∙ ap (λ rs. slice_index_or rs 0 []) relied.grammar.basic

  -- each term is in the value of term, an integer in that of int, an atom in that of atm, a ground term in that of gnd
  pub in_term : (t : Term) → IsIn g t (of_name (order g) term_name)
  in_term t = relied.keeps.name t 0 (belongs_basic 0 basic.Term t term_rules tt)

  pub in_int_name : (n : ℤ) → IsIn g (Int n) (of_name (order g) INT_TYPE)
  in_int_name n = relied.keeps.name (Int n) 1 (belongs_basic 1 basic.Int (Int n) int_rules (n, refl))

  pub in_atm_name : (a : ℕ) → IsIn g (Atom a) (of_name (order g) ATM_TYPE)
  in_atm_name a = relied.keeps.name (Atom a) 4 (belongs_basic 4 basic.Atm (Atom a) atm_rules (a, refl))

  pub belongs_gnd : (t : Term) → is_ground t ≡ true → Belongs g t GND_TYPE
  belongs_gnd t e = belongs_basic GND_TYPE basic.Gnd t relied.gnd e

  pub in_gnd_name : (t : Term) → is_ground t ≡ true → IsIn g t (of_name (order g) GND_TYPE)
  in_gnd_name t e = relied.keeps.name t GND_TYPE (belongs_gnd t e)

  pub met : (t : Term) (a b : TypeValue) → IsIn g t a → IsIn g t b → IsIn g t (meet (order g) a b)
  met = relied.keeps.meet

  module _ (value : ℕ → Term) where
    are_in : (vs : Values) (ts : List Term) → AllByRecursion (λ t. IsIn g (instance value t) (term_value (order g) vs t)) ts → AreIn g (map (instance value) ts) (map (term_value (order g) vs) ts)
    are_in vs [] h = tt
    are_in vs (t ∷ ts) h = (h.0, are_in vs ts h.1)

    -- a term is in its value
    pub in_value : (vs : Values) → AllIn g value vs → (t : Term) → IsIn g (instance value t) (term_value (order g) vs t)
    in_value vs a = ind_terms (λ t. IsIn g (instance value t) (term_value (order g) vs t))
        (λ v. moved g _ _ _ _ (fold-Var _ (instance_step value) v) (fold-Var _ (term_value_step (order g) vs) v) (a v))
        (λ k. moved g _ _ _ _ (fold-Int _ (instance_step value) k) (fold-Int _ (term_value_step (order g) vs) k) (relied.keeps.int k))
        (λ c. moved g _ _ _ _ (fold-Atom _ (instance_step value) c) (fold-Atom _ (term_value_step (order g) vs) c) (relied.keeps.atom c))
        (λ f ts h. moved g _ _ _ _ (fold-Node _ (instance_step value) f ts) (fold-Node _ (term_value_step (order g) vs) f ts)
        (relied.keeps.build f (map (instance value) ts) (map (term_value (order g) vs) ts) (are_in vs ts h)))

    pub in_values : (vs : Values) → AllIn g value vs → (ts : List Term) → AreIn g (map (instance value) ts) (map (term_value (order g) vs) ts)
    in_values vs a [] = tt
    in_values vs a (t ∷ ts) = (in_value vs a t, in_values vs a ts)

    pub set_in : (vs : Values) (v : ℕ) (x : TypeValue) → AllIn g value vs → IsIn g (value v) x → KnownIn g value (set_value vs v x)
    set_in vs v None a h = absurd h
    set_in vs v (Some p) a h = λ u. by_test u (v == u) refl
      where
        by_test : (u : ℕ) (b : Bool) → (v == u) ≡ b → IsIn g (value u) (if b then Some p else vs u)
        by_test u true e = let same : v ≡ u = grind (arith, nat_tests, e) in subst (λ w. IsIn g (value w) (Some p)) same h
        by_test u false e = a u

    -- what is claimed of a term
    abbrev pub Pushes : Term → Type 0
    Pushes t = (w : TypeValue) (vs : Values) → AllIn g value vs → IsIn g (instance value t) w → KnownIn g value (push (order g) t w vs)

    abbrev pub PartsIn : TypeValue → ℕ → ℕ → ℕ → List Term → Type 0
    PartsIn w f n i [] = Unit {0}
    PartsIn w f n i (t ∷ ts) = IsIn g (instance value t) (project (order g) w f n i) × PartsIn w f n (i + 1) ts

    parts_in : (w : TypeValue) (f n i : ℕ) (ts : List Term) → ((j : ℕ) → j < length ts → IsIn g (slice_index_or (map (instance value) ts) j (Var 0)) (project (order g) w f n (i + j))) → PartsIn w f n i ts
    parts_in w f n i [] h = tt
    parts_in w f n i (t ∷ ts) h = (
      subst (λ k. IsIn g (instance value t) (project (order g) w f n k)) (omega arith) (h 0 (omega arith)),
      parts_in w f n (i + 1) ts (λ j lt. subst (λ k. IsIn g (slice_index_or (map (instance value) ts) j (Var 0)) (project (order g) w f n k)) (omega arith) (h (suc j) (omega (arith, lt)))),
    )

    each_part : (w : TypeValue) (f n i : ℕ) (ts : List Term) → AllByRecursion Pushes ts → PartsIn w f n i ts → (vs : Values) → AllIn g value vs → KnownIn g value (push_parts (order g) w f n i (map (push (order g)) ts) vs)
    each_part w f n i [] h p vs a = a
    each_part w f n i (t ∷ ts) h p vs a = then_in g value _ _ (h.0 (project (order g) w f n i) vs a p.0) (each_part w f n (i + 1) ts h.1 p.1)

    at_push : (t : Term) (go : TypeValue → Values → Known) → push (order g) t ≡ go → ((w : TypeValue) (vs : Values) → AllIn g value vs → IsIn g (instance value t) w → KnownIn g value (go w vs)) → Pushes t
    at_push t go e h w vs a b = subst (λ p. KnownIn g value (p w vs)) (sym e) (h w vs a b)

    constant_in : (c : Term) (x w : TypeValue) (vs : Values) → IsIn g c x → IsIn g c w → AllIn g value vs → KnownIn g value (known_where (is_set (meet (order g) x w)) vs)
    constant_in c x w vs h k a = where_in g value _ vs (in_set g c _ (met c x w h k)) a

    -- pushing a value that the term is in keeps each variable's term in its value
    pub push_in : (t : Term) → Pushes t
    push_in = ind_terms Pushes
        (λ v. at_push (Var v) _ (fold-Var _ (push_step (order g)) v) (λ w vs a b. set_in vs v _ a (met (value v) _ w (a v) (subst (λ t. IsIn g t w) (fold-Var _ (instance_step value) v) b))))
        (λ k. at_push (Int k) _ (fold-Int _ (push_step (order g)) k) (λ w vs a b. constant_in (Int k) (of_int (order g) k) w vs (relied.keeps.int k) (subst (λ t. IsIn g t w) (fold-Int _ (instance_step value) k) b) a))
        (λ c. at_push (Atom c) _ (fold-Atom _ (push_step (order g)) c) (λ w vs a b. constant_in (Atom c) (of_atom (order g) c) w vs (relied.keeps.atom c) (subst (λ t. IsIn g t w) (fold-Atom _ (instance_step value) c) b) a))
        at_node
      where
        zero_left : (j : ℕ) → j ≡ 0 + j
        zero_left j = omega arith

        at_node : (f : ℕ) (ts : List Term) → AllByRecursion Pushes ts → Pushes (Node f ts)
        at_node f ts h = at_push (Node f ts) _ (fold-Node _ (push_step (order g)) f ts) (λ w vs a b.
            subst (λ n. KnownIn g value (push_parts (order g) w f n 0 (map (push (order g)) ts) vs)) (sym (map_length (push (order g)) ts))
            (each_part w f (length ts) 0 ts h (parts_in w f (length ts) 0 ts (λ j lt.
            subst (λ k. IsIn g (slice_index_or (map (instance value) ts) j (Var 0)) (project (order g) w f (length ts) k)) (zero_left j) (subst (λ n. IsIn g (slice_index_or (map (instance value) ts) j (Var 0)) (project (order g) w f n j)) (map_length (instance value) ts)
            (relied.keeps.project f (map (instance value) ts) w j (subst (λ n. j < n) (sym (map_length (instance value) ts)) lt) (subst (λ t. IsIn g t w) (fold-Node _ (instance_step value) f ts) b))))) vs a))

    -- terms in values as far as both lists go
    abbrev pub TheseIn : List Term → List TypeValue → Type 0
    TheseIn [] ws = Unit {0}
    TheseIn (t ∷ ts) [] = Unit {0}
    TheseIn (t ∷ ts) (w ∷ ws) = IsIn g t w × TheseIn ts ws

    pub these_in : (ts : List Term) (ws : List TypeValue) → AreIn g ts ws → TheseIn ts ws
    these_in [] ws h = tt
    these_in (t ∷ ts) [] h = tt
    these_in (t ∷ ts) (w ∷ ws) h = (h.0, these_in ts ws h.1)

    pub push_these_in : (ts : List Term) (ws : List TypeValue) → TheseIn (map (instance value) ts) ws → (vs : Values) → AllIn g value vs → KnownIn g value (push_each (order g) ts ws vs)
    push_these_in [] ws h vs a = a
    push_these_in (t ∷ ts) [] h vs a = a
    push_these_in (t ∷ ts) (w ∷ ws) h vs a = then_in g value _ _ (push_in t w vs a h.0) (push_these_in ts ws h.1)

    pub push_each_in : (ts : List Term) (ws : List TypeValue) → AreIn g (map (instance value) ts) ws → (vs : Values) → AllIn g value vs → KnownIn g value (push_each (order g) ts ws vs)
    push_each_in ts ws h vs a = push_these_in ts ws (these_in (map (instance value) ts) ws h) vs a

    -- unifying

    pub both_in : (t u : Term) (vs : Values) → AllIn g value vs → instance value t ≡ instance value u → KnownIn g value (push_both (order g) t u vs)
    both_in t u vs a e =
        let w = meet (order g) (term_value (order g) vs t) (term_value (order g) vs u) in
        let h : IsIn g (instance value t) w = met (instance value t) (term_value (order g) vs t) (term_value (order g) vs u) (in_value vs a t) (subst (λ x. IsIn g x (term_value (order g) vs u)) (sym e) (in_value vs a u)) in
        then_in g value (push (order g) t w vs) (push (order g) u w) (push_in t w vs a h) (λ ws b. push_in u w ws b (subst (λ x. IsIn g x w) e h))

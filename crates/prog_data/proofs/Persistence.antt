-- Membership, values and properties persist when variables are bound.
use Rattle.std.proofs.Common.{◌≡◌, ℕ, zero, suc, Bool, true, false, ◌&&◌, ◌||◌, List, [], ◌∷◌, map, refl, ap, sym, ◌∙◌, true≢false}
use Rattle.std.specs.Prelude.{not, slice_get, Option, None, Some, option_map}
use Rattle.std.specs.Option.{option_map_or}
use Rattle.std.specs.List.{list_all, AllByRecursion}
use Rattle.std.proofs.lemmas.Option.{slice_get-map}
use Rattle.term_core.specs.declared.terms.Term.{Term, out-Term, Var, Atom, Node}
use Rattle.term_core.specs.declared.terms.Term.TheVariants.{outs-Var, outs-Int, outs-Atom, outs-Node}
use Rattle.term_core.specs.Terms.{instance, instance_step, is_ground, is_ground_step, is_variable}
use Rattle.term_core.proofs.TermFolds.{fold-Var, fold-Int, fold-Atom, fold-Node, ind_terms}
use Rattle.prog_data.specs.declared.conditions.Prop.{Prop}
use Rattle.prog_data.specs.declared.conditions.Prop.TheVariants as property
use Rattle.prog_data.specs.declared.grammars.Basic.{Basic}
use Rattle.prog_data.specs.declared.grammars.Basic.TheVariants as basic
use Rattle.prog_data.specs.declared.grammars.Grammar.{Grammar}
use Rattle.prog_data.specs.Membership.{IsBasic, Belongs, by_basic, by_int, by_atom, by_node, by_unit, BelongEach, none, more, belongs}
use Rattle.prog_data.specs.Values.{TypeValue, IsIn, AreIn}
use Rattle.prog_data.specs.Conditions.{at_argument, holds, all_hold}
use Rattle.prog_data.specs.Laws.{MembershipPersists, ValuesPersist, Persists, PropertiesPersist, ConjunctionsPersist, asks_for_variable}
use Rattle.prog_data.proofs.MembershipLaws.{belongs_sound, belongs_complete}

both_true : (a b : Bool) → (a && b) ≡ true → (a ≡ true) × (b ≡ true)
both_true true b e = (refl, e)
both_true false b e = absurd (true≢false (sym e))

both_false : (a b : Bool) → (a || b) ≡ false → (a ≡ false) × (b ≡ false)
both_false true b e = absurd (true≢false e)
both_false false b e = (refl, e)

module _ (value : ℕ → Term) where
  -- an instance of a compound is one of the instances of its parts
  node_instance : (f : ℕ) (ts : List Term) → instance value (Node f ts) ≡ Node f (map (instance value) ts)
  node_instance = fold-Node Term (instance_step value)

  -- a term without variables is its own instance
  pub ground_itself : (t : Term) → is_ground t ≡ true → instance value t ≡ t
  ground_itself =
      ind_terms (λ t. is_ground t ≡ true → instance value t ≡ t)
      (λ v e. absurd (true≢false (sym e ∙ fold-Var Bool is_ground_step v)))
      (λ n e. fold-Int Term (instance_step value) n)
      (λ a e. fold-Atom Term (instance_step value) a)
      (λ f ts h e. node_instance f ts ∙ ap (Node f) (each ts h (sym (fold-Node Bool is_ground_step f ts) ∙ e)))
    where
      each : (ts : List Term) → AllByRecursion (λ t. is_ground t ≡ true → instance value t ≡ t) ts → list_all (λ b. b) (map is_ground ts) ≡ true → map (instance value) ts ≡ ts
      each [] h e = refl
      each (t ∷ ts) h e = let b = both_true (is_ground t) _ e in ap (λ u. u ∷ map (instance value) ts) (h.0 b.0) ∙ ap (λ us. t ∷ us) (each ts h.1 b.1)

  -- so the instance has no variables either
  ground_persists : (t : Term) → is_ground t ≡ true → is_ground (instance value t) ≡ true
  ground_persists t e = ap is_ground (ground_itself t e) ∙ e

  -- a term that is no variable becomes none
  nonvar_persists : (t : Term) → not (is_variable (out-Term t)) ≡ true → not (is_variable (out-Term (instance value t))) ≡ true
  nonvar_persists =
      ind_terms (λ t. not (is_variable (out-Term t)) ≡ true → not (is_variable (out-Term (instance value t))) ≡ true)
      (λ v e. absurd (true≢false (sym e ∙ ap (λ l. not (is_variable l)) (outs-Var v))))
      (λ n e. ap (λ t. not (is_variable (out-Term t))) (fold-Int Term (instance_step value) n) ∙ ap (λ l. not (is_variable l)) (outs-Int n))
      (λ a e. ap (λ t. not (is_variable (out-Term t))) (fold-Atom Term (instance_step value) a) ∙ ap (λ l. not (is_variable l)) (outs-Atom a))
      (λ f ts h e. ap (λ t. not (is_variable (out-Term t))) (node_instance f ts) ∙ ap (λ l. not (is_variable l)) (outs-Node f (map (instance value) ts)))

  -- an instance belongs to the same basic rules: it is the term itself, or a compound as the term is
  basic_persists : (b : Basic) (t : Term) → IsBasic b t → IsBasic b (instance value t)
  basic_persists basic.Term t i = tt
  basic_persists basic.Int t i = (i.0, ap (instance value) i.1 ∙ fold-Int Term (instance_step value) i.0)
  basic_persists basic.Nnegint t i = (i.0, ap (instance value) i.1 ∙ fold-Int Term (instance_step value) _)
  basic_persists basic.Atm t i = (i.0, ap (instance value) i.1 ∙ fold-Atom Term (instance_step value) i.0)
  basic_persists basic.Gnd t i = ground_persists t i
  basic_persists basic.Struct t i = (i.0, map (instance value) i.1, ap (instance value) i.2 ∙ node_instance i.0 i.1)

  module _ (g : Grammar) where
    mutual
      -- by the same rules, of which those for constants have no variables
      pub belongs_persists : {t : Term} {n : ℕ} → Belongs g t n → Belongs g (instance value t) n
      belongs_persists {t} {n} (by_basic b c i) = by_basic b c (basic_persists b t i)
      belongs_persists {t} {n} (by_int k c e) = by_int k c (ap (instance value) e ∙ fold-Int Term (instance_step value) k)
      belongs_persists {t} {n} (by_atom a c e) = by_atom a c (ap (instance value) e ∙ fold-Atom Term (instance_step value) a)
      belongs_persists {t} {n} (by_node f ts ns c e each) = by_node f (map (instance value) ts) ns c (ap (instance value) e ∙ node_instance f ts) (each_persists each)
      belongs_persists {t} {n} (by_unit m c b) = by_unit m c (belongs_persists b)

      each_persists : {ts : List Term} {ns : List ℕ} → BelongEach g ts ns → BelongEach g (map (instance value) ts) ns
      each_persists none = none
      each_persists (more b rest) = more (belongs_persists b) (each_persists rest)

    -- an instance belongs to each of the same names
    in_persists : (t : Term) (v : TypeValue) → IsIn g t v → IsIn g (instance value t) v
    in_persists t None i = i
    in_persists t (Some has) i = λ n e. belongs_persists (i n e)

    -- and so does each of a list
    are_in_persist : (ts : List Term) (vs : List TypeValue) → AreIn g ts vs → AreIn g (map (instance value) ts) vs
    are_in_persist [] [] i = i
    are_in_persist [] (v ∷ vs) i = i
    are_in_persist (t ∷ ts) [] i = i
    are_in_persist (t ∷ ts) (v ∷ vs) i = (in_persists t v i.0, are_in_persist ts vs i.1)

    -- the test decides the relation, so it persists too
    test_persists : (t : Term) (n : ℕ) → belongs g t n ≡ true → belongs g (instance value t) n ≡ true
    test_persists t n e = belongs_complete g (belongs_persists (belongs_sound g t n e))

  -- a test that persists, at one of the arguments
  at_persists : (test : Term → Bool) → ((t : Term) → test t ≡ true → test (instance value t) ≡ true) → (args : List Term) (i : ℕ) → at_argument test args i ≡ true → at_argument test (map (instance value) args) i ≡ true
  at_persists test keeps args i e = ap (λ found. option_map_or test found false) (slice_get-map (instance value) args i) ∙ by_argument (slice_get args i) e
    where
      by_argument : (found : Option Term) → option_map_or test found false ≡ true → option_map_or test (option_map (instance value) found) false ≡ true
      by_argument None e = e
      by_argument (Some t) e = keeps t e

pub membership_persists : (g : Grammar) → MembershipPersists g
membership_persists g value t n b = belongs_persists value g b

pub values_persist : (g : Grammar) → ValuesPersist g
values_persist g value ts vs i = are_in_persist value g ts vs i

-- all properties but the one that asks for a variable are tests that persist
holds_persists : (g : Grammar) (p : Prop) → asks_for_variable p ≡ false → Persists g p
holds_persists g (property.Belongs i n) no_variable value args e = at_persists value (λ t. belongs g t n) (λ t b. test_persists value g t n b) args i e
holds_persists g (property.IsVar i) no_variable value args e = absurd (true≢false no_variable)
holds_persists g (property.IsNonvar i) no_variable value args e = at_persists value (λ t. not (is_variable (out-Term t))) (nonvar_persists value) args i e
holds_persists g (property.IsGround i) no_variable value args e = at_persists value is_ground (ground_persists value) args i e

-- as many arguments as are needed, each of them this term
as_many : ℕ → Term → List Term
as_many zero t = t ∷ []
as_many (suc i) t = t ∷ as_many i t

-- a test of the last of them is a test of the term
at_last : (test : Term → Bool) (t : Term) (i : ℕ) → at_argument test (as_many i t) i ≡ test t
unfolding as_many
at_last test t zero = refl
at_last test t (suc i) = at_last test t i

-- their instances are as many instances
instances_of : (value : ℕ → Term) (t : Term) (i : ℕ) → map (instance value) (as_many i t) ≡ as_many i (instance value t)
unfolding as_many
instances_of value t zero = refl
instances_of value t (suc i) = ap (λ us. instance value t ∷ us) (instances_of value t i)

-- a variable is none when it is bound to an atom
variable_lost : (g : Grammar) (i : ℕ) → Persists g (property.IsVar i) → ⊥
variable_lost g i persists =
    let is_var : Term → Bool = λ t. is_variable (out-Term t) in
    let value : ℕ → Term = λ v. Atom 0 in
    let was = at_last is_var (Var 0) i ∙ ap is_variable (outs-Var 0) in
    let now = ap (λ ts. at_argument is_var ts i) (instances_of value (Var 0) i) ∙ at_last is_var (instance value (Var 0)) i ∙ ap is_var (fold-Var Term (instance_step value) 0) ∙ ap is_variable (outs-Atom 0) in
    true≢false (sym (persists value (as_many i (Var 0)) was) ∙ now)

pub properties_persist : (g : Grammar) → PropertiesPersist g
properties_persist g p = (no_variable p, holds_persists g p)
  where
    no_variable : (p : Prop) → Persists g p → asks_for_variable p ≡ false
    no_variable (property.IsVar i) persists = absurd (variable_lost g i persists)
    no_variable (property.Belongs i n) persists = refl
    no_variable (property.IsNonvar i) persists = refl
    no_variable (property.IsGround i) persists = refl

-- each property of the conjunction persists
pub conjunctions_persist : (g : Grammar) → ConjunctionsPersist g
conjunctions_persist g [] value args no_variable e = refl
conjunctions_persist g (p ∷ ps) value args no_variable e =
    let without = both_false (asks_for_variable p) _ no_variable in
    let held = both_true (holds g args p) _ e in
    ap (λ b. b && all_hold g (map (instance value) args) ps) (holds_persists g p without.0 value args held.0) ∙ conjunctions_persist g ps value args without.1 held.1

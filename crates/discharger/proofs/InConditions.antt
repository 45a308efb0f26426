-- Arguments for which conditions hold are in what these narrow; what is implied holds of arguments in their values, and what is excluded does not.
use Rattle.std.proofs.Common.{◌≡◌, ◌⊎◌, inl, inr, ℕ, zero, suc, ◌+◌, Bool, true, false, ◌&&◌, ◌||◌, List, [], ◌∷◌, length, map, refl, ap, sym, ◌∙◌, subst, arith, true≢false}
use Rattle.std.proofs.lemmas.Bool.Decides.{nat_tests}
use Rattle.std.specs.Prelude.{◌==◌, not, slice_get, Option, None, Some, Contains}
use Rattle.std.specs.Option.{option_map_or}
use Rattle.std.specs.List.{list_any}
use Rattle.term_core.specs.declared.terms.Term.{Term, Var, out-Term, roll-out-Term}
use Rattle.term_core.specs.declared.terms.Term.TheOpen as layer
use Rattle.term_core.specs.declared.terms.Term.TheVariants.{rolls-Var}
use Rattle.term_core.specs.declared.terms.Term.{roll-Term}
use Rattle.term_core.specs.Terms.{is_ground, is_variable}
use Rattle.term_core.proofs.TermFolds.{fold-Var}
use Rattle.prog_data.specs.declared.basic_names.TheConstants.{GND_TYPE}
use Rattle.prog_data.specs.declared.grammars.Basic.{Basic}
use Rattle.prog_data.specs.declared.grammars.Basic.TheVariants as basic
use Rattle.prog_data.specs.declared.grammars.Rule.{Rule}
use Rattle.prog_data.specs.declared.grammars.Rule.TheVariants as rule
use Rattle.prog_data.specs.declared.grammars.Grammar.{Grammar}
use Rattle.prog_data.specs.declared.conditions.Prop.{Prop}
use Rattle.prog_data.specs.declared.conditions.Prop.TheVariants as prop
use Rattle.prog_data.specs.declared.conditions.CondKind.{CondKind}
use Rattle.prog_data.specs.declared.conditions.CondKind.TheVariants.{Calls, Success, Comp}
use Rattle.prog_data.specs.declared.programs.Program.{Program}
use Rattle.prog_data.specs.Membership.{rules_of, leaves, IsBasic, Belongs, by_basic, by_int, by_atom, by_node, by_unit, admits, admits_step, admits_var, belongs}
use Rattle.prog_data.specs.Conditions.{at_argument, holds, all_hold, kind_of, calls_hold}
use Rattle.prog_data.specs.Values.{TypeValue, IsIn, AreIn}
use Rattle.prog_data.proofs.Leaves.{In, here, later, any_in, in_any, in_filter}
use Rattle.prog_data.proofs.MembershipLaws.{contains_in}
use Rattle.name_order.specs.Relations.{has_member, leaf_has, full_leaves, names_from, order}
use Rattle.type_domain.specs.Values.{term_name, has_name, of_name, names_of}
use Rattle.discharger.specs.ReliedOn.{ReliedOn}
use Rattle.goal_transfer.specs.Conditions.{all_set, meet_each, join_each, meet_name, typed_by, type_of, types_of, is_term, says_nonvar, is_apart, value_at, implied, excluded, all_implied, some_excluded, values_where, join_values, met_with, narrowed_by, entry_at, entry_by, meet_where_true, exit_at, exit_by}
use Rattle.goal_transfer.proofs.Lengths.{both, HasLength, met_length, narrowed_length}
use Rattle.discharger.proofs.InValues.{in_set, met, in_term, belongs_gnd}

basic_ground : (b : Basic) (t : Term) → rule.Basic b ≡ rule.Basic basic.Gnd → IsBasic b t → is_ground t ≡ true
basic_ground basic.Gnd t s i = i
basic_ground basic.Term t s i = cc
basic_ground basic.Int t s i = cc
basic_ground basic.Nnegint t s i = cc
basic_ground basic.Atm t s i = cc
basic_ground basic.Struct t s i = cc

module _ (g : Grammar) where
  pub are_length : (args : List Term) (vs : List TypeValue) → AreIn g args vs → length args ≡ length vs
  are_length [] [] a = refl
  are_length [] (v ∷ vs) a = absurd a
  are_length (t ∷ ts) [] a = absurd a
  are_length (t ∷ ts) (v ∷ vs) a = ap suc (are_length ts vs a.1)

  pub are_set : (args : List Term) (vs : List TypeValue) → AreIn g args vs → all_set vs ≡ true
  are_set [] [] a = refl
  are_set [] (v ∷ vs) a = absurd a
  are_set (t ∷ ts) [] a = absurd a
  are_set (t ∷ ts) (v ∷ vs) a = ap (λ b. b && all_set vs) (in_set g t v a.0) ∙ are_set ts vs a.1

module _ (g : Grammar) (relied : ReliedOn g) where
  -- types of properties that hold

  meet_in : (i j n : ℕ) (t : Term) (v : TypeValue) (b : Bool) → (i == j) ≡ b → (i ≡ j → Belongs g t n) → IsIn g t v → IsIn g t (meet_name (order g) b n v)
  meet_in i j n t v true e h a = met g relied t v (of_name (order g) n) a (relied.keeps.name t n (h (grind (arith, nat_tests, e))))
  meet_in i j n t v false e h a = a

  module _ (all : List Term) where
    found : (test : Term → Bool) (i j : ℕ) (t : Term) → slice_get all i ≡ Some t → i ≡ j → at_argument test all j ≡ true → test t ≡ true
    found test i j t get same e = sym (ap (λ o. option_map_or test o false) (ap (slice_get all) (sym same) ∙ get)) ∙ e

    typed_in : (i : ℕ) (t : Term) → slice_get all i ≡ Some t → (v : TypeValue) (p : Prop) → holds g all p ≡ true → IsIn g t v → IsIn g t (typed_by (order g) i v p)
    typed_in i t get v (prop.Belongs j n) e a = meet_in i j n t v (i == j) refl (λ same. (relied.belongs t n).0 (found (λ t. belongs g t n) i j t get same e)) a
    typed_in i t get v (prop.IsGround j) e a = meet_in i j GND_TYPE t v (i == j) refl (λ same. belongs_gnd g relied t (found is_ground i j t get same e)) a
    typed_in i t get v (prop.IsVar j) e a = a
    typed_in i t get v (prop.IsNonvar j) e a = a

    type_in : (i : ℕ) (t : Term) → slice_get all i ≡ Some t → (v : TypeValue) (ps : List Prop) → all_hold g all ps ≡ true → IsIn g t v → IsIn g t (type_of (order g) i v ps)
    type_in i t get v [] e a = a
    type_in i t get v (p ∷ ps) e a = let b = both (holds g all p) _ e in type_in i t get (typed_by (order g) i v p) ps b.1 (typed_in i t get v p b.0 a)

    types_from : (ps : List Prop) → all_hold g all ps ≡ true → (first : ℕ) (args : List Term) → ((j : ℕ) (t : Term) → slice_get args j ≡ Some t → slice_get all (first + j) ≡ Some t) →
        AreIn g args (map (λ i. type_of (order g) i (of_name (order g) term_name) ps) (names_from first (length args)))
    types_from ps e first [] h = tt
    types_from ps e first (t ∷ ts) h =
        let start : first + 0 ≡ first = omega arith in (
          type_in first t (subst (λ k. slice_get all k ≡ Some t) start (h 0 t refl)) (of_name (order g) term_name) ps e (in_term g relied t),
          types_from ps e (first + 1) ts (λ j u k. let next : first + suc j ≡ first + 1 + j = omega arith in subst (λ k. slice_get all k ≡ Some u) next (h (suc j) u k)),
        )

  -- arguments of which properties hold are in their types
  pub types_in : (args : List Term) (ps : List Prop) (n : ℕ) → length args ≡ n → all_hold g args ps ≡ true → AreIn g args (types_of (order g) n ps)
  types_in args ps n len e = subst (λ n. AreIn g args (types_of (order g) n ps)) len (types_from args ps e 0 args (λ j t k. let same : j ≡ 0 + j = omega arith in subst (λ k. slice_get args k ≡ Some t) same k))

  pub meet_each_in : (args : List Term) (vs ws : List TypeValue) → AreIn g args vs → AreIn g args ws → AreIn g args (meet_each (order g) vs ws)
  meet_each_in [] [] [] a b = tt
  meet_each_in [] (v ∷ vs) ws a b = absurd a
  meet_each_in [] [] (w ∷ ws) a b = absurd b
  meet_each_in (t ∷ ts) [] ws a b = absurd a
  meet_each_in (t ∷ ts) (v ∷ vs) [] a b = absurd b
  meet_each_in (t ∷ ts) (v ∷ vs) (w ∷ ws) a b = (met g relied t v w a.0 b.0, meet_each_in ts vs ws a.1 b.1)

  join_left_in : (args : List Term) (vs ws : List TypeValue) → AreIn g args vs → length ws ≡ length vs → AreIn g args (join_each vs ws)
  join_left_in [] [] ws a e = tt
  join_left_in [] (v ∷ vs) ws a e = absurd a
  join_left_in (t ∷ ts) [] ws a e = absurd a
  join_left_in (t ∷ ts) (v ∷ vs) [] a e = cc
  join_left_in (t ∷ ts) (v ∷ vs) (w ∷ ws) a e = (relied.keeps.join t v w (inl a.0), join_left_in ts vs ws a.1 (omega (arith, e)))

  join_right_in : (args : List Term) (vs ws : List TypeValue) → AreIn g args ws → length vs ≡ length ws → AreIn g args (join_each vs ws)
  join_right_in [] [] [] a e = tt
  join_right_in [] (v ∷ vs) [] a e = cc
  join_right_in [] vs (w ∷ ws) a e = absurd a
  join_right_in (t ∷ ts) vs [] a e = absurd a
  join_right_in (t ∷ ts) [] (w ∷ ws) a e = cc
  join_right_in (t ∷ ts) (v ∷ vs) (w ∷ ws) a e = (relied.keeps.join t v w (inr a.0), join_right_in ts vs ws a.1 (omega (arith, e)))

  -- narrowed entries

  -- there are values, and the arguments are in them
  abbrev pub SomeIn : List Term → Option (List TypeValue) → Type 0
  SomeIn args k = (vs : List TypeValue) × (k ≡ Some vs) × AreIn g args vs

  module _ (n : ℕ) (args : List Term) (len : length args ≡ n) (entry : List TypeValue) (entered : AreIn g args entry) where
    entry_length : length entry ≡ n
    entry_length = sym (are_length g args entry entered) ∙ len

    met_in : (d : List Prop) → all_hold g args d ≡ true → SomeIn args (met_with (order g) n entry d)
    met_in d e =
        let m = meet_each_in args entry (types_of (order g) n d) entered (types_in args d n len e) in
        (meet_each (order g) entry (types_of (order g) n d), ap (λ b. values_where b (meet_each (order g) entry (types_of (order g) n d))) (are_set g args _ m), m)

    joined_left : (a b : Option (List TypeValue)) → SomeIn args a → HasLength n b → SomeIn args (join_values a b)
    joined_left a None s l = (s.0, ap (λ a. join_values a None) s.1, s.2)
    joined_left a (Some ws) s l = (join_each s.0 ws, ap (λ a. join_values a (Some ws)) s.1, join_left_in args s.0 ws s.2 (l ∙ sym (sym (are_length g args s.0 s.2) ∙ len)))

    joined_right : (a b : Option (List TypeValue)) → HasLength n a → SomeIn args b → SomeIn args (join_values a b)
    joined_right None b l s = s
    joined_right (Some vs) b l s = (join_each vs s.0, ap (join_values (Some vs)) s.1, join_right_in args vs s.0 s.2 (l ∙ sym (sym (are_length g args s.0 s.2) ∙ len)))

    pub narrowed_in : (ds : List (List Prop)) → list_any (all_hold g args) ds ≡ true → SomeIn args (narrowed_by (order g) n entry ds)
    narrowed_in [] e = absurd (true≢false (sym e))
    narrowed_in (d ∷ ds) e = by_test (all_hold g args d) refl e (narrowed_in ds)
      where
        by_test : (b : Bool) → all_hold g args d ≡ b → (b || list_any (all_hold g args) ds) ≡ true → (list_any (all_hold g args) ds ≡ true → SomeIn args (narrowed_by (order g) n entry ds)) → SomeIn args (narrowed_by (order g) n entry (d ∷ ds))
        by_test true h e rest = joined_left _ _ (met_in d h) (narrowed_length g n entry ds entry_length)
        by_test false h e rest = joined_right _ _ (met_length g n entry d entry_length) (rest e)

    -- where each calls condition holds
    pub entry_in : (program : Program) (cs : List ℕ) → ((c : ℕ) → In c cs → calls_hold g args (kind_of program c) ≡ true) → SomeIn args (entry_by program (order g) n entry cs)
    entry_in program [] h = (entry, refl, entered)
    entry_in program (c ∷ cs) h = by_kind (kind_of program c) (h c here) (entry_in program cs (λ d i. h d (later i)))
      where
        by_kind : (k : Option CondKind) → calls_hold g args k ≡ true → SomeIn args (entry_by program (order g) n entry cs) → SomeIn args (entry_at (order g) n entry k (entry_by program (order g) n entry cs))
        by_kind (Some (Calls ds)) e rest = narrowed_in ds e
        by_kind (Some (Success pre post)) e rest = rest
        by_kind (Some (Comp pre property)) e rest = rest
        by_kind None e rest = rest

  -- narrowed exits, where each success condition whose Pre is implied holds
  pub exit_in : (program : Program) (n : ℕ) (args : List Term) → length args ≡ n → (entry : List TypeValue) (cs : List ℕ) →
      ((c : ℕ) (pre post : List Prop) → In c cs → kind_of program c ≡ Some (Success pre post) → all_implied (order g) entry pre ≡ true → all_hold g args post ≡ true) →
      (exit : List TypeValue) → AreIn g args exit → AreIn g args (exit_by program (order g) n entry cs exit)
  exit_in program n args len entry [] h exit a = a
  exit_in program n args len entry (c ∷ cs) h exit a = exit_in program n args len entry cs (λ d pre post i. h d pre post (later i)) _ (by_kind (kind_of program c) refl)
    where
      by_test : (pre post : List Prop) (b : Bool) → all_implied (order g) entry pre ≡ b → (all_implied (order g) entry pre ≡ true → all_hold g args post ≡ true) → AreIn g args (meet_where_true (order g) b exit (types_of (order g) n post))
      by_test pre post true e k = meet_each_in args exit _ a (types_in args post n len (k e))
      by_test pre post false e k = a

      by_kind : (k : Option CondKind) → kind_of program c ≡ k → AreIn g args (exit_at (order g) n entry k exit)
      by_kind (Some (Success pre post)) e = by_test pre post (all_implied (order g) entry pre) refl (h c pre post here e)
      by_kind (Some (Calls ds)) e = a
      by_kind (Some (Comp pre property)) e = a
      by_kind None e = a

  -- what is implied, and what is excluded

  -- an argument in its value, or none
  at_value : (args : List Term) (vs : List TypeValue) → AreIn g args vs → (i : ℕ) → ((t : Term) × (slice_get args i ≡ Some t) × IsIn g t (value_at vs i)) ⊎ (value_at vs i ≡ None)
  at_value [] [] a i = inr refl
  at_value [] (v ∷ vs) a i = absurd a
  at_value (t ∷ ts) [] a i = absurd a
  at_value (t ∷ ts) (v ∷ vs) a zero = inl (t, refl, a.0)
  at_value (t ∷ ts) (v ∷ vs) a (suc i) = at_value ts vs a.1 i

  named : (t : Term) (v : TypeValue) (n : ℕ) → IsIn g t v → has_name v n ≡ true → Belongs g t n
  named t None n h e = absurd h
  named t (Some p) n h e = h n e

  -- a variable belongs to names with a leaf term alone
  variable_leaf : (w n : ℕ) → Belongs g (Var w) n → list_any is_term ((order g).leaves n) ≡ true
  variable_leaf w n b =
      let l = any_in (admits g (Var w)) (leaves g n) ((relied.belongs (Var w) n).1 b) in
      let t = by_rule l.0 (sym (ap (λ p. p l.0) (fold-Var _ (admits_step g) w)) ∙ l.2) in
      subst (λ rs. list_any is_term rs ≡ true) (ap (λ f. f n) (sym relied.is_order.leaves)) (in_any is_term (full_leaves g n) (in_filter (leaf_has (has_member g)) (leaves g n) t.0 l.1) t.1)
    where
      by_rule : (r : Rule) → admits_var r ≡ true → (leaf_has (has_member g) r ≡ true) × (is_term r ≡ true)
      by_rule (rule.Basic basic.Term) e = (refl, refl)
      by_rule other e = cc

  no_variable : (t : Term) (v : TypeValue) → IsIn g t v → says_nonvar (order g) v ≡ true → is_variable (out-Term t) ≡ false
  no_variable t v h e = by_layer (out-Term t) (roll-out-Term t)
    where
      by_layer : (x : layer.Term-F Term) → roll-Term x ≡ t → is_variable x ≡ false
      by_layer (layer.Var w) r =
          let m = any_in (λ n. has_name v n && not (list_any is_term ((order g).leaves n))) (names_of (order g)) e in
          let b = both (has_name v m.0) _ m.2 in
          absurd (true≢false (sym b.1 ∙ ap not (variable_leaf w m.0 (subst (λ t. Belongs g t m.0) (sym r ∙ rolls-Var w) (named t v m.0 h b.0)))))
      by_layer (layer.Int k) r = refl
      by_layer (layer.Atom a) r = refl
      by_layer (layer.Node f ts) r = refl

  apart : (t : Term) (v : TypeValue) (n : ℕ) → IsIn g t v → is_apart (order g) v n ≡ true → Belongs g t n → ⊥
  apart t v n h e b =
      let m = any_in (λ m. has_name v m && not ((order g).meets m n)) (names_of (order g)) e in
      let c = both (has_name v m.0) _ m.2 in
      true≢false (sym c.1 ∙ ap not ((relied.is_order.meets m.0 n).1 (relied.shared_meet t m.0 n (named t v m.0 h c.0) b)))

  -- what belongs to gnd is ground
  only_rule : (r : Rule) → In r (rule.Basic basic.Gnd ∷ []) → r ≡ rule.Basic basic.Gnd
  only_rule r here = refl
  only_rule r (later i) = elim i [ ]

  ground_of : {t : Term} {n : ℕ} → Belongs g t n → rules_of g n ≡ rule.Basic basic.Gnd ∷ [] → is_ground t ≡ true
  ground_of {t} {n} (by_basic b c i) e = basic_ground b t (only_rule (rule.Basic b) (contains_in _ _ (subst (λ rs. Contains rs (rule.Basic b)) e c))) i
  ground_of {t} {n} (by_int k c _) e = let s = only_rule (rule.Int k) (contains_in _ _ (subst (λ rs. Contains rs (rule.Int k)) e c)) in cc
  ground_of {t} {n} (by_atom a c _) e = let s = only_rule (rule.Atom a) (contains_in _ _ (subst (λ rs. Contains rs (rule.Atom a)) e c)) in cc
  ground_of {t} {n} (by_node f ts ns c _ _) e = let s = only_rule (rule.Node f ns) (contains_in _ _ (subst (λ rs. Contains rs (rule.Node f ns)) e c)) in cc
  ground_of {t} {n} (by_unit m c _) e = let s = only_rule (rule.Unit m) (contains_in _ _ (subst (λ rs. Contains rs (rule.Unit m)) e c)) in cc

  module _ (args : List Term) (vs : List TypeValue) (a : AreIn g args vs) where
    -- a test holds of an argument where its value says so
    tested : (test : Term → Bool) (i : ℕ) → (value_at vs i ≡ None → ⊥) → ((t : Term) → IsIn g t (value_at vs i) → test t ≡ true) → at_argument test args i ≡ true
    tested test i some h = by_place (at_value args vs a i)
      where
        by_place : ((t : Term) × (slice_get args i ≡ Some t) × IsIn g t (value_at vs i)) ⊎ (value_at vs i ≡ None) → at_argument test args i ≡ true
        by_place (inl p) = ap (λ o. option_map_or test o false) p.1 ∙ h p.0 p.2
        by_place (inr e) = absurd (some e)

    untested : (test : Term → Bool) (i : ℕ) → (value_at vs i ≡ None → ⊥) → ((t : Term) → IsIn g t (value_at vs i) → test t ≡ false) → at_argument test args i ≡ false
    untested test i some h = by_place (at_value args vs a i)
      where
        by_place : ((t : Term) × (slice_get args i ≡ Some t) × IsIn g t (value_at vs i)) ⊎ (value_at vs i ≡ None) → at_argument test args i ≡ false
        by_place (inl p) = ap (λ o. option_map_or test o false) p.1 ∙ h p.0 p.2
        by_place (inr e) = absurd (some e)

    no_name : (v : TypeValue) (n : ℕ) → has_name v n ≡ true → v ≡ None → ⊥
    no_name None n e s = cc
    no_name (Some p) n e s = cc

    nothing_said : (v : TypeValue) → says_nonvar (order g) v ≡ true → v ≡ None → ⊥
    nothing_said v e s = let m = any_in _ (names_of (order g)) e in no_name v m.0 (both (has_name v m.0) _ m.2).0 s

    nothing_apart : (v : TypeValue) (n : ℕ) → is_apart (order g) v n ≡ true → v ≡ None → ⊥
    nothing_apart v n e s = let m = any_in _ (names_of (order g)) e in no_name v m.0 (both (has_name v m.0) _ m.2).0 s

    not_so : (b : Bool) → (b ≡ true → ⊥) → b ≡ false
    not_so true h = absurd (h refl)
    not_so false h = refl

    pub implied_holds : (p : Prop) → implied (order g) vs p ≡ true → holds g args p ≡ true
    implied_holds (prop.Belongs i n) e = tested (λ t. belongs g t n) i (no_name (value_at vs i) n e) (λ t h. (relied.belongs t n).1 (named t (value_at vs i) n h e))
    implied_holds (prop.IsGround i) e = tested is_ground i (no_name (value_at vs i) GND_TYPE e) (λ t h. ground_of (named t (value_at vs i) GND_TYPE h e) relied.gnd)
    implied_holds (prop.IsNonvar i) e = tested (λ t. not (is_variable (out-Term t))) i (nothing_said (value_at vs i) e) (λ t h. ap not (no_variable t (value_at vs i) h e))
    implied_holds (prop.IsVar i) e = absurd (true≢false (sym e))

    pub all_implied_hold : (ps : List Prop) → all_implied (order g) vs ps ≡ true → all_hold g args ps ≡ true
    all_implied_hold [] e = refl
    all_implied_hold (p ∷ ps) e = let b = both (implied (order g) vs p) _ e in ap (λ x. x && all_hold g args ps) (implied_holds p b.0) ∙ all_implied_hold ps b.1

    pub excluded_fails : (p : Prop) → excluded (order g) vs p ≡ true → holds g args p ≡ false
    excluded_fails (prop.Belongs i n) e = untested (λ t. belongs g t n) i (nothing_apart (value_at vs i) n e) (λ t h. not_so _ (λ b. apart t (value_at vs i) n h e ((relied.belongs t n).0 b)))
    excluded_fails (prop.IsGround i) e = untested is_ground i (nothing_apart (value_at vs i) GND_TYPE e) (λ t h. not_so _ (λ b. apart t (value_at vs i) GND_TYPE h e (belongs_gnd g relied t b)))
    excluded_fails (prop.IsVar i) e = untested (λ t. is_variable (out-Term t)) i (nothing_said (value_at vs i) e) (λ t h. no_variable t (value_at vs i) h e)
    excluded_fails (prop.IsNonvar i) e = absurd (true≢false (sym e))

    pub some_excluded_fail : (ps : List Prop) → some_excluded (order g) vs ps ≡ true → all_hold g args ps ≡ false
    some_excluded_fail [] e = absurd (true≢false (sym e))
    some_excluded_fail (p ∷ ps) e = by_test (excluded (order g) vs p) refl e (some_excluded_fail ps)
      where
        and_false : (b : Bool) → (b && false) ≡ false
        and_false true = refl
        and_false false = refl

        by_test : (b : Bool) → excluded (order g) vs p ≡ b → (b || some_excluded (order g) vs ps) ≡ true → (some_excluded (order g) vs ps ≡ true → all_hold g args ps ≡ false) → (holds g args p && all_hold g args ps) ≡ false
        by_test true h e rest = ap (λ x. x && all_hold g args ps) (excluded_fails p h)
        by_test false h e rest = ap (λ x. holds g args p && x) (rest e) ∙ and_false (holds g args p)

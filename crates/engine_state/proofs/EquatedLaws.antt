-- What a built-in equates may be made equal by any most general values.
use Rattle.std.proofs.Common.{◌≡◌, ◌≤◌, ℕ, zero, suc, ◌+◌, Bool, true, false, not, List, [], ◌∷◌, map, refl, sym, ap, ◌∙◌, subst, arith}
use Rattle.std.specs.Prelude.{slice_index_or, ℤ, int_lt, int_le, Ok, Err, Option}
use Rattle.term_core.specs.declared.fixed.TheConstants.{NIL}
use Rattle.term_core.specs.declared.terms.Term.{Term, Var, Atom, Int}
use Rattle.term_core.specs.declared.equations.Equation.{Equation}
use Rattle.term_core.specs.declared.equations.Binding.{Binding}
use Rattle.term_core.specs.declared.equations.Outcome.TheVariants.{Solved}
use Rattle.term_core.specs.Terms.{instance, instance_step}
use Rattle.term_core.specs.Unify.{Unified, values}
use Rattle.term_core.specs.Variants.{AreVariants, IsMostGeneral}
use Rattle.term_core.proofs.TermFolds.{fold-Int, fold-Atom}
use Rattle.term_core.proofs.TermLaws.{instance-Var, instance-instance, map_map}
use Rattle.term_core.proofs.VariantLaws.{general_variants}
use Rattle.term_core.proofs.VariantStages.{is_general}
use Rattle.prog_data.specs.declared.goals.Builtin.{Builtin}
use Rattle.prog_data.specs.declared.goals.Builtin.TheVariants as builtin
use Rattle.prog_data.specs.declared.goals.Goal.{Goal, out-Goal}
use Rattle.prog_data.specs.declared.goals.Goal as goal
use Rattle.prog_data.specs.declared.goals.Goal.TheOpen as layer
use Rattle.prog_data.specs.declared.goals.Goal.TheVariants.{outs-Builtin}
use Rattle.prog_data.specs.declared.programs.Place.{Place}
use Rattle.prog_data.specs.declared.programs.Program.{Program}
use Rattle.prog_data.specs.Arithmetic.{Number, value}
use Rattle.prog_data.specs.Goals.{goal_instance}
use Rattle.prog_data.proofs.GoalInstances.{goal_instance-instance, at_builtin}
use Rattle.machine_model.specs.State.{Item, Does, Frame, Choice, Current, Doing, State, item_instance, frame_instance}
use Rattle.machine_model.specs.Step.{Effect, Equates, effect, truth, with_value, compare}
use Rattle.machine_model.specs.Leaner.{Kind, Older, whole, newer, HeightsAgree, at, MarksAgree, no_mark, a_mark, Renaming, GoalsAgree, TermsAgree, ItemsAgree, does, cuts, exits, idle, FramesAgree, frames, ChoicesAgree, CurrentsAgree, doing, IsLeaner, leaner}
use Rattle.machine_model.specs.Leaner as rel
use Rattle.machine_model.specs.LeanerLaws.{before_goal}
use Rattle.engine_state.specs.StepsMade.{equation, effect_of}
use Rattle.engine_state.specs.StepsMade as states
use Rattle.engine_state.specs.MoveLaws.{EquatedAlike}

-- effects

equates_inside : (x y a c : Term) → Equates x y ≡ Equates a c → (x ≡ a) × (y ≡ c)
equates_inside x y a c e = (cc, cc)

truth_other : (t : Bool) (a c : Term) → truth t ≡ Equates a c → ⊥
truth_other true a c e = cc
truth_other false a c e = cc

value_other : (f : ℤ → Effect) (v : Number) (a c : Term) → ((n : ℤ) → f n ≡ Equates a c → ⊥) → with_value f v ≡ Equates a c → ⊥
value_other f (Ok n) a c h e = h n e
value_other f (Err fault) a c h e = cc

compare_other : (test : ℤ → ℤ → Bool) (x y a c : Term) → compare test x y ≡ Equates a c → ⊥
compare_other test x y a c = value_other _ (value x) a c (λ m. value_other _ (value y) a c (λ n. truth_other (test m n) a c))

module _ (f : ℕ → Term) where
  -- what is equated keeps what keeps the arguments
  abbrev AreKept : Term → Term → Type 0
  AreKept a c = (instance f a ≡ a) × (instance f c ≡ c)

  number_kept : (n : ℤ) → instance f (Int n) ≡ Int n
  number_kept n = fold-Int Term (instance_step f) n

  is_kept : (x a c : Term) (v : Number) → instance f x ≡ x → with_value (λ n. Equates x (Int n)) v ≡ Equates a c → AreKept a c
  is_kept x a c (Ok n) kept e =
      let parts = equates_inside x (Int n) a c e in
      (subst (λ t. instance f t ≡ t) parts.0 kept, subst (λ t. instance f t ≡ t) parts.1 (number_kept n))
  is_kept x a c (Err fault) kept e = cc

  module _ (program : Program) (x y a c : Term) (kept : AreKept x y) where
    equates_kept : (b : Builtin) → effect program b x y ≡ Equates a c → AreKept a c
    equates_kept builtin.Unify e =
        let parts = equates_inside x y a c e in
        (subst (λ t. instance f t ≡ t) parts.0 kept.0, subst (λ t. instance f t ≡ t) parts.1 kept.1)
    equates_kept builtin.NotUnify e = cc
    equates_kept builtin.Same e = absurd (truth_other _ a c e)
    equates_kept builtin.NotSame e = absurd (truth_other _ a c e)
    equates_kept builtin.Is e = is_kept x a c (value y) kept.0 e
    equates_kept builtin.Less e = absurd (compare_other _ x y a c e)
    equates_kept builtin.Greater e = absurd (compare_other _ x y a c e)
    equates_kept builtin.LessEq e = absurd (compare_other _ x y a c e)
    equates_kept builtin.GreaterEq e = absurd (compare_other _ x y a c e)
    equates_kept builtin.NumEq e = absurd (compare_other _ x y a c e)
    equates_kept builtin.NumNotEq e = absurd (compare_other _ x y a c e)
    equates_kept builtin.Integer e = absurd (truth_other _ a c e)
    equates_kept builtin.Atom e = absurd (truth_other _ a c e)
    equates_kept builtin.Write e = cc
    equates_kept builtin.Writeq e = cc
    equates_kept builtin.Nl e = cc
    equates_kept (builtin.Belongs n) e = absurd (truth_other _ a c e)
    equates_kept builtin.IsVar e = absurd (truth_other _ a c e)
    equates_kept builtin.IsNonvar e = absurd (truth_other _ a c e)
    equates_kept builtin.IsGround e = absurd (truth_other _ a c e)

  -- arguments

  argument_kept : (args : List Term) (k : ℕ) (d : Term) → instance f d ≡ d → map (instance f) args ≡ args → instance f (slice_index_or args k d) ≡ slice_index_or args k d
  argument_kept args k d e are = at_place args k ∙ ap (λ ts. slice_index_or ts k d) are where
    at_place : (ts : List Term) (j : ℕ) → instance f (slice_index_or ts j d) ≡ slice_index_or (map (instance f) ts) j d
    at_place [] j = e
    at_place (t ∷ ts) zero = refl
    at_place (t ∷ ts) (suc j) = at_place ts j

  builtin_inside : (b : Builtin) (ts us : List Term) → goal.Builtin b ts ≡ goal.Builtin b us → ts ≡ us
  builtin_inside b ts us e = inside (sym (outs-Builtin b ts) ∙ ap out-Goal e ∙ outs-Builtin b us) where
    inside : ◌≡◌ {A = layer.Goal-F Goal} (layer.Builtin b ts) (layer.Builtin b us) → ts ≡ us
    inside e = cc

  goal_kept : (program : Program) (g : Goal) (b : Builtin) (args : List Term) (a c : Term) → g ≡ goal.Builtin b args → effect_of program b args ≡ Equates a c → goal_instance f g ≡ g → AreKept a c
  goal_kept program g b args a c is equates same =
      let args_same : map (instance f) args ≡ args = builtin_inside b (map (instance f) args) args (sym (at_builtin f b args) ∙ sym (ap (goal_instance f) is) ∙ same ∙ is) in
      let nil_same : instance f (Atom NIL) ≡ Atom NIL = fold-Atom Term (instance_step f) NIL in
      equates_kept program _ _ a c (argument_kept args 0 (Atom NIL) nil_same args_same, argument_kept args 1 (Atom NIL) nil_same args_same) b equates

-- values put into both sides

module _ (f g put put' : ℕ → Term) (square : (v : ℕ) → instance g (put v) ≡ instance put' (f v)) where
  put_term : (t : Term) → instance g (instance put t) ≡ instance put' (instance f t)
  put_term t = instance-instance g put t ∙ (λ i. instance (λ v. square v i) t) ∙ sym (instance-instance put' f t)

  put_terms : (ts ts' : List Term) → map (instance f) ts ≡ ts' → map (instance g) (map (instance put) ts) ≡ map (instance put') ts'
  put_terms ts ts' e = map_map (instance g) (instance put) ts ∙ (λ i. map (λ t. put_term t i) ts) ∙ sym (map_map (instance put') (instance f) ts) ∙ ap (map (instance put')) e

  put_goal : (x x' : Goal) → goal_instance f x ≡ x' → goal_instance g (goal_instance put x) ≡ goal_instance put' x'
  put_goal x x' e = goal_instance-instance g put x ∙ (λ i. goal_instance (λ v. square v i) x) ∙ sym (goal_instance-instance put' f x) ∙ ap (goal_instance put') e

module _ (there back there' back' put put' : ℕ → Term) (square : (v : ℕ) → instance there' (put v) ≡ instance put' (there v)) (square' : (v : ℕ) → instance back' (put' v) ≡ instance put (back v)) where
  terms_put : {ts ts' : List Term} → TermsAgree there back ts ts' → TermsAgree there' back' (map (instance put) ts) (map (instance put') ts')
  terms_put {ts} {ts'} are = record { is_there = put_terms there there' put put' square ts ts' are.is_there; is_back = put_terms back back' put' put square' ts' ts are.is_back }

  goals_put : {x x' : Goal} → GoalsAgree there back x x' → GoalsAgree there' back' (goal_instance put x) (goal_instance put' x')
  goals_put {x} {x'} are = record { is_there = put_goal there there' put put' square x x' are.is_there; is_back = put_goal back back' put' put square' x' x are.is_back }

  items_put : {ks : List Kind} {is is' : List Item} → ItemsAgree there back ks is is' → ItemsAgree there' back' ks (map (item_instance put) is) (map (item_instance put') is')
  items_put rel.none = rel.none
  items_put (does js g place rest) = does js (goals_put g) place (items_put rest)
  items_put (cuts js place rest) = cuts js place (items_put rest)
  items_put (exits args m rest) = exits (terms_put args) m (items_put rest)
  items_put (idle rest) = idle (items_put rest)

-- the names after both have got values
abbrev names_solved : {n n' : ℕ} → Renaming n n' → (put put' : ℕ → Term) → Renaming n n'
names_solved names put put' = record {
  there = λ v. instance put' (names.there v);
  back = λ v. instance put (names.back v);
  there_ends = λ v le. ap (instance put') (names.there_ends v le) ∙ fold-Atom Term (instance_step put') 0;
  back_ends = λ v le. ap (instance put) (names.back_ends v le) ∙ fold-Atom Term (instance_step put) 0;
}

solved_square : (there back : ℕ → Term) (es es' : List Equation) (put put' : ℕ → Term) → AreVariants there back es es' → IsMostGeneral es put → IsMostGeneral es' put' → (v : ℕ) → instance (λ w. instance put' (there w)) (put v) ≡ instance put' (there v)
solved_square there back es es' put put' are m m' v =
    ap (instance (λ w. instance put' (there w))) (sym (instance-Var put v)) ∙ general_variants there back es es' put put' are m m' (Var v) (there v) (instance-Var there v)

-- what most general values make of two frames
frames_solved : {ks : List Kind} {n n' : ℕ} {is is' : List Item} {query query' : Term} (names : Renaming n n') (es es' : List Equation) (put put' : ℕ → Term) →
    AreVariants names.there names.back es es' → IsMostGeneral es put → IsMostGeneral es' put' → ItemsAgree names.there names.back ks is is' → TermsAgree names.there names.back (query ∷ []) (query' ∷ []) →
    FramesAgree ks n n' (frame_instance put (record { items = is; query = query })) (frame_instance put' (record { items = is'; query = query' }))
frames_solved names es es' put put' are m m' items q =
    let back_are : AreVariants names.back names.there es' es = record { is_there = are.is_back; is_back = are.is_there } in
    let square = solved_square names.there names.back es es' put put' are m m' in
    let square' = solved_square names.back names.there es' es put' put back_are m' m in
    let all = names_solved names put put' in
    frames all (items_put names.there names.back all.there all.back put put' square square' items) (terms_put names.there names.back all.there all.back put put' square square' q)

-- what stands behind a goal

older_older : {ks js is : List Kind} → Older ks js → Older js is → Older ks is
older_older whole b = b
older_older (newer a) b = newer (older_older a b)

at_over : {ks js is : List Kind} {h h' : ℕ} → Older ks js → HeightsAgree js h h' is → HeightsAgree ks h h' is
at_over o (at below e e') = at (older_older o below) e e'

marks_over : {ks js : List Kind} {m m' : Option ℕ} → Older ks js → MarksAgree js m m' → MarksAgree ks m m'
marks_over o no_mark = no_mark
marks_over o (a_mark is below e e') = a_mark is (older_older o below) e e'

module _ (there back : ℕ → Term) where
  items_over : {ks js : List Kind} {is is' : List Item} → Older ks js → ItemsAgree there back js is is' → ItemsAgree there back ks is is'
  items_over o rel.none = rel.none
  items_over o (does is g place rest) = does is g (at_over o place) rest
  items_over o (cuts is place rest) = cuts is (at_over o place) rest
  items_over o (exits args m rest) = exits args (marks_over o m) (items_over o rest)
  items_over o (idle rest) = idle (items_over o rest)

record Behind (ks : List Kind) (n n' : ℕ) (g g' : Goal) (is is' : List Item) (query query' : Term) : Type 0 where
  names : Renaming n n'
  goals : GoalsAgree names.there names.back g g'
  items : ItemsAgree names.there names.back ks is is'
  queries : TermsAgree names.there names.back (query ∷ []) (query' ∷ [])

behind : {ks : List Kind} {n n' : ℕ} (g g' : Goal) (h h' : ℕ) (place place' : Place) (is is' : List Item) (query query' : Term) →
    FramesAgree ks n n' (record { items = Does g h place ∷ is; query = query }) (record { items = Does g' h' place' ∷ is'; query = query' }) → Behind ks n n' g g' is is' query query'
behind g g' h h' place place' is is' query query' (frames names (does js are (at o eh eh') items) q) = record {
  names = names;
  goals = are;
  items = items_over names.there names.back o items;
  queries = q;
}

parts_inside : (program : Program) (s s' : State) → IsLeaner program s s' → (ks : List Kind) × ChoicesAgree program s.fresh s'.fresh ks s.choices s'.choices × CurrentsAgree ks s.fresh s'.fresh s.current s'.current
parts_inside program s s' (leaner {ks = ks} ch are) = (ks, ch, are)

frames_inside : {ks : List Kind} {n n' : ℕ} (f f' : Frame) → CurrentsAgree ks n n' (Doing f) (Doing f') → FramesAgree ks n n' f f'
frames_inside f f' (doing are) = are

module _ (program : Program) (made n : ℕ) (cs : List Choice) (g : Goal) (b : Builtin) (args : List Term) (h : ℕ) (place : Place) (rest : Frame) (x y : Term) (is : g ≡ goal.Builtin b args) (equates : effect_of program b args ≡ Equates x y)
    (own : IsLeaner program (before_goal made n cs g h place rest) (before_goal made n cs g h place rest)) where
  equated : (one other : ℕ → Term) → IsMostGeneral (equation x y) one → IsMostGeneral (equation x y) other → IsLeaner program (states.doing made n cs (frame_instance one rest)) (states.doing made n cs (frame_instance other rest))
  equated one other m m' =
      let parts = parts_inside program (before_goal made n cs g h place rest) (before_goal made n cs g h place rest) own in
      let rests = behind g g h h place place rest.items rest.items rest.query rest.query (frames_inside _ _ parts.2) in
      let there_kept = goal_kept rests.names.there program g b args x y is equates rests.goals.is_there in
      let back_kept = goal_kept rests.names.back program g b args x y is equates rests.goals.is_back in
      let variants : AreVariants rests.names.there rests.names.back (equation x y) (equation x y) = record { is_there = λ i. equation (there_kept.0 i) (there_kept.1 i); is_back = λ i. equation (back_kept.0 i) (back_kept.1 i) } in
      leaner parts.1 (doing (frames_solved rests.names (equation x y) (equation x y) one other variants m m' rests.items rests.queries))

pub equated_alike : (program : Program) → EquatedAlike program
equated_alike program = record {
  alike = λ made n cs g b args h place rest x y one other is equates own m m'. equated program made n cs g b args h place rest x y is equates own one other m m';
  solved = λ made n cs g b args h place rest x y bs value is equates own ends m.
      let found : IsMostGeneral (equation x y) (values bs) = is_general (equation x y) bs ends in
      (equated program made n cs g b args h place rest x y is equates own (values bs) value found m, equated program made n cs g b args h place rest x y is equates own value (values bs) m found);
}

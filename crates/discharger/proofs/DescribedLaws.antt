-- What is described stays so where less is known of variables, and where variables are bound.
use Rattle.std.proofs.Common.{◌≡◌, inl, inr, ℕ, Bool, List, [], ◌∷◌, map, refl, ap, sym, ◌∙◌, subst}
use Rattle.std.specs.Prelude.{Option, None, Some, IsTrue}
use Rattle.std.specs.List.{AllByRecursion}
use Rattle.term_core.specs.declared.terms.Term.{Term}
use Rattle.term_core.specs.Terms.{instance}
use Rattle.term_core.proofs.TermLaws.{instance-instance}
use Rattle.prog_data.specs.declared.goals.Goal.{Goal, True, Fail, Cut, Call, Builtin, Conj, Disj, IfElse, Not, Exit}
use Rattle.prog_data.proofs.GoalFolds.{fold-True, fold-Fail, fold-Cut, fold-Call, fold-Builtin, fold-Conj, fold-Disj, fold-IfElse, fold-Not, fold-Exit, ind_goals}
use Rattle.prog_data.specs.declared.programs.Program.{Program}
use Rattle.prog_data.specs.Goals.{goal_instance, goal_instance_step}
use Rattle.prog_data.specs.Values.{TypeValue, IsIn}
use Rattle.name_order.specs.Relations.{order}
use Rattle.type_domain.specs.Laws.{LeqEach}
use Rattle.machine_model.specs.State.{Item, Does, CutTo, Exits, item_instance}
use Rattle.discharger.proofs.Narrowing.{narrowing}
use Rattle.discharger.specs.ReliedOn.{ReliedOn}
use Rattle.goal_transfer.specs.Transfer.{Values, Known, ReachedCall, Outcome, from_known}
use Rattle.goal_transfer.specs.Tables.{Facts, facts_of, exits_of, IsReached}
use Rattle.goal_transfer.specs.Lower.{AllLeq, KnownLeq, ArgumentsLeq, HasLarger, CallsLeq, OutcomeLeq}
use Rattle.discharger.proofs.InValues.{KnownIn}
use Rattle.discharger.proofs.Described.{run, ExitsAs, NotedAt, Behind, GoalDescribed, ItemsDescribed, FrameDescribed}

-- from less what comes is less
from_lower : (a b : Known) (f g : Values → Outcome) → KnownLeq a b → ((vs ws : Values) → AllLeq vs ws → OutcomeLeq (f vs) (g ws)) → OutcomeLeq (from_known a f) (from_known b g)
from_lower None b f g l h = record { known = tt; calls = tt }
from_lower (Some vs) None f g l h = absurd l
from_lower (Some vs) (Some ws) f g l h = h vs ws l

-- instances of instances

module _ (f value : ℕ → Term) where
  pub terms_twice : (ts : List Term) → map (instance f) (map (instance value) ts) ≡ map (instance (λ v. instance f (value v))) ts
  terms_twice [] = refl
  terms_twice (t ∷ ts) = ap (λ x. x ∷ map (instance f) (map (instance value) ts)) (instance-instance f value t) ∙ ap (λ xs. instance (λ v. instance f (value v)) t ∷ xs) (terms_twice ts)

  abbrev Twice : Goal → Type 0
  Twice g = goal_instance f (goal_instance value g) ≡ goal_instance (λ v. instance f (value v)) g

  once : (g h : Goal) → goal_instance value g ≡ h → goal_instance f (goal_instance value g) ≡ goal_instance f h
  once g h e = ap (goal_instance f) e

  pub goal_twice : (g : Goal) → Twice g
  goal_twice = ind_goals Twice
      (once True _ (fold-True _ (goal_instance_step value)) ∙ fold-True _ (goal_instance_step f) ∙ sym (fold-True _ (goal_instance_step (λ v. instance f (value v)))))
      (once Fail _ (fold-Fail _ (goal_instance_step value)) ∙ fold-Fail _ (goal_instance_step f) ∙ sym (fold-Fail _ (goal_instance_step (λ v. instance f (value v)))))
      (once Cut _ (fold-Cut _ (goal_instance_step value)) ∙ fold-Cut _ (goal_instance_step f) ∙ sym (fold-Cut _ (goal_instance_step (λ v. instance f (value v)))))
      (λ p ts. once (Call p ts) _ (fold-Call _ (goal_instance_step value) p ts) ∙ fold-Call _ (goal_instance_step f) p _ ∙ ap (Call p) (terms_twice ts) ∙ sym (fold-Call _ (goal_instance_step (λ v. instance f (value v))) p ts))
      (λ b ts. once (Builtin b ts) _ (fold-Builtin _ (goal_instance_step value) b ts) ∙ fold-Builtin _ (goal_instance_step f) b _ ∙ ap (Builtin b) (terms_twice ts) ∙ sym (fold-Builtin _ (goal_instance_step (λ v. instance f (value v))) b ts))
      (λ a b h k. once (Conj a b) _ (fold-Conj _ (goal_instance_step value) a b) ∙ fold-Conj _ (goal_instance_step f) _ _ ∙ ap (λ x. Conj x (goal_instance f (goal_instance value b))) h ∙ ap (Conj (goal_instance (λ v. instance f (value v)) a)) k
      ∙ sym (fold-Conj _ (goal_instance_step (λ v. instance f (value v))) a b))
      (λ a b h k. once (Disj a b) _ (fold-Disj _ (goal_instance_step value) a b) ∙ fold-Disj _ (goal_instance_step f) _ _ ∙ ap (λ x. Disj x (goal_instance f (goal_instance value b))) h ∙ ap (Disj (goal_instance (λ v. instance f (value v)) a)) k
      ∙ sym (fold-Disj _ (goal_instance_step (λ v. instance f (value v))) a b))
      (λ c a b i h k. once (IfElse c a b) _ (fold-IfElse _ (goal_instance_step value) c a b) ∙ fold-IfElse _ (goal_instance_step f) _ _ _
      ∙ ap (λ x. IfElse x (goal_instance f (goal_instance value a)) (goal_instance f (goal_instance value b))) i
      ∙ ap (λ x. IfElse (goal_instance (λ v. instance f (value v)) c) x (goal_instance f (goal_instance value b))) h
      ∙ ap (IfElse (goal_instance (λ v. instance f (value v)) c) (goal_instance (λ v. instance f (value v)) a)) k
      ∙ sym (fold-IfElse _ (goal_instance_step (λ v. instance f (value v))) c a b))
      (λ a h. once (Not a) _ (fold-Not _ (goal_instance_step value) a) ∙ fold-Not _ (goal_instance_step f) _ ∙ ap Not h ∙ sym (fold-Not _ (goal_instance_step (λ v. instance f (value v))) a))
      (once Exit _ (fold-Exit _ (goal_instance_step value)) ∙ fold-Exit _ (goal_instance_step f) ∙ sym (fold-Exit _ (goal_instance_step (λ v. instance f (value v)))))

module _ (stops : Bool) (program : Program) (rows : List Facts) (relied : ReliedOn program.grammar) where
  -- lower values

  each_itself : (vs : List TypeValue) → LeqEach vs vs
  each_itself [] = tt
  each_itself (v ∷ vs) = (relied.ordered.reflexive v, each_itself vs)

  pub each_over : (vs ws xs : List TypeValue) → LeqEach vs ws → LeqEach ws xs → LeqEach vs xs
  each_over [] [] [] l m = tt
  each_over [] [] (x ∷ xs) l m = absurd m
  each_over [] (w ∷ ws) xs l m = absurd l
  each_over (v ∷ vs) [] xs l m = absurd l
  each_over (v ∷ vs) (w ∷ ws) [] l m = absurd m
  each_over (v ∷ vs) (w ∷ ws) (x ∷ xs) l m = (relied.ordered.transitive v w x l.0 m.0, each_over vs ws xs l.1 m.1)

  same_exits : (es : Option (List TypeValue)) → ArgumentsLeq es es
  same_exits None = tt
  same_exits (Some vs) = each_itself vs

  run_lower : (k l : Known) (g : Goal) → KnownLeq k l → OutcomeLeq (run stops program rows k g) (run stops program rows l g)
  run_lower k l g h = from_lower k l _ _ h (λ vs ws a. relied.lower_goals (exits_of (narrowing stops program) (order program.grammar) rows) (exits_of (narrowing stops program) (order program.grammar) rows) (λ p. same_exits (exits_of (narrowing stops program) (order program.grammar) rows p)) g vs ws a)

  larger_reached : (c : ReachedCall) (ds : List ReachedCall) → HasLarger c ds → AllByRecursion (IsReached rows) ds → IsReached rows c
  larger_reached c [] h r = absurd h
  larger_reached c (d ∷ ds) (inl l) r = (subst (λ p. IsTrue (facts_of rows p).reached) (sym l.0) r.0.0, each_over _ _ _ l.1 (subst (λ p. LeqEach d.1 (facts_of rows p).entry) (sym l.0) r.0.1))
  larger_reached c (d ∷ ds) (inr h) r = larger_reached c ds h r.1

  reached_lower : (cs ds : List ReachedCall) → CallsLeq cs ds → AllByRecursion (IsReached rows) ds → AllByRecursion (IsReached rows) cs
  reached_lower [] ds l r = tt
  reached_lower (c ∷ cs) ds l r = (larger_reached c ds l.0 r, reached_lower cs ds l.1 r)

  exits_lower : (value : ℕ → Term) (head : List Term) (k l : Known) (p : ℕ) (args : List Term) → KnownLeq k l → ExitsAs stops program rows value head l p args → ExitsAs stops program rows value head k p args
  exits_lower value head None l p args h e = tt
  exits_lower value head (Some vs) None p args h e = absurd h
  exits_lower value head (Some vs) (Some ws) p args h e = (e.0, (e.1.0, each_over _ _ _ (relied.lower_values vs ws h head) e.1.1))

  goal_lowered : (Goes Goes' : Known → Type 0) → ((k l : Known) → KnownLeq k l → Goes l → Goes' k) → (value : ℕ → Term) (k l : Known) (h : Goal) → KnownLeq k l → GoalDescribed stops program rows Goes value l h → GoalDescribed stops program rows Goes' value k h
  goal_lowered Goes Goes' go value k l h le d =
      let r = run_lower k l d.goal le in
      record { goal = d.goal; is = d.is; calls = reached_lower _ _ r.calls d.calls; goes = go _ _ r.known d.goes }

  -- items are described from lower values too
  pub lowered : (value : ℕ → Term) (head : List Term) (items : List Item) (k l : Known) → KnownLeq k l → ItemsDescribed stops program rows value head l items → ItemsDescribed stops program rows value head k items
  lowered value head [] k l le d = tt
  lowered value head (Does g height place ∷ items) k l le d = goal_lowered _ _ (lowered value head items) value k l g le d
  lowered value head (CutTo height ∷ items) k l le d = lowered value head items k l le d
  lowered value head (Exits p args noted mark ∷ items) k l le d = record { exits = exits_lower value head k l p args le d.exits; noted = d.noted; rest = d.rest }

  -- bound variables

  module _ (f : ℕ → Term) where
    pub in_kept : (t : Term) (v : TypeValue) → IsIn program.grammar t v → IsIn program.grammar (instance f t) v
    in_kept t None h = absurd h
    in_kept t (Some p) h = λ n e. relied.persists f t n (h n e)

    exits_kept : (value : ℕ → Term) (head : List Term) (k : Known) (p : ℕ) (args : List Term) → ExitsAs stops program rows value head k p args → ExitsAs stops program rows (λ v. instance f (value v)) head k p (map (instance f) args)
    exits_kept value head None p args e = tt
    exits_kept value head (Some vs) p args e = (sym (terms_twice f value head) ∙ ap (map (instance f)) e.0, e.1)

    pub noted_kept : (p : ℕ) (args : List Term) (noted : List ℕ) → NotedAt stops program rows p args noted → NotedAt stops program rows p (map (instance f) args) noted
    noted_kept p args noted n = record { implied = n.implied; own = n.own; pre = λ c pre post i e. relied.values_persist f args _ (n.pre c pre post i e) }

    goal_bound : (Goes Goes' : Known → Type 0) → ((k : Known) → Goes k → Goes' k) → (value : ℕ → Term) (k : Known) (h : Goal) → GoalDescribed stops program rows Goes value k h →
        GoalDescribed stops program rows Goes' (λ v. instance f (value v)) k (goal_instance f h)
    goal_bound Goes Goes' go value k h d = record { goal = d.goal; is = sym (goal_twice f value d.goal) ∙ ap (goal_instance f) d.is; calls = d.calls; goes = go _ d.goes }

    pub behind_bound : (Goes Goes' : (ℕ → Term) → List Term → Known → Type 0) → ((value : ℕ → Term) (head : List Term) (k : Known) → Goes value head k → Goes' (λ v. instance f (value v)) head k) → (p : ℕ) (args : List Term) →
        Behind stops program rows Goes p args → Behind stops program rows Goes' p (map (instance f) args)
    behind_bound Goes Goes' go p args d = record {
      value = λ v. instance f (d.value v);
      head = d.head;
      known = d.known;
      terms = d.terms;
      called = sym (terms_twice f d.value d.terms) ∙ ap (map (instance f)) d.called;
      belong = λ v. in_kept (d.value v) (d.known v) (d.belong v);
      goes = go d.value d.head _ d.goes;
    }

    -- items are described when variables are bound
    pub bound : (items : List Item) (value : ℕ → Term) (head : List Term) (k : Known) → ItemsDescribed stops program rows value head k items → ItemsDescribed stops program rows (λ v. instance f (value v)) head k (map (item_instance f) items)
    bound [] value head k d = tt
    bound (Does g height place ∷ items) value head k d = goal_bound _ _ (bound items value head) value k g d
    bound (CutTo height ∷ items) value head k d = bound items value head k d
    bound (Exits p args noted mark ∷ items) value head k d =
        record { exits = exits_kept value head k p args d.exits; noted = noted_kept p args noted d.noted; rest = behind_bound _ _ (bound items) p args d.rest }

  -- items from what is known of variables whose values are in it
  pub described_from : (value : ℕ → Term) (head : List Term) (k : Known) (items : List Item) → KnownIn program.grammar value k → ItemsDescribed stops program rows value head k items → FrameDescribed stops program rows items
  described_from value head None items b d = absurd b
  described_from value head (Some vs) items b d = record { value = value; head = head; known = vs; belong = b; goes = d }

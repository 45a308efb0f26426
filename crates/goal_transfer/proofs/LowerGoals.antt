-- Lower values, and lower exits, give lower outcomes: goals.
use Rattle.std.proofs.Common.{◌≡◌, inl, inr, ℕ, List, [], ◌∷◌, ◌++◌, refl, sym, subst}
use Rattle.std.specs.Prelude.{slice_index_or, Option, None, Some}
use Rattle.term_core.specs.declared.terms.Term.{Term}
use Rattle.term_core.specs.declared.terms.Term as term
use Rattle.prog_data.specs.declared.goals.Goal.{Goal, True, Fail, Cut, Call, Builtin, Conj, Disj, IfElse, Not, Exit}
use Rattle.prog_data.proofs.GoalFolds.{fold-True, fold-Fail, fold-Cut, fold-Call, fold-Builtin, fold-Conj, fold-Disj, fold-IfElse, fold-Not, fold-Exit, ind_goals}
use Rattle.prog_data.specs.Values.{TypeValue}
use Rattle.name_order.specs.Relations.{Order}
use Rattle.type_domain.specs.Laws.{AreOrdered, AreMonotone}
use Rattle.goal_transfer.specs.Transfer.{Values, Known, ReachedCall, Outcome, Exits, from_known, then_outcome, join_known, either_outcome, behind_call, outcome_step, run_goal}
use Rattle.goal_transfer.specs.Lower.{AllLeq, KnownLeq, ArgumentsLeq, HasLarger, CallsLeq, OutcomeLeq}
use Rattle.goal_transfer.specs.Laws.{GoalsMonotone}
use Rattle.goal_transfer.proofs.LowerValues.{values_leq, push_each_leq, builtin_leq}

larger_left : (c : ReachedCall) (xs ys : List ReachedCall) → HasLarger c xs → HasLarger c (xs ++ ys)
larger_left c [] ys h = absurd h
larger_left c (x ∷ xs) ys (inl h) = inl h
larger_left c (x ∷ xs) ys (inr h) = inr (larger_left c xs ys h)

larger_right : (c : ReachedCall) (xs ys : List ReachedCall) → HasLarger c ys → HasLarger c (xs ++ ys)
larger_right c [] ys h = h
larger_right c (x ∷ xs) ys h = inr (larger_right c xs ys h)

calls_left : (cs ds es : List ReachedCall) → CallsLeq cs ds → CallsLeq cs (ds ++ es)
calls_left [] ds es h = tt
calls_left (c ∷ cs) ds es h = (larger_left c ds es h.0, calls_left cs ds es h.1)

calls_right : (cs ds es : List ReachedCall) → CallsLeq cs es → CallsLeq cs (ds ++ es)
calls_right [] ds es h = tt
calls_right (c ∷ cs) ds es h = (larger_right c ds es h.0, calls_right cs ds es h.1)

calls_both : (as' bs cs ds : List ReachedCall) → CallsLeq as' bs → CallsLeq cs ds → CallsLeq (as' ++ cs) (bs ++ ds)
calls_both [] bs cs ds h k = calls_right cs bs ds k
calls_both (a ∷ as') bs cs ds h k = (larger_left a bs ds h.0, calls_both as' bs cs ds h.1 k)

pub from_lower : (a b : Known) (f g : Values → Outcome) → KnownLeq a b → ((vs ws : Values) → AllLeq vs ws → OutcomeLeq (f vs) (g ws)) → OutcomeLeq (from_known a f) (from_known b g)
from_lower None b f g l h = record { known = tt; calls = tt }
from_lower (Some vs) None f g l h = absurd l
from_lower (Some vs) (Some ws) f g l h = h vs ws l

then_lower : (a b : Outcome) (f g : Values → Outcome) → OutcomeLeq a b → ((vs ws : Values) → AllLeq vs ws → OutcomeLeq (f vs) (g ws)) → OutcomeLeq (then_outcome a f) (then_outcome b g)
then_lower a b f g l h =
    let m = from_lower a.known b.known f g l.known h in
    record { known = m.known; calls = calls_both _ _ _ _ l.calls m.calls }

module _ (o : Order) (ordered : AreOrdered o) (mono : AreMonotone o) where
  pub join_lower : (a b c d : Known) → KnownLeq a c → KnownLeq b d → KnownLeq (join_known a b) (join_known c d)
  join_lower None b None d l m = m
  join_lower None None (Some vs) d l m = tt
  join_lower None (Some ws) (Some vs) None l m = absurd m
  join_lower None (Some ws) (Some vs) (Some xs) l m = λ v. ordered.transitive _ _ _ (m v) (ordered.second_join (vs v) (xs v))
  join_lower (Some vs) b None d l m = absurd l
  join_lower (Some vs) None (Some ws) None l m = l
  join_lower (Some vs) None (Some ws) (Some xs) l m = λ v. ordered.transitive _ _ _ (l v) (ordered.first_join (ws v) (xs v))
  join_lower (Some vs) (Some us) (Some ws) None l m = absurd m
  join_lower (Some vs) (Some us) (Some ws) (Some xs) l m = λ v. mono.join _ _ _ _ (l v) (m v)

  either_lower : (a b c d : Outcome) → OutcomeLeq a c → OutcomeLeq b d → OutcomeLeq (either_outcome a b) (either_outcome c d)
  either_lower a b c d l m = record { known = join_lower a.known b.known c.known d.known l.known m.known; calls = calls_both _ _ _ _ l.calls m.calls }

  module _ (exits exits' : Exits) (lower : (p : ℕ) → ArgumentsLeq (exits p) (exits' p)) where
    abbrev pub Lower : Goal → Type 0
    Lower g = (vs ws : Values) → AllLeq vs ws → OutcomeLeq (run_goal o exits g vs) (run_goal o exits' g ws)

    at_goal : (g : Goal) (go go' : Values → Outcome) → run_goal o exits g ≡ go → run_goal o exits' g ≡ go' → ((vs ws : Values) → AllLeq vs ws → OutcomeLeq (go vs) (go' ws)) → Lower g
    at_goal g go go' e e' h vs ws a = subst (λ x. OutcomeLeq (x vs) (run_goal o exits' g ws)) (sym e) (subst (λ x. OutcomeLeq (go vs) (x ws)) (sym e') (h vs ws a))

    behind_lower : (es es' : Option (List TypeValue)) (ts : List Term) (vs ws : Values) → ArgumentsLeq es es' → AllLeq vs ws → KnownLeq (behind_call o exits es ts vs) (behind_call o exits' es' ts ws)
    behind_lower None es' ts vs ws l a = tt
    behind_lower (Some us) None ts vs ws l a = absurd l
    behind_lower (Some us) (Some xs) ts vs ws l a = push_each_leq o ordered mono ts us xs l vs ws a

    pub goal_lower : (g : Goal) → Lower g
    goal_lower = ind_goals Lower
        (at_goal True _ _ (fold-True _ (outcome_step o exits)) (fold-True _ (outcome_step o exits')) (λ vs ws a. record { known = a; calls = tt }))
        (at_goal Fail _ _ (fold-Fail _ (outcome_step o exits)) (fold-Fail _ (outcome_step o exits')) (λ vs ws a. record { known = tt; calls = tt }))
        (at_goal Cut _ _ (fold-Cut _ (outcome_step o exits)) (fold-Cut _ (outcome_step o exits')) (λ vs ws a. record { known = a; calls = tt }))
        (λ p ts. at_goal (Call p ts) _ _ (fold-Call _ (outcome_step o exits) p ts) (fold-Call _ (outcome_step o exits') p ts)
        (λ vs ws a. record { known = behind_lower (exits p) (exits' p) ts vs ws (lower p) a; calls = (inl (refl, values_leq o ordered mono vs ws a ts), tt) }))
        (λ b ts. at_goal (Builtin b ts) _ _ (fold-Builtin _ (outcome_step o exits) b ts) (fold-Builtin _ (outcome_step o exits') b ts)
        (λ vs ws a. record { known = builtin_leq o ordered mono b (slice_index_or ts 0 (term.Atom 0)) (slice_index_or ts 1 (term.Atom 0)) vs ws a; calls = tt }))
        (λ a b h k. at_goal (Conj a b) _ _ (fold-Conj _ (outcome_step o exits) a b) (fold-Conj _ (outcome_step o exits') a b) (λ vs ws l. then_lower _ _ _ _ (h vs ws l) k))
        (λ a b h k. at_goal (Disj a b) _ _ (fold-Disj _ (outcome_step o exits) a b) (fold-Disj _ (outcome_step o exits') a b) (λ vs ws l. either_lower _ _ _ _ (h vs ws l) (k vs ws l)))
        (λ c a b i h k. at_goal (IfElse c a b) _ _ (fold-IfElse _ (outcome_step o exits) c a b) (fold-IfElse _ (outcome_step o exits') c a b)
        (λ vs ws l. either_lower _ _ _ _ (then_lower _ _ _ _ (i vs ws l) h) (k vs ws l)))
        (λ a h. at_goal (Not a) _ _ (fold-Not _ (outcome_step o exits) a) (fold-Not _ (outcome_step o exits') a) (λ vs ws l. record { known = l; calls = (h vs ws l).calls }))
        (at_goal Exit _ _ (fold-Exit _ (outcome_step o exits)) (fold-Exit _ (outcome_step o exits')) (λ vs ws a. record { known = a; calls = tt }))

pub goals_monotone : (o : Order) → AreOrdered o → AreMonotone o → GoalsMonotone o
goals_monotone o ordered mono exits exits' lower g vs ws a = goal_lower o ordered mono exits exits' lower g vs ws a

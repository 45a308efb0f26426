-- What comes of goals one after the other, or on two ways, as it is found; how large goals are.
use Rattle.std.proofs.Common.{◌≡◌, ℕ, ◌+◌, List, ◌++◌, length, take, drop, ap, sym, ◌∙◌, append_assoc}
use Rattle.std.proofs.lemmas.List.{take_at}
use Rattle.std.specs.Prelude.{Result, Ok, Err, OnOk}
use Rattle.prog_data.specs.declared.goals.Goal.{Goal}
use Rattle.prog_data.specs.declared.goals.Goal as goal
use Rattle.prog_data.specs.declared.goals.Goal.TheOpen as layer
use Rattle.prog_data.specs.declared.goals.Goal.TheFolds.{fold-Goal}
use Rattle.prog_data.proofs.GoalFolds.{fold-Conj, fold-Disj, fold-IfElse, fold-Not}
use Rattle.name_order.specs.Relations.{Order}
use Rattle.goal_transfer.specs.Transfer.{Values, Known, ReachedCall, Outcome, then_outcome, join_known, either_outcome, Exits, outcome_step, run_goal}

-- what a list has, once a slice of all of it was written
pub written_back : {A : Type 0} (new old : List A) (n : ℕ) → n ≡ length new → take n (new ++ drop (length new) old) ≡ new
written_back new old n e = take_at new (drop (length new) old) n (sym e)

-- two ways

pub either_known : (a b : Outcome) (first second new : Known) → first ≡ a.known → second ≡ b.known → new ≡ join_known first second → new ≡ (either_outcome a b).known
either_known a b first second new e f is = is ∙ ap (λ k. join_known k second) e ∙ ap (join_known a.known) f

pub either_calls : (a b : Outcome) (old mid new : List ReachedCall) → mid ≡ old ++ a.calls → new ≡ mid ++ b.calls → new ≡ old ++ (either_outcome a b).calls
either_calls a b old mid new before is = is ∙ ap (λ cs. cs ++ b.calls) before ∙ append_assoc old a.calls b.calls

-- a goal with another behind it, or a third
pub if_runs : (o : Order) (exits : Exits) (g c a b x y z : Goal) (vs : Values) → g ≡ goal.IfElse c a b → x ≡ c → y ≡ a → z ≡ b →
    either_outcome (then_outcome (run_goal o exits x vs) (run_goal o exits y)) (run_goal o exits z vs) ≡ run_goal o exits g vs
if_runs o exits g c a b x y z vs is e f h =
    (λ i. either_outcome (then_outcome (run_goal o exits (e i) vs) (run_goal o exits (f i))) (run_goal o exits (h i) vs)) ∙ sym (ap (λ go. go vs) (fold-IfElse _ (outcome_step o exits) c a b)) ∙ ap (λ g. run_goal o exits g vs) (sym is)

-- what holds, holds of each answer
pub on_ok : {A E P : Type 0} (r : Result A E) → P → OnOk r P
on_ok (Ok x) p = p
on_ok (Err e) p = tt

-- how large a goal is

abbrev pub weight_step : layer.Goal-F ℕ → ℕ
weight_step (layer.Conj a b) = a + b + 1
weight_step (layer.Disj a b) = a + b + 1
weight_step (layer.IfElse c a b) = c + a + b + 2
weight_step (layer.Not a) = a + 1
weight_step other = 1

abbrev pub weight : Goal → ℕ
weight = fold-Goal ℕ weight_step

pub weight_conj : (g a b : Goal) → g ≡ goal.Conj a b → weight g ≡ weight a + weight b + 1
weight_conj g a b is = ap weight is ∙ fold-Conj ℕ weight_step a b

pub weight_disj : (g a b : Goal) → g ≡ goal.Disj a b → weight g ≡ weight a + weight b + 1
weight_disj g a b is = ap weight is ∙ fold-Disj ℕ weight_step a b

pub weight_if : (g c a b : Goal) → g ≡ goal.IfElse c a b → weight g ≡ weight c + weight a + weight b + 2
weight_if g c a b is = ap weight is ∙ fold-IfElse ℕ weight_step c a b

pub weight_not : (g a : Goal) → g ≡ goal.Not a → weight g ≡ weight a + 1
weight_not g a is = ap weight is ∙ fold-Not ℕ weight_step a

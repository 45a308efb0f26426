-- What an instrumented program's checks and bodies say.
use Rattle.std.proofs.Common.{◌≡◌, ℕ, zero, suc, true, false, List, [], ◌∷◌, ◌++◌, map, refl, ap, sym, ◌∙◌}
use Rattle.std.proofs.lemmas.Grind.{flat_map-append}
use Rattle.std.proofs.lemmas.List.{append-nil}
use Rattle.std.specs.Prelude.{flat_map, slice_get, slice_index_or, option_map, if◌then◌else◌}
use Rattle.prog_data.specs.declared.goals.Goal.{Goal, out-Goal, roll-Goal, roll-out-Goal}
use Rattle.prog_data.specs.declared.goals.Goal as goal
use Rattle.prog_data.specs.declared.goals.Goal.TheVariants.{rolls-True, outs-Exit, outs-Conj}
use Rattle.prog_data.specs.declared.goals.Goal.TheOpen.{Goal-F, True, Fail, Cut, Call, Builtin, Conj, Disj, IfElse, Not, Exit}
use Rattle.prog_data.specs.declared.programs.Check.TheVariants as check
use Rattle.prog_data.specs.declared.programs.Clause.{Clause}
use Rattle.prog_data.specs.declared.programs.Pred.{Pred}
use Rattle.prog_data.specs.declared.programs.Program.{Program}
use Rattle.prog_data.specs.declared.tables.Status.{Status}
use Rattle.prog_data.specs.Goals.{no_pred, ends_in_exit, ends_in_exit_at, without_exit, without_exit_at, is_exit, checked_at_call, checked_by_note}
use Rattle.machine_model.specs.Tests.{all_looks, kept_looks, only_looks, checked_by_mark}
use Rattle.machine_model.specs.Instrumented.{is_kept, one_mark, with_exit, with_exit_at, instrumented_pred}

calls_calls : (cs : List ℕ) → flat_map checked_at_call (map check.Calls cs) ≡ cs
calls_calls [] = refl
calls_calls (c ∷ cs) = ap (λ xs. c ∷ xs) (calls_calls cs)

calls_notes : (cs : List ℕ) → flat_map checked_at_call (map check.Note cs) ≡ []
calls_notes [] = refl
calls_notes (c ∷ cs) = calls_notes cs

calls_mark : (cs : List ℕ) → flat_map checked_at_call (one_mark cs) ≡ []
calls_mark [] = refl
calls_mark (c ∷ cs) = refl

notes_calls : (cs : List ℕ) → flat_map checked_by_note (map check.Calls cs) ≡ []
notes_calls [] = refl
notes_calls (c ∷ cs) = notes_calls cs

notes_notes : (cs : List ℕ) → flat_map checked_by_note (map check.Note cs) ≡ cs
notes_notes [] = refl
notes_notes (c ∷ cs) = ap (λ xs. c ∷ xs) (notes_notes cs)

notes_mark : (cs : List ℕ) → flat_map checked_by_note (one_mark cs) ≡ []
notes_mark [] = refl
notes_mark (c ∷ cs) = refl

marks_calls : (cs : List ℕ) → flat_map checked_by_mark (map check.Calls cs) ≡ []
marks_calls [] = refl
marks_calls (c ∷ cs) = marks_calls cs

marks_notes : (cs : List ℕ) → flat_map checked_by_mark (map check.Note cs) ≡ []
marks_notes [] = refl
marks_notes (c ∷ cs) = marks_notes cs

marks_mark : (cs : List ℕ) → flat_map checked_by_mark (one_mark cs) ≡ cs
marks_mark [] = refl
marks_mark (c ∷ cs) = append-nil (c ∷ cs)

three : {X : Type 0} (f : X → List ℕ) (a b c : List X) → flat_map f (a ++ b ++ c) ≡ flat_map f a ++ flat_map f b ++ flat_map f c
three f a b c = flat_map-append f (a ++ b) c ∙ ap (λ xs. xs ++ flat_map f c) (flat_map-append f a b)

-- the call checks of a predicate are its kept conditions
pub looks_same : (program : Program) (statuses : List Status) (pred : Pred) → kept_looks (instrumented_pred program statuses pred) ≡ only_looks (is_kept statuses) (all_looks program pred)
looks_same program statuses pred =
    let l = only_looks (is_kept statuses) (all_looks program pred) in
    let a : flat_map checked_at_call (map check.Calls l.calls ++ map check.Note l.notes ++ one_mark l.marks) ≡ l.calls =
    three checked_at_call (map check.Calls l.calls) (map check.Note l.notes) (one_mark l.marks) ∙ ap (λ xs. xs ++ flat_map checked_at_call (map check.Note l.notes) ++ flat_map checked_at_call (one_mark l.marks)) (calls_calls l.calls)
    ∙ ap (λ xs. l.calls ++ xs ++ flat_map checked_at_call (one_mark l.marks)) (calls_notes l.notes) ∙ ap (λ xs. l.calls ++ [] ++ xs) (calls_mark l.marks) ∙ append-nil (l.calls ++ []) ∙ append-nil l.calls in
    let b : flat_map checked_by_note (map check.Calls l.calls ++ map check.Note l.notes ++ one_mark l.marks) ≡ l.notes =
    three checked_by_note (map check.Calls l.calls) (map check.Note l.notes) (one_mark l.marks) ∙ ap (λ xs. xs ++ flat_map checked_by_note (map check.Note l.notes) ++ flat_map checked_by_note (one_mark l.marks)) (notes_calls l.calls)
    ∙ ap (λ xs. xs ++ flat_map checked_by_note (one_mark l.marks)) (notes_notes l.notes) ∙ ap (λ xs. l.notes ++ xs) (notes_mark l.marks) ∙ append-nil l.notes in
    let c : flat_map checked_by_mark (map check.Calls l.calls ++ map check.Note l.notes ++ one_mark l.marks) ≡ l.marks =
    three checked_by_mark (map check.Calls l.calls) (map check.Note l.notes) (one_mark l.marks) ∙ ap (λ xs. xs ++ flat_map checked_by_mark (map check.Note l.notes) ++ flat_map checked_by_mark (one_mark l.marks)) (marks_calls l.calls)
    ∙ ap (λ xs. xs ++ flat_map checked_by_mark (one_mark l.marks)) (marks_notes l.notes) ∙ marks_mark l.marks in
    λ i. record { calls = a i; notes = b i; marks = c i }

-- a body with Exit at its end, without it

conj_exit : (body : Goal) → without_exit (goal.Conj body goal.Exit) ≡ body
conj_exit body = ap (without_exit_at (goal.Conj body goal.Exit)) (outs-Conj body goal.Exit) ∙ ap (λ g. if is_exit g then body else goal.Conj body goal.Exit) outs-Exit

conj_ends : (body : Goal) → ends_in_exit (goal.Conj body goal.Exit) ≡ true
conj_ends body = ap ends_in_exit_at (outs-Conj body goal.Exit) ∙ ap is_exit outs-Exit

pub body_same : (body : Goal) (g : Goal-F Goal) → out-Goal body ≡ g → ends_in_exit_at g ≡ false → without_exit (with_exit_at body g) ≡ body
body_same body True e no_exit = ap (without_exit_at goal.Exit) outs-Exit ∙ sym rolls-True ∙ ap roll-Goal (sym e) ∙ roll-out-Goal body
body_same body Fail e no_exit = conj_exit body
body_same body Cut e no_exit = conj_exit body
body_same body (Call p ts) e no_exit = conj_exit body
body_same body (Builtin b ts) e no_exit = conj_exit body
body_same body (Conj a b) e no_exit = conj_exit body
body_same body (Disj a b) e no_exit = conj_exit body
body_same body (IfElse c a b) e no_exit = conj_exit body
body_same body (Not a) e no_exit = conj_exit body
body_same body Exit e no_exit = cc

pub body_ends : (body : Goal) (g : Goal-F Goal) → ends_in_exit (with_exit_at body g) ≡ true
body_ends body True = ap ends_in_exit_at outs-Exit
body_ends body Fail = conj_ends body
body_ends body Cut = conj_ends body
body_ends body (Call p ts) = conj_ends body
body_ends body (Builtin b ts) = conj_ends body
body_ends body (Conj a b) = conj_ends body
body_ends body (Disj a b) = conj_ends body
body_ends body (IfElse c a b) = conj_ends body
body_ends body (Not a) = conj_ends body
body_ends body Exit = conj_ends body

pub pred_at : (program : Program) (statuses : List Status) (preds : List Pred) (p : ℕ) → slice_index_or (map (instrumented_pred program statuses) preds) p no_pred ≡ instrumented_pred program statuses (slice_index_or preds p no_pred)
pred_at program statuses [] p = refl
pred_at program statuses (x ∷ preds) zero = refl
pred_at program statuses (x ∷ preds) (suc p) = pred_at program statuses preds p

pub clause_at : (cs : List Clause) (k : ℕ) → slice_get (map with_exit cs) k ≡ option_map with_exit (slice_get cs k)
clause_at [] k = refl
clause_at (c ∷ cs) zero = refl
clause_at (c ∷ cs) (suc k) = clause_at cs k

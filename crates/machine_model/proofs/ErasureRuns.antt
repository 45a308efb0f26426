-- The erased program's run begins with the events of the program's, and is the same where no condition is broken: it is the run that has none of the conditions.
use Rattle.std.proofs.Common.{◌≡◌, ℕ, zero, suc, Bool, true, false, List, [], ◌∷◌, map, refl, ap, ◌∙◌, subst}
use Rattle.std.specs.Prelude.{find, filter, slice_get, slice_index_or, Option, None, Some, option_map, if◌then◌else◌}
use Rattle.std.specs.Option.{option_map_or}
use Rattle.std.specs.List.{AllByRecursion}
use Rattle.std.proofs.lemmas.Option.{slice_get-map}
use Rattle.term_core.specs.declared.terms.Term.{Term, out-Term}
use Rattle.prog_data.specs.declared.goals.Goal.{Goal, out-Goal}
use Rattle.prog_data.specs.declared.goals.Goal.TheOpen.{Goal-F, True, Fail, Cut, Call as CallGoal, Builtin as BuiltinGoal, Conj, Disj, IfElse, Not, Exit}
use Rattle.prog_data.specs.declared.programs.Clause.{Clause}
use Rattle.prog_data.specs.declared.programs.Pred.{Pred}
use Rattle.prog_data.specs.declared.programs.Program.{Program}
use Rattle.prog_data.specs.declared.events.Event.{Event}
use Rattle.prog_data.specs.declared.events.Event.TheVariants as event
use Rattle.prog_data.specs.declared.events.Ending.{Ending}
use Rattle.prog_data.specs.declared.events.Ending.TheVariants as ending
use Rattle.prog_data.specs.Goals.{pred_of, no_pred, ends_in_exit, ends_in_exit_at, without_exit_at, called_by, calls_pred, is_called}
use Rattle.prog_data.specs.Programs.{HasNoExit}
use Rattle.machine_model.specs.Tests.{Looks, all_looks, only_looks}
use Rattle.machine_model.specs.Erasure.{erase, erase_pred, erase_clause}
use Rattle.machine_model.specs.Laws.{Erases, ToldErases, IsViolated, BreaksOther, without_broken}
use Rattle.machine_model.specs.Run.{Run}
use Rattle.machine_model.proofs.DropSteps.{Fewer, is_seen}
use Rattle.machine_model.proofs.DropRuns.{fewer_run, same_until}

-- a body without Exit at its end is left as it is
pub no_exit : (body : Goal) (g : Goal-F Goal) → ends_in_exit_at g ≡ false → without_exit_at body g ≡ body
no_exit body (Conj a b) e = ap (λ t. if t then a else body) e
no_exit body Exit e = cc
no_exit body True e = refl
no_exit body Fail e = refl
no_exit body Cut e = refl
no_exit body (CallGoal p ts) e = refl
no_exit body (BuiltinGoal b ts) e = refl
no_exit body (Disj a b) e = refl
no_exit body (IfElse c a b) e = refl
no_exit body (Not a) e = refl

erase_clauses : (cs : List Clause) → AllByRecursion (λ c. ends_in_exit c.body ≡ false) cs → map erase_clause cs ≡ cs
erase_clauses [] h = refl
erase_clauses (c ∷ cs) h = ap (λ body. record c { body = body } ∷ map erase_clause cs) (no_exit c.body (out-Goal c.body) h.0) ∙ ap (λ rest. c ∷ rest) (erase_clauses cs h.1)

erase_pred_at : (preds : List Pred) (p : ℕ) → slice_index_or (map erase_pred preds) p no_pred ≡ erase_pred (slice_index_or preds p no_pred)
erase_pred_at [] p = refl
erase_pred_at (x ∷ preds) zero = refl
erase_pred_at (x ∷ preds) (suc p) = erase_pred_at preds p

-- no condition is kept
abbrev pub none : ℕ → Bool
none c = false

none_kept : (cs : List ℕ) → [] ≡ filter none cs
none_kept [] = refl
none_kept (c ∷ cs) = none_kept cs

no_looks : (l : Looks) → record { calls = []; notes = []; marks = [] } ≡ only_looks none l
no_looks l = λ i. record { calls = none_kept l.calls i; notes = none_kept l.notes i; marks = none_kept l.marks i }

violated_only : (e : Ending) → BreaksOther none e → IsViolated e
violated_only (ending.Violated c) broken = tt
violated_only ending.NoMore broken = broken
violated_only ending.Bound broken = broken
violated_only (ending.Cyclic place) broken = broken
violated_only (ending.Arithmetic kind place) broken = broken

module _ (program : Program) where
  erased_looks : (p : ℕ) → all_looks (erase program) (pred_of (erase program) p) ≡ only_looks none (all_looks program (pred_of program p))
  erased_looks p = ap (all_looks (erase program)) (erase_pred_at program.preds p) ∙ no_looks (all_looks program (pred_of program p))

  -- the erased program has none of the conditions, and the same clauses
  erased : (stops stops' : Bool) → HasNoExit program → Fewer stops stops' none program (erase program) (all_looks (erase program))
  erased stops stops' linked = record {
    mode_is = λ c e. cc;
    looks_are = erased_looks;
    clauses_are = λ p. ap (λ pred. pred.clauses) (erase_pred_at program.preds p) ∙ erase_clauses (pred_of program p).clauses (linked p);
    kinds_are = λ c e. cc;
  }

  -- an erased predicate is called where the predicate is
  still_called : (query : Term) (found : Option Pred) → option_map_or (λ pred. calls_pred pred (out-Term query)) (option_map erase_pred found) false ≡ option_map_or (λ pred. calls_pred pred (out-Term query)) found false
  still_called query None = refl
  still_called query (Some pred) = refl

  same_call : (query : Term) (p : ℕ) → is_called (erase program) query p ≡ is_called program query p
  same_call query p = ap (λ found. option_map_or (λ pred. calls_pred pred (out-Term query)) found false) (slice_get-map erase_pred program.preds p) ∙ still_called query (slice_get program.preds p)

  called_same : (query : Term) → called_by (erase program) query ≡ called_by program query
  called_same query = λ i. find (λ p. same_call query p i) program.exports

pub erases : (program : Program) → Erases program
erases program linked query bound =
    let fewer = same_until program none (map erase_pred program.preds) [] [] (all_looks (erase program)) (erased program true true linked) bound query (called_same program query) in
    record { both = fewer.both; begins = fewer.begins; same = λ es es' e e' run other safe. fewer.same es es' e e' run other (λ broken. safe (violated_only e broken)) }

-- of what is told, what no condition is told of
none_seen : (es : List Event) → filter (is_seen false none) es ≡ without_broken es
none_seen [] = refl
none_seen (event.Out bytes ∷ es) = ap (λ es. event.Out bytes ∷ es) (none_seen es)
none_seen (event.Answer query ∷ es) = ap (λ es. event.Answer query ∷ es) (none_seen es)
none_seen (event.End e ∷ es) = ap (λ es. event.End e ∷ es) (none_seen es)
none_seen (event.Broken c ∷ es) = none_seen es

-- the run that tells each broken condition and goes on, without these events
pub told_erases : (program : Program) → ToldErases program
told_erases program linked query bound es e run =
    let fewer = fewer_run false true program none (map erase_pred program.preds) [] [] (all_looks (erase program)) (erased program false true linked) bound query (called_same program query) es e run (λ stopping. cc) in
    subst (λ es. Run (erase program) query bound es e) (none_seen es) fewer

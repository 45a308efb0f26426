-- How leaner states are found.
use Rattle.std.proofs.Common.{◌≡◌, ℕ, ◌+◌, Bool, List, [], ◌∷◌, length, refl, subst, arith}
use Rattle.term_core.specs.declared.terms.Term.{Term}
use Rattle.prog_data.specs.declared.goals.Goal.{Goal, out-Goal}
use Rattle.prog_data.specs.declared.goals.Goal.TheOpen.{Call as CallGoal}
use Rattle.prog_data.specs.declared.programs.Clause.{Clause}
use Rattle.prog_data.specs.declared.programs.Place.{Place}
use Rattle.prog_data.specs.declared.programs.Program.{Program}
use Rattle.machine_model.specs.State.{Item, Does, Frame, Choice, Doing, State, Going}
use Rattle.machine_model.specs.Tests.{Tests}
use Rattle.machine_model.specs.Step.{tries}
use Rattle.machine_model.specs.Run.{RunsFrom}
use Rattle.machine_model.specs.Continues.{at_phase, Leads}
use Rattle.machine_model.specs.Leaner.{Kind, at, Renaming, TermsAgree, ItemsAgree, does, FramesAgree, frames, ChoicesAgree, CurrentsAgree, doing, failed, IsLeaner, leaner}
use Rattle.machine_model.specs.LeanerLaws.{TellTheSame, OthersCannotMatch, before_goal, call_above, after_call, chosen, LeanerStatesAreFound}
use Rattle.machine_model.proofs.LeanerChoices.{items_over}
use Rattle.machine_model.proofs.LeanerClauses.{clauses_closed}
use Rattle.machine_model.proofs.LeanerGoals.{OneForm, both_call, one_form}
use Rattle.machine_model.proofs.LeanerStart.{start_leaner}
use Rattle.machine_model.proofs.LeanerOwn.{leaner_own, own_reached}
use Rattle.machine_model.proofs.LeanerLower.{leaner_lower, leaner_lean}
use Rattle.machine_model.proofs.LeanerTries.{tried_leaner, called_choices}
use Rattle.machine_model.proofs.LeanerRuns.{tells_then}

-- a call, and what is behind it

record Calling (ks : List Kind) (n n' : ℕ) (args args' : List Term) (is is' : List Item) (query query' : Term) : Type 0 where
  names : Renaming n n'
  terms : TermsAgree names.there names.back args args'
  items : ItemsAgree names.there names.back ks is is'
  queries : TermsAgree names.there names.back (query ∷ []) (query' ∷ [])

call_terms : {there back : ℕ → Term} (p p' : ℕ) (args args' : List Term) → OneForm there back (CallGoal p args) (CallGoal p' args') → TermsAgree there back args args'
call_terms p p' args args' (both_call q ts ts' terms) = terms

calling : {ks : List Kind} {n n' : ℕ} (g g' : Goal) (p : ℕ) (args args' : List Term) (h h' : ℕ) (place place' : Place) (is is' : List Item) (query query' : Term) → out-Goal g ≡ CallGoal p args → out-Goal g' ≡ CallGoal p args' →
    FramesAgree ks n n' (record { items = Does g h place ∷ is; query = query }) (record { items = Does g' h' place' ∷ is'; query = query' }) → Calling ks n n' args args' is is' query query'
calling g g' p args args' h h' place place' is is' query query' e e' (frames names (does js are (at o eh eh') items) q) = record {
  names = names;
  terms = call_terms p p args args' (subst (λ x. OneForm names.there names.back x (CallGoal p args')) e (subst (λ x. OneForm names.there names.back (out-Goal g) x) e' (one_form names.there names.back g g' are)));
  items = items_over names.there names.back o items;
  queries = q;
}

parts_inside : (program : Program) (s s' : State) → IsLeaner program s s' → (ks : List Kind) × ChoicesAgree program s.fresh s'.fresh ks s.choices s'.choices × CurrentsAgree ks s.fresh s'.fresh s.current s'.current
parts_inside program s s' (leaner {ks = ks} ch are) = (ks, ch, are)

frames_inside : {ks : List Kind} {n n' : ℕ} (f f' : Frame) → CurrentsAgree ks n n' (Doing f) (Doing f') → FramesAgree ks n n' f f'
frames_inside f f' (doing are) = are

called : (program : Program) (made n p : ℕ) (g : Goal) (args : List Term) (noted marked : List ℕ) (h : ℕ) (place : Place) (cs : List Choice) (rest : Frame) (clauses : List Clause) (chooses : ℕ → Bool) →
    out-Goal g ≡ CallGoal p args → IsLeaner program (before_goal made n cs g h place rest) (before_goal made n cs g h place rest) → OthersCannotMatch program chooses 0 (length clauses) (call_above cs p args noted marked rest) →
    IsLeaner program (after_call made n cs p marked (tries 0 clauses (call_above cs p args noted marked rest))) (after_call made n cs p marked (chosen chooses 0 clauses (call_above cs p args noted marked rest)))
called program made n p g args noted marked h place cs rest clauses chooses e own out =
    let parts = parts_inside program (before_goal made n cs g h place rest) (before_goal made n cs g h place rest) own in
    let c = calling g g p args args h h place place rest.items rest.items rest.query rest.query e e (frames_inside _ _ parts.2) in
    let found = called_choices program n n c.names p args args noted marked clauses chooses parts.1 c.terms c.items c.queries out in
    leaner found.1 failed

-- what is left

none_more : (n : ℕ) → n ≡ 0 + n
none_more n = omega arith

leads : (program : Program) (s s' : State) → TellTheSame program s s' → (what : Tests) (bound : ℕ) → Leads what program bound (at_phase (Going s)) [] 0 (at_phase (Going s'))
leads program s s' same what bound = record {
  forth = λ rest tests e run. subst (λ n. RunsFrom what program bound s rest n e) (none_more tests) (same.forth what bound rest tests e run);
  back = λ all tests e run. (all, tests, refl, none_more tests, (same.back what bound all tests e run).0);
}

pub leaner_states : LeanerStatesAreFound
leaner_states program is = record {
  start = start_leaner program;
  own = leaner_own program;
  reached = λ what bound. own_reached what program (clauses_closed program is) bound;
  lower = λ n. leaner_lower n program;
  without_exits = leaner_lean program;
  tried = λ what bound made n k clause call cs bs value there own solved general. tried_leaner what program bound made n k clause call cs bs value (clauses_closed program is) there own solved general;
  called = called program;
  onward = tells_then program;
  leads = leads program;
}

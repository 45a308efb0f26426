-- States that are related to themselves: each leaner state is one, and steps keep it.
use Rattle.std.proofs.Common.{◌≡◌, ℕ, suc, List, [], ◌∷◌, length, map, refl, ap, sym, ◌∙◌, subst, arith}
use Rattle.std.specs.Prelude.{Option}
use Rattle.term_core.specs.declared.terms.Term.{Term}
use Rattle.term_core.specs.Terms.{instance, instance_step}
use Rattle.term_core.proofs.TermFolds.{fold-Atom}
use Rattle.term_core.proofs.TermLaws.{instance-instance, map_map}
use Rattle.prog_data.specs.declared.goals.Goal.{Goal}
use Rattle.prog_data.specs.declared.programs.Program.{Program}
use Rattle.prog_data.specs.Goals.{goal_instance}
use Rattle.machine_model.specs.State.{Item, Frame, Call, Choice, Current, State, Phase, Going}
use Rattle.machine_model.specs.Tests.{Tests}
use Rattle.machine_model.specs.Step.{step}
use Rattle.machine_model.specs.Run.{Reaches}
use Rattle.machine_model.proofs.Invariants.{IfGoing, steps_keep}
use Rattle.machine_model.specs.Leaner.{Kind, Kept, LeftOut, kept, Older, whole, newer, HeightsAgree, at, MarksAgree, no_mark, a_mark, Renaming, GoalsAgree, TermsAgree, ItemsAgree, does, cuts, exits, idle, FramesAgree, frames, CallsAgree, calls, ChoicesAgree, resume, try, mark, left_out, CurrentsAgree, doing, failed, IsLeaner, leaner}
use Rattle.machine_model.specs.Leaner as rel
use Rattle.machine_model.specs.LeanerLaws.{IsDone}
use Rattle.machine_model.proofs.LeanerClauses.{AreClosed}
use Rattle.prog_data.proofs.GoalInstances.{goal_instance-instance}
use Rattle.machine_model.proofs.LeanerSteps.{Currents, States, states, Phases, on, over, step_alike}
use Rattle.machine_model.proofs.LeanerSteps as moments

-- the kinds of the leaner state's choices
abbrev pub own : List Kind → List Kind
own [] = []
own (Kept ∷ ks) = Kept ∷ own ks
own (LeftOut ∷ ks) = own ks

length_own : (ks : List Kind) → length (own ks) ≡ kept ks
length_own [] = refl
length_own (Kept ∷ ks) = ap suc (length_own ks)
length_own (LeftOut ∷ ks) = length_own ks

kept_own : (ks : List Kind) → kept (own ks) ≡ kept ks
kept_own [] = refl
kept_own (Kept ∷ ks) = ap suc (kept_own ks)
kept_own (LeftOut ∷ ks) = kept_own ks

older_own : {ks js : List Kind} → Older ks js → Older (own ks) (own js)
older_own whole = whole
older_own (newer {k = Kept} o) = newer (older_own o)
older_own (newer {k = LeftOut} o) = older_own o

at_own : {ks js : List Kind} {h h' : ℕ} → HeightsAgree ks h h' js → HeightsAgree (own ks) h' h' (own js)
at_own {js = js} (at o e e') = at (older_own o) (e' ∙ sym (length_own js)) (e' ∙ sym (kept_own js))

marks_own : {ks : List Kind} {m m' : Option ℕ} → MarksAgree ks m m' → MarksAgree (own ks) m' m'
marks_own no_mark = no_mark
marks_own (a_mark js o e e') = a_mark (own js) (older_own o) (e' ∙ sym (length_own js)) (e' ∙ sym (kept_own js))

-- there and back, from the leaner state's side
abbrev round : (ℕ → Term) → (ℕ → Term) → ℕ → Term
round there back v = instance there (back v)

abbrev names_own : {n n' : ℕ} → Renaming n n' → Renaming n' n'
names_own names = record {
  there = round names.there names.back;
  back = round names.there names.back;
  there_ends = λ v le. ap (instance names.there) (names.back_ends v le) ∙ fold-Atom Term (instance_step names.there) 0;
  back_ends = λ v le. ap (instance names.there) (names.back_ends v le) ∙ fold-Atom Term (instance_step names.there) 0;
}

module _ (there back : ℕ → Term) where
  terms_round : {ts ts' : List Term} → TermsAgree there back ts ts' → map (instance (round there back)) ts' ≡ ts'
  terms_round {ts} {ts'} are = sym (λ i. map (λ t. instance-instance there back t i) ts') ∙ sym (map_map (instance there) (instance back) ts') ∙ ap (map (instance there)) are.is_back ∙ are.is_there

  terms_own : {ts ts' : List Term} → TermsAgree there back ts ts' → TermsAgree (round there back) (round there back) ts' ts'
  terms_own are = record { is_there = terms_round are; is_back = terms_round are }

  goal_round : {g g' : Goal} → GoalsAgree there back g g' → goal_instance (round there back) g' ≡ g'
  goal_round {g} {g'} are = sym (goal_instance-instance there back g') ∙ ap (goal_instance there) are.is_back ∙ are.is_there

  goals_own : {g g' : Goal} → GoalsAgree there back g g' → GoalsAgree (round there back) (round there back) g' g'
  goals_own are = record { is_there = goal_round are; is_back = goal_round are }

  items_own : {ks : List Kind} {is is' : List Item} → ItemsAgree there back ks is is' → ItemsAgree (round there back) (round there back) (own ks) is' is'
  items_own rel.none = rel.none
  items_own (does js g place rest) = does (own js) (goals_own g) (at_own place) (items_own rest)
  items_own (cuts js place rest) = cuts (own js) (at_own place) (items_own rest)
  items_own (exits args m rest) = exits (terms_own args) (marks_own m) (items_own rest)
  items_own (idle rest) = items_own rest

frames_own : {ks : List Kind} {n n' : ℕ} {f f' : Frame} → FramesAgree ks n n' f f' → FramesAgree (own ks) n' n' f' f'
frames_own (frames names items query) = frames (names_own names) (items_own names.there names.back items) (terms_own names.there names.back query)

calls_own : {ks : List Kind} {n n' : ℕ} {c c' : Call} → CallsAgree ks n n' c c' → CallsAgree (own ks) n' n' c' c'
calls_own (calls names js args place m items query) =
    calls (names_own names) (own js) (terms_own names.there names.back args) (at_own place) (marks_own m) (items_own names.there names.back items) (terms_own names.there names.back query)

choices_own : {program : Program} {n n' : ℕ} {ks : List Kind} {cs cs' : List Choice} → ChoicesAgree program n n' ks cs cs' → ChoicesAgree program n' n' (own ks) cs' cs'
choices_own rel.none = rel.none
choices_own (resume f rest) = resume (frames_own f) (choices_own rest)
choices_own (try call rest) = try (calls_own call) (choices_own rest)
choices_own (mark rest) = mark (choices_own rest)
choices_own (left_out d rest) = choices_own rest

currents_own : {ks : List Kind} {n n' : ℕ} {c c' : Current} → CurrentsAgree ks n n' c c' → CurrentsAgree (own ks) n' n' c' c'
currents_own (doing f) = doing (frames_own f)
currents_own failed = failed

-- a leaner state is its own leaner one
pub leaner_own : (program : Program) (s s' : State) → IsLeaner program s s' → IsLeaner program s' s'
leaner_own program s s' (leaner ch are) = leaner (choices_own ch) (currents_own are)

-- steps

done_currents : {ks : List Kind} {n n' : ℕ} {c c' : Current} → Currents ks n n' c c' → IsDone c → CurrentsAgree ks n n' c c'
done_currents (moments.doing f) done = doing f
done_currents moments.failed done = failed
done_currents (moments.solving names es es' k are e e' both items q) done = absurd done
done_currents (moments.clashing stage clashes) done = absurd done

pub done_leaner : (program : Program) (s s' : State) → States program s s' → IsDone s.current → IsLeaner program s s'
done_leaner program s s' (states ch are) done = leaner ch (done_currents are done)

leaner_moment : (program : Program) (s s' : State) → IsLeaner program s s' → States program s s'
leaner_moment program s s' (leaner ch (doing f)) = states ch (moments.doing f)
leaner_moment program s s' (leaner ch failed) = states ch moments.failed

module _ (what : Tests) (program : Program) (closed : AreClosed program) (bound : ℕ) where
  abbrev Own : State → Type 0
  Own s = States program s s

  own_phase : (p p' : Phase) → Phases program p p' → p ≡ p' → IfGoing Own p
  own_phase p p' (on {s} {s'} are) e = subst (States program s) (sym (inside s s' e)) are where
    inside : (s s' : State) → Going s ≡ Going s' → s ≡ s'
    inside s s' e = cc
  own_phase p p' over e = tt

  own_step : (s : State) → Own s → IfGoing Own (step what program bound s).phase
  own_step s are = let h = step_alike what program closed bound s s are (omega arith) in own_phase _ _ h.phases refl

  -- a state that is its own leaner one leads to such states
  pub own_reached : (s s' : State) → IsLeaner program s s → Reaches what program bound s s' → IsDone s'.current → IsLeaner program s' s'
  own_reached s s' are reaches done =
      done_leaner program s' s' (subst (IfGoing Own) reaches.phase (steps_keep what program bound Own own_step reaches.count (Going s) (leaner_moment program s s are))) done

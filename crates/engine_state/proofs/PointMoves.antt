-- Choice points that are made, and the newest one that failure goes back to.
use Rattle.std.proofs.Common.{◌≡◌, ◌≤◌, ◌<◌, ℕ, zero, suc, ◌+◌, Bool, true, false, List, [], ◌∷◌, ◌++◌, map, filter, length, refl, sym, ap, ◌∙◌, subst, arith}
use Rattle.std.specs.Prelude.{if◌then◌else◌, cond}
use Rattle.term_core.specs.declared.terms.Term.{Term}
use Rattle.prog_data.specs.declared.programs.Clause.{Clause}
use Rattle.prog_data.specs.declared.programs.Program.{Program}
use Rattle.prog_data.specs.Programs.{IsProgram}
use Rattle.machine_model.specs.State.{Call, Choice, Resume, Try, Mark, State}
use Rattle.machine_model.specs.Step.{with_mark, mark_height}
use Rattle.machine_model.specs.Leaner.{IsLeaner}
use Rattle.machine_model.specs.LeanerLaws.{LeanerStatesAreFound, AreBelow, call_above, chosen}
use Rattle.term_heap.specs.Changes.{Change, size_of, value_of, places, undone, IsMade}
use Rattle.engine_state.specs.Engines.{Task, Link, chain, Alternative, Resumes, Retries, Marks, ChoicePoint, Pending, frame_with, call_with, alternative_choices, point_choices, choices_of, AreInOrder, rest_of, AreHeld}
use Rattle.engine_state.specs.Stacks.{IsTaken}
use Rattle.engine_state.specs.StepsMade.{failing}
use Rattle.engine_state.specs.PointMoves.{PointsPushed, IsBack, GoesBack}
use Rattle.engine_state.proofs.ChoiceLaws.{now_choices, clauses_tried, pushed_choices, back_choices}
use Rattle.engine_state.proofs.WithinLaws.{variables_within, alternative_below, both_below, undone_made}

-- choice points that are made

now : (changes : List Change) (old new : List Link) (held query : ℕ) (p : ChoicePoint) (points : List ChoicePoint) → p.trail ≡ length changes → ((j : ℕ) → j ≤ held → chain new j ≡ chain old j) → AreHeld held points →
    choices_of changes new query (p ∷ points) ≡ alternative_choices (value_of changes) new query p.alternative ++ choices_of changes old query points
now changes old new held query p points here same are = λ i. now_choices changes new query p (omega (arith, here)) i ++ pushed_choices changes old new held query points same are i

marked : (value : ℕ → Term) (links : List Link) (query pred : ℕ) (conds : List ℕ) (cs : List Choice) → (conds ≡ [] → ⊥) → alternative_choices value links query (Marks pred conds false) ++ cs ≡ with_mark pred conds cs
marked value links query pred [] cs some = absurd (some refl)
marked value links query pred (c ∷ conds) cs some = refl

call_same : (value : ℕ → Term) (tasks : List Task) (query : ℕ) (c : Pending) (cs : List Choice) (conds : List ℕ) → c.exit.mark ≡ mark_height conds cs → c.height ≡ length (with_mark c.exit.pred conds cs) →
    call_above cs c.exit.pred (map value (places c.exit.first c.exit.count)) c.exit.noted conds (frame_with value tasks query) ≡ call_with value tasks query c
call_same value tasks query c cs conds mark_is height_is = λ i. record {
  pred = c.exit.pred;
  args = map value (places c.exit.first c.exit.count);
  noted = c.exit.noted;
  mark = sym mark_is i;
  height = sym height_is i;
  rest = frame_with value tasks query;
}

chosen_tried : (chooses : ℕ → Bool) (k : ℕ) (cl : List Clause) (call : Call) → chosen chooses k cl call ≡ map (λ j. Try j call) (filter chooses (places k (length cl)))
chosen_tried chooses k [] call = refl
chosen_tried chooses k (c ∷ cl) call = by_choice (chooses k) (chosen_tried chooses (suc k) cl call) where
  by_choice : (b : Bool) → chosen chooses (suc k) cl call ≡ map (λ j. Try j call) (filter chooses (places (suc k) (length cl))) →
      (if b then Try k call ∷ chosen chooses (suc k) cl call else chosen chooses (suc k) cl call) ≡ map (λ j. Try j call) (cond b (k ∷ filter chooses (places (suc k) (length cl))) (filter chooses (places (suc k) (length cl))))
  by_choice true further = ap (λ cs. Try k call ∷ cs) further
  by_choice false further = further

pub points_pushed : PointsPushed
points_pushed = record {
  now = now;
  marked = marked;
  call = call_same;
  clauses = λ value links query c cl. clauses_tried 0 cl (call_with value (chain links c.rest) query c);
  chosen_clauses = λ value links query c cl chooses. chosen_tried chooses 0 cl (call_with value (chain links c.rest) query c);
}

-- going back

same_behind : (value : ℕ → Term) (old new : List Link) (query : ℕ) (a : Alternative) → chain new (rest_of a) ≡ chain old (rest_of a) → alternative_choices value old query a ≡ alternative_choices value new query a
same_behind value old new query (Resumes rest) e = ap (λ tasks. Resume (frame_with value tasks query) ∷ []) (sym e)
same_behind value old new query (Retries left c) e = ap (λ tasks. map (λ k. Try k (call_with value tasks query c)) left) (sym e)
same_behind value old new query (Marks p conds exited) e = refl

module _ (changes past : List Change) (links kept : List Link) (query : ℕ) (points : List ChoicePoint) (p : ChoicePoint) (rest : List ChoicePoint) (b : IsBack changes past links kept query points p rest) where
  back_is : choices_of changes links query points ≡ alternative_choices (value_of past) kept query p.alternative ++ choices_of past kept query rest
  back_is =
      let own : point_choices changes links query p ≡ alternative_choices (value_of past) kept query p.alternative =
      ap (λ cs. alternative_choices (value_of cs) links query p.alternative) (sym b.past_is) ∙ same_behind (value_of past) links kept query p.alternative (b.same (rest_of p.alternative) b.behind) in
      let ordered : AreInOrder p.trail rest = (b.taken.in_order (length changes) b.in_order).1 in
      let others : choices_of changes links query rest ≡ choices_of past kept query rest =
      sym (back_choices p.trail changes links query rest ordered) ∙ ap (λ cs. choices_of cs links query rest) (sym b.past_is) ∙ sym (pushed_choices past links kept p.links query rest b.same b.held) in
      b.taken.choices changes links query ∙ (λ i. own i ++ others i)

  past_made : IsMade past
  past_made = subst IsMade (sym b.past_is) (undone_made p.trail changes b.made)

  back_below : AreBelow (size_of past) (alternative_choices (value_of past) kept query p.alternative ++ choices_of past kept query rest)
  back_below =
      both_below (size_of past) (alternative_choices (value_of past) kept query p.alternative) (choices_of past kept query rest)
      (alternative_below past past_made (size_of past) (omega arith) kept query p.alternative b.query_within b.within)
      (variables_within.choices past kept query rest past_made b.others)

  module _ (program : Program) (found : LeanerStatesAreFound) (is : IsProgram program) (made : ℕ) where
    abbrev at : ℕ → List Choice → State
    at n cs = failing made n cs

    abbrev all : List Choice
    all = alternative_choices (value_of past) kept query p.alternative ++ choices_of past kept query rest

    back_leaner : IsLeaner program (at (size_of changes) (choices_of changes links query points)) (at (size_of changes) (choices_of changes links query points)) →
        IsLeaner program (at (size_of changes) (choices_of changes links query points)) (at (size_of past) all) × IsLeaner program (at (size_of past) all) (at (size_of past) all)
    back_leaner own =
        let old = at (size_of changes) (choices_of changes links query points) in
        let moved : IsLeaner program old (at (size_of changes) all) = subst (λ cs. IsLeaner program old (at (size_of changes) cs)) back_is own in
        let lower = (found program is).lower (size_of past) old (at (size_of changes) all) back_below tt moved in
        (lower, (found program is).own old (at (size_of past) all) lower)

pub goes_back : LeanerStatesAreFound → (program : Program) → IsProgram program → GoesBack program
goes_back found program is = record {
  choices = back_is;
  leaner = λ made changes past links kept query points p rest b own. back_leaner changes past links kept query points p rest b program found is made own;
}

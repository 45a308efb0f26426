-- A mark is exited as the choice point is that stands for it.
use Rattle.std.proofs.Common.{◌≡◌, ◌≤◌, ◌<◌, ◌⊎◌, inl, inr, ℕ, ◌+◌, Bool, true, false, List, [], ◌∷◌, ◌++◌, map, length, Option, None, Some, refl, sym, ap, ◌∙◌, subst, arith}
use Rattle.std.specs.Prelude.{if◌then◌else◌, ◌==◌}
use Rattle.std.proofs.lemmas.Bool.{cases_order, eq-eqb, ne_eqb}
use Rattle.std.proofs.lemmas.List.{length-append}
use Rattle.term_core.specs.declared.terms.Term.{Term}
use Rattle.machine_model.specs.State.{Call, Choice, Resume, Try, Mark, choice_at, exited, exit_mark}
use Rattle.machine_model.specs.Step.{mark_conds, mark_exited}
use Rattle.term_heap.specs.Changes.{Change, value_of, undone}
use Rattle.engine_state.specs.Engines.{Link, chain, Alternative, Resumes, Retries, Marks, ChoicePoint, frame_with, call_with, alternative_choices, choices_of, point_choices, AreInOrder, rest_of, AreHeld}
use Rattle.engine_state.specs.Stacks.{Marked, width, height_of, AreCounted, exited_alternative, exit_points, no_mark, mark_in, mark_at_height}
use Rattle.engine_state.proofs.CutLaws.{heights}

module _ (h : ℕ) where
  -- the choice at the height is exited; another stays
  exit_here : (c : Choice) (cs : List Choice) → h ≡ length cs → exit_mark (Some h) (c ∷ cs) ≡ exited c ∷ cs
  exit_here c cs e = ap (λ b. if b then exited c ∷ cs else c ∷ exit_mark (Some h) cs) (eq-eqb h (length cs) e)

  exit_below : (c : Choice) (cs : List Choice) → (h ≡ length cs → ⊥) → exit_mark (Some h) (c ∷ cs) ≡ c ∷ exit_mark (Some h) cs
  exit_below c cs ne = ap (λ b. if b then exited c ∷ cs else c ∷ exit_mark (Some h) cs) (ne_eqb h (length cs) ne)

  -- there is none at the height
  exit_none : (cs : List Choice) → length cs ≤ h → exit_mark (Some h) cs ≡ cs
  exit_none [] le = refl
  exit_none (c ∷ cs) le = exit_below c cs (λ e. omega (arith, e, le)) ∙ ap (λ xs. c ∷ xs) (exit_none cs (omega (arith, le)))

  -- it is among the older ones
  exit_older : (newer older : List Choice) → h < length older → exit_mark (Some h) (newer ++ older) ≡ newer ++ exit_mark (Some h) older
  exit_older [] older lt = refl
  exit_older (c ∷ newer) older lt =
      exit_below c (newer ++ older) (λ e. omega (arith, e, lt, length-append newer older)) ∙ ap (λ xs. c ∷ xs) (exit_older newer older lt)

  -- clauses that are left are no marks
  exit_tries : (call : Call) (left : List ℕ) (older : List Choice) → length older ≤ h → exit_mark (Some h) (map (λ k. Try k call) left ++ older) ≡ map (λ k. Try k call) left ++ older
  exit_tries call [] older le = exit_none older le
  exit_tries call (k ∷ left) older le = by_test (h == length (map (λ j. Try j call) left ++ older)) (exit_tries call left older le) where
    by_test : (b : Bool) → exit_mark (Some h) (map (λ j. Try j call) left ++ older) ≡ map (λ j. Try j call) left ++ older →
        (if b then Try k call ∷ map (λ j. Try j call) left ++ older else Try k call ∷ exit_mark (Some h) (map (λ j. Try j call) left ++ older)) ≡ Try k call ∷ map (λ j. Try j call) left ++ older
    by_test true further = refl
    by_test false further = ap (λ xs. Try k call ∷ xs) further

  module _ (value : ℕ → Term) (links : List Link) (query : ℕ) (older : List Choice) where
    -- the choices of an alternative, the oldest of them at the height
    own_exited : (a : Alternative) → h ≡ length older → exit_mark (Some h) (alternative_choices value links query a ++ older) ≡ alternative_choices value links query (exited_alternative a) ++ older
    own_exited (Resumes rest) e = exit_here (Resume (frame_with value (chain links rest) query)) older e
    own_exited (Retries left c) e = exit_tries (call_with value (chain links c.rest) query c) left older (omega (arith, e))
    own_exited (Marks p conds was) e = exit_here (Mark p conds was) older e

    -- the height is above the older ones, and above the oldest of these
    own_stays : (a : Alternative) → length older < h → exit_mark (Some h) (alternative_choices value links query a ++ older) ≡ alternative_choices value links query a ++ older
    own_stays (Resumes rest) lt =
        let f = frame_with value (chain links rest) query in
        exit_below (Resume f) older (λ e. omega (arith, e, lt)) ∙ ap (λ xs. Resume f ∷ xs) (exit_none older (omega (arith, lt)))
    own_stays (Retries left c) lt = exit_tries (call_with value (chain links c.rest) query c) left older (omega (arith, lt))
    own_stays (Marks p conds was) lt = exit_below (Mark p conds was) older (λ e. omega (arith, e, lt)) ∙ ap (λ xs. Mark p conds was ∷ xs) (exit_none older (omega (arith, lt)))

module _ (changes : List Change) (links : List Link) (query height : ℕ) where
  abbrev choices : List ChoicePoint → List Choice
  choices points = choices_of changes links query points

  abbrev with_exit : ChoicePoint → ChoicePoint
  with_exit p = record p { alternative = exited_alternative p.alternative }

  pub exits : (points : List ChoicePoint) → AreCounted points → choices (exit_points height points) ≡ exit_mark (Some height) (choices points)
  exits [] are = refl
  exits (p ∷ ps) are = by_height (exits ps are.1) (are.0 ∙ sym (heights changes links query ps are.1)) (cases_order height p.below) where
    by_height : choices (exit_points height ps) ≡ exit_mark (Some height) (choices ps) → p.below ≡ length (choices ps) → (height ≡ p.below) ⊎ ((height < p.below) ⊎ (p.below < height)) →
        choices (exit_points height (p ∷ ps)) ≡ exit_mark (Some height) (point_choices changes links query p ++ choices ps)
    by_height further below (inl e) =
        ap (λ b. choices (if b then with_exit p ∷ ps else p ∷ exit_points height ps)) (eq-eqb height p.below e)
        ∙ sym (own_exited height (value_of (undone p.trail changes)) links query (choices ps) p.alternative (e ∙ below))
    by_height further below (inr (inl lt)) =
        ap (λ b. choices (if b then with_exit p ∷ ps else p ∷ exit_points height ps)) (ne_eqb height p.below (λ e. omega (arith, e, lt)))
        ∙ ap (λ cs. point_choices changes links query p ++ cs) further
        ∙ sym (exit_older height (point_choices changes links query p) (choices ps) (subst (λ n. height < n) below lt))
    by_height further below (inr (inr gt)) =
        let above : length (choices ps) < height = subst (λ n. n < height) below gt in
        ap (λ b. choices (if b then with_exit p ∷ ps else p ∷ exit_points height ps)) (ne_eqb height p.below (λ e. omega (arith, e, gt)))
        ∙ ap (λ cs. point_choices changes links query p ++ cs) (further ∙ exit_none height (choices ps) (omega (arith, above)))
        ∙ sym (own_stays height (value_of (undone p.trail changes)) links query (choices ps) p.alternative above)

-- what choice points keep

same_width : (a : Alternative) → width (exited_alternative a) ≡ width a
same_width (Resumes rest) = refl
same_width (Retries left c) = refl
same_width (Marks p conds was) = refl

same_rest : (a : Alternative) → rest_of (exited_alternative a) ≡ rest_of a
same_rest (Resumes rest) = refl
same_rest (Retries left c) = refl
same_rest (Marks p conds was) = refl

module _ (height : ℕ) where
  same_height : (points : List ChoicePoint) → height_of (exit_points height points) ≡ height_of points
  same_height [] = refl
  same_height (p ∷ ps) = by_test (height == p.below) where
    by_test : (b : Bool) → height_of (if b then record p { alternative = exited_alternative p.alternative } ∷ ps else p ∷ exit_points height ps) ≡ height_of (p ∷ ps)
    by_test true = ap (λ n. p.below + n) (same_width p.alternative)
    by_test false = refl

  pub exit_counted : (points : List ChoicePoint) → AreCounted points → AreCounted (exit_points height points)
  exit_counted [] are = tt
  exit_counted (p ∷ ps) are = by_test (height == p.below) (exit_counted ps are.1) where
    by_test : (b : Bool) → AreCounted (exit_points height ps) → AreCounted (if b then record p { alternative = exited_alternative p.alternative } ∷ ps else p ∷ exit_points height ps)
    by_test true further = are
    by_test false further = (are.0 ∙ sym (same_height ps), further)

  pub exit_in_order : (trail : ℕ) (points : List ChoicePoint) → AreInOrder trail points → AreInOrder trail (exit_points height points)
  exit_in_order trail [] are = tt
  exit_in_order trail (p ∷ ps) are = by_test (height == p.below) (exit_in_order p.trail ps are.1) where
    by_test : (b : Bool) → AreInOrder p.trail (exit_points height ps) → AreInOrder trail (if b then record p { alternative = exited_alternative p.alternative } ∷ ps else p ∷ exit_points height ps)
    by_test true further = are
    by_test false further = (are.0, further)

  pub exit_held : (links : ℕ) (points : List ChoicePoint) → AreHeld links points → AreHeld links (exit_points height points)
  exit_held links [] are = tt
  exit_held links (p ∷ ps) are = by_test (height == p.below) (exit_held p.links ps are.2) where
    by_test : (b : Bool) → AreHeld p.links (exit_points height ps) → AreHeld links (if b then record p { alternative = exited_alternative p.alternative } ∷ ps else p ∷ exit_points height ps)
    by_test true further = (are.0, subst (λ k. k ≤ p.links) (sym (same_rest p.alternative)) are.1, are.2)
    by_test false further = (are.0, are.1, further)

-- marks that are found

abbrev seen : Option Choice → Marked
seen found = record { conds = mark_conds found; exited = mark_exited found }

module _ (h : ℕ) where
  at_here : (c : Choice) (cs : List Choice) → h ≡ length cs → choice_at h (c ∷ cs) ≡ Some c
  at_here c cs e = ap (λ b. if b then Some c else choice_at h cs) (eq-eqb h (length cs) e)

  at_below : (c : Choice) (cs : List Choice) → (h ≡ length cs → ⊥) → choice_at h (c ∷ cs) ≡ choice_at h cs
  at_below c cs ne = ap (λ b. if b then Some c else choice_at h cs) (ne_eqb h (length cs) ne)

  at_none : (cs : List Choice) → length cs ≤ h → choice_at h cs ≡ None
  at_none [] le = refl
  at_none (c ∷ cs) le = at_below c cs (λ e. omega (arith, e, le)) ∙ at_none cs (omega (arith, le))

  at_older : (newer older : List Choice) → h < length older → choice_at h (newer ++ older) ≡ choice_at h older
  at_older [] older lt = refl
  at_older (c ∷ newer) older lt = at_below c (newer ++ older) (λ e. omega (arith, e, lt, length-append newer older)) ∙ at_older newer older lt

  -- clauses that are left are no marks
  at_tries : (call : Call) (left : List ℕ) (older : List Choice) → length older ≤ h → seen (choice_at h (map (λ k. Try k call) left ++ older)) ≡ no_mark
  at_tries call [] older le = ap seen (at_none older le)
  at_tries call (k ∷ left) older le = by_test (h == length (map (λ j. Try j call) left ++ older)) (at_tries call left older le) where
    by_test : (b : Bool) → seen (choice_at h (map (λ j. Try j call) left ++ older)) ≡ no_mark →
        seen (if b then Some (Try k call) else choice_at h (map (λ j. Try j call) left ++ older)) ≡ no_mark
    by_test true further = refl
    by_test false further = further

  module _ (value : ℕ → Term) (links : List Link) (query : ℕ) (older : List Choice) where
    own_seen : (a : Alternative) → h ≡ length older → seen (choice_at h (alternative_choices value links query a ++ older)) ≡ mark_in a
    own_seen (Resumes rest) e = ap seen (at_here (Resume (frame_with value (chain links rest) query)) older e)
    own_seen (Retries left c) e = at_tries (call_with value (chain links c.rest) query c) left older (omega (arith, e))
    own_seen (Marks p conds was) e = ap seen (at_here (Mark p conds was) older e)

    above_seen : (a : Alternative) → length older < h → seen (choice_at h (alternative_choices value links query a ++ older)) ≡ no_mark
    above_seen (Resumes rest) lt = ap seen (at_below (Resume (frame_with value (chain links rest) query)) older (λ e. omega (arith, e, lt)) ∙ at_none older (omega (arith, lt)))
    above_seen (Retries left c) lt = at_tries (call_with value (chain links c.rest) query c) left older (omega (arith, lt))
    above_seen (Marks p conds was) lt = ap seen (at_below (Mark p conds was) older (λ e. omega (arith, e, lt)) ∙ at_none older (omega (arith, lt)))

module _ (changes : List Change) (links : List Link) (query height : ℕ) where
  pub found_marks : (points : List ChoicePoint) → AreCounted points → mark_at_height height points ≡ seen (choice_at height (choices_of changes links query points))
  found_marks [] are = refl
  found_marks (p ∷ ps) are = by_height (found_marks ps are.1) (are.0 ∙ sym (heights changes links query ps are.1)) (cases_order height p.below) where
    older : List Choice
    older = choices_of changes links query ps

    by_height : mark_at_height height ps ≡ seen (choice_at height older) → p.below ≡ length older → (height ≡ p.below) ⊎ ((height < p.below) ⊎ (p.below < height)) →
        mark_at_height height (p ∷ ps) ≡ seen (choice_at height (point_choices changes links query p ++ older))
    by_height further below (inl e) =
        ap (λ b. if b then mark_in p.alternative else mark_at_height height ps) (eq-eqb height p.below e)
        ∙ sym (own_seen height (value_of (undone p.trail changes)) links query older p.alternative (e ∙ below))
    by_height further below (inr (inl lt)) =
        ap (λ b. if b then mark_in p.alternative else mark_at_height height ps) (ne_eqb height p.below (λ e. omega (arith, e, lt)))
        ∙ further
        ∙ sym (ap seen (at_older height (point_choices changes links query p) older (subst (λ n. height < n) below lt)))
    by_height further below (inr (inr gt)) =
        let above : length older < height = subst (λ n. n < height) below gt in
        ap (λ b. if b then mark_in p.alternative else mark_at_height height ps) (ne_eqb height p.below (λ e. omega (arith, e, gt)))
        ∙ further
        ∙ ap seen (at_none height older (omega (arith, above)))
        ∙ sym (above_seen height (value_of (undone p.trail changes)) links query older p.alternative above)

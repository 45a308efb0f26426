-- An engine whose newest choice is taken off, back at its moment.
use Rattle.std.proofs.Common.{◌≡◌, ◌≤◌, ◌-◌, ℕ, List, [], ◌∷◌, ◌++◌, take, drop, reverse, length, refl, sym, ap, subst, ◌∙◌, arith}
use Rattle.std.proofs.lemmas.List.{append-nil, length-reverse, length-take-le, reverse-reverse}
use Rattle.std.specs.Prelude.{Vec}
use Rattle.std.specs.declared.alloc.Global.{Global}
use Rattle.term_heap.specs.Changes.{History, size_of, value_of, undone}
use Rattle.engine_state.specs.declared.engine.Engine as code
use Rattle.engine_state.specs.declared.tasks.Link as code_link
use Rattle.engine_state.specs.declared.points.ChoicePoint as code_point
use Rattle.engine_state.specs.Engines.{Link, ChoicePoint, chain, rest_of, alternative_choices, point_choices, choices_of, AreInOrder, AreHeld}
use Rattle.engine_state.specs.Stacks.{width, AreCounted, IsTaken}
use Rattle.engine_state.specs.Views.{as_alternative, as_point, as_links, as_points}
use Rattle.engine_state.specs.Notes.{IsTaskNoted, IsAlternativeNoted, AreLinksNoted, ArePointsNoted}
use Rattle.engine_state.specs.Moments.{IsAlternativePlaced, Moments, HasMoments, HasItsMoment}
use Rattle.engine_state.specs.Stages.{IsKept}
use Rattle.engine_state.specs.Turns.{HasTaken}
use Rattle.engine_state.proofs.EachLaws.{each_reversed}
use Rattle.engine_state.proofs.ChoiceLaws.{same_alternative, back_choices, pushed_choices}
use Rattle.engine_state.proofs.LinkLaws.{kept_chain, reversed_front}
use Rattle.engine_state.proofs.NoteLaws.{notes_stay}
use Rattle.engine_state.proofs.MomentLaws.{undone_length, left_length}
use Rattle.engine_state.proofs.GivenLaws.{in_order, held, links_noted, points_noted, rest_placed}

module _ (old : code.Engine) (kept : IsKept old) (p : code_point.ChoicePoint) (heap : History) (links : Vec code_link.Link Global) (notes : Vec ℕ Global) (points : Vec code_point.ChoicePoint Global)
    (taken : IsTaken (as_points old.index old.notes.items old.points.items) (as_point old.index old.notes.items p) (as_points old.index old.notes.items points.items))
    (back : HasItsMoment old.program.now old.query old.heap.changes old.notes.items old.links.items p points.items)
    (heap_is : heap.changes ≡ undone p.trail old.heap.changes) (links_are : links.items ≡ take p.links old.links.items) (notes_are : notes.items ≡ take p.notes old.notes.items) where
  abbrev new : code.Engine
  new = record old { heap = heap; links = links; notes = notes; points = points }

  abbrev left : List code_link.Link
  left = drop (length old.links.items - p.links) (reverse old.links.items)

  few_links : p.links ≤ length old.links.items
  few_links = omega (arith, back.before.fewer_links, length-reverse old.links.items)

  left_size : length left ≡ p.links
  left_size = subst (λ n. length (drop (n - p.links) (reverse old.links.items)) ≡ p.links) (length-reverse old.links.items) (left_length p.links (reverse old.links.items) back.before.fewer_links)

  links_back : reverse links.items ≡ left
  links_back = ap reverse links_are ∙ reversed_front p.links old.links.items few_links

  links_size : length links.items ≡ p.links
  links_size = ap length links_are ∙ length-take-le p.links old.links.items few_links

  notes_size : length notes.items ≡ p.notes
  notes_size = ap length notes_are ∙ length-take-le p.notes old.notes.items back.before.fewer_notes

  trail_size : length (undone p.trail old.heap.changes) ≡ p.trail
  trail_size = undone_length p.trail old.heap.changes back.before.trail

  moments : HasMoments old.program.now old.query heap.changes notes.items links.items points.items
  moments =
      subst (λ cs. Moments old.program.now old.query cs (length notes.items) (reverse links.items) (reverse points.items)) (sym heap_is)
      (subst (λ n. Moments old.program.now old.query (undone p.trail old.heap.changes) n (reverse links.items) (reverse points.items)) (sym notes_size)
      (subst (λ ls. Moments old.program.now old.query (undone p.trail old.heap.changes) p.notes ls (reverse points.items)) (sym links_back) back.moments))

  -- notes that are let go change nothing

  front : take p.notes old.notes.items ++ [] ≡ notes.items
  front = append-nil (take p.notes old.notes.items) ∙ sym notes_are

  same_links : as_links notes.items links.items ≡ as_links old.notes.items links.items
  same_links =
      let noted : AreLinksNoted p.notes (reverse links.items) = subst (λ n. AreLinksNoted n (reverse links.items)) notes_size (links_noted old.program.now old.query heap.changes (length notes.items) (reverse links.items) (reverse points.items) moments) in
      subst (λ ns. as_links ns links.items ≡ as_links old.notes.items links.items) front
      (notes_stay.links p.notes old.notes.items [] links.items back.before.fewer_notes (subst (AreLinksNoted p.notes) (reverse-reverse links.items) (each_reversed (λ l. IsTaskNoted p.notes l.task) (reverse links.items) noted)))

  same_points : as_points old.index notes.items points.items ≡ as_points old.index old.notes.items points.items
  same_points =
      let noted : ArePointsNoted p.notes (reverse points.items) = subst (λ n. ArePointsNoted n (reverse points.items)) notes_size (points_noted old.program.now old.query heap.changes (length notes.items) (reverse links.items) (reverse points.items) moments) in
      subst (λ ns. as_points old.index ns points.items ≡ as_points old.index old.notes.items points.items) front
      (notes_stay.points old.index p.notes old.notes.items [] points.items back.before.fewer_notes (subst (ArePointsNoted p.notes) (reverse-reverse points.items) (each_reversed (λ q. IsAlternativeNoted p.notes q.alternative) (reverse points.items) noted)))

  abbrev first_of : (d : ChoicePoint) → List ChoicePoint → ChoicePoint
  first_of d [] = d
  first_of d (q ∷ qs) = q

  same_own : as_alternative old.index notes.items p.alternative ≡ as_alternative old.index old.notes.items p.alternative
  same_own =
      ap (λ ps. (first_of (as_point old.index notes.items p) ps).alternative)
      (subst (λ ns. as_points old.index ns (p ∷ []) ≡ as_points old.index old.notes.items (p ∷ [])) front (notes_stay.points old.index p.notes old.notes.items [] (p ∷ []) back.before.fewer_notes (back.before.noted, tt)))

  -- the links that are left have their chains
  same_chain : (j : ℕ) → j ≤ p.links → chain (as_links notes.items links.items) j ≡ chain (as_links old.notes.items old.links.items) j
  same_chain j le = ap (λ ls. chain ls j) (same_links ∙ ap (as_links old.notes.items) links_are) ∙ kept_chain old.notes.items p.links old.links.items j few_links le

  abbrev olds : List Link
  olds = as_links old.notes.items old.links.items

  abbrev news : List Link
  news = as_links notes.items links.items

  own_choices : alternative_choices (value_of heap.changes) news old.query (as_alternative old.index notes.items p.alternative) ≡ point_choices old.heap.changes olds old.query (as_point old.index old.notes.items p)
  own_choices =
      ap (alternative_choices (value_of heap.changes) news old.query) same_own
      ∙ same_alternative (value_of heap.changes) olds news old.query (as_alternative old.index old.notes.items p.alternative)
      (same_chain (rest_of (as_alternative old.index old.notes.items p.alternative)) (rest_placed old.program.now old.index old.notes.items (size_of (undone p.trail old.heap.changes)) p.links p.alternative back.before.placed))
      ∙ ap (λ cs. alternative_choices (value_of cs) olds old.query (as_alternative old.index old.notes.items p.alternative)) heap_is

  other_choices : choices_of heap.changes news old.query (as_points old.index notes.items points.items) ≡ choices_of old.heap.changes olds old.query (as_points old.index old.notes.items points.items)
  other_choices =
      let ordered : AreInOrder p.trail (as_points old.index old.notes.items points.items) =
      subst (λ n. AreInOrder n (as_points old.index old.notes.items points.items)) trail_size (in_order old.program.now old.index old.notes.items old.query (undone p.trail old.heap.changes) p.notes left (reverse points.items) back.moments) in
      let are_held : AreHeld p.links (as_points old.index old.notes.items points.items) =
      subst (λ n. AreHeld n (as_points old.index old.notes.items points.items)) left_size (held old.program.now old.index old.notes.items old.query (undone p.trail old.heap.changes) p.notes left (reverse points.items) back.moments) in
      (λ i. choices_of (heap_is i) news old.query (same_points i))
      ∙ pushed_choices (undone p.trail old.heap.changes) olds news p.links old.query (as_points old.index old.notes.items points.items) same_chain are_held
      ∙ back_choices p.trail old.heap.changes olds old.query (as_points old.index old.notes.items points.items) ordered

  pub has_taken : HasTaken old p.alternative new
  has_taken = record {
    program = refl;
    calls = refl;
    query = refl;
    past = (p.trail, heap_is);
    choices = taken.choices old.heap.changes olds old.query ∙ sym (λ i. own_choices i ++ other_choices i);
    single = subst (λ a. width a ≤ 1) (sym same_own) taken.single;
    kept = record { in_range = kept.in_range; indexed = kept.indexed; counted = subst AreCounted (sym same_points) (taken.counted kept.counted); moments = moments };
    placed = subst (λ n. IsAlternativePlaced old.program.now (size_of heap.changes) n p.alternative) (sym links_size)
        (subst (λ cs. IsAlternativePlaced old.program.now (size_of cs) p.links p.alternative) (sym heap_is) back.before.placed);
    noted = subst (λ n. IsAlternativeNoted n p.alternative) (sym notes_size) back.before.noted;
    wide = back.before.wide;
  }

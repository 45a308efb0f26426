-- Notes that are added behind those that there are.
use Rattle.std.proofs.Common.{◌≡◌, ◌-◌, ℕ, List, [], ◌∷◌, ◌++◌, length, take, drop, reverse, refl, sym, ap, subst, ◌∙◌, arith}
use Rattle.std.proofs.lemmas.List.{length-append, reverse-append, reverse-reverse, take_all}
use Rattle.std.proofs.Math.Seq.{drop-append_seam}
use Rattle.std.specs.Prelude.{Vec}
use Rattle.std.specs.List.{AllByRecursion}
use Rattle.std.specs.declared.alloc.Global.{Global}
use Rattle.engine_state.specs.declared.engine.Engine as code
use Rattle.engine_state.specs.Engines.{chain, choices_of}
use Rattle.engine_state.specs.Stacks.{AreCounted}
use Rattle.engine_state.specs.Views.{row_of, as_links, as_points}
use Rattle.engine_state.specs.Notes.{IsTaskNoted, IsAlternativeNoted, AreLinksNoted, ArePointsNoted, NotesStay}
use Rattle.engine_state.specs.Moments.{MomentsStay, MomentsGive}
use Rattle.engine_state.specs.Stages.{choices_at, IsKept}
use Rattle.engine_state.specs.Turns.{GoesTo}

module _ {X : Type 0} (P : X → Type 0) where
  each_of_two : (xs ys : List X) → AllByRecursion P xs → AllByRecursion P ys → AllByRecursion P (xs ++ ys)
  each_of_two [] ys all others = others
  each_of_two (x ∷ xs) ys all others = (all.0, each_of_two xs ys all.1 others)

  each_reversed : (xs : List X) → AllByRecursion P xs → AllByRecursion P (reverse xs)
  each_reversed [] all = tt
  each_reversed (x ∷ xs) all = subst (AllByRecursion P) (sym (reverse-append (x ∷ []) xs)) (each_of_two (reverse xs) (x ∷ []) (each_reversed xs all.1) (all.0, tt))

  each_forward : (xs : List X) → AllByRecursion P (reverse xs) → AllByRecursion P xs
  each_forward xs all = subst (AllByRecursion P) (reverse-reverse xs) (each_reversed (reverse xs) all)

-- the row of what was added
pub added_row : (old new more : List ℕ) (first count : ℕ) → new ≡ old ++ more → first ≡ length old → count ≡ length new - first → row_of new (record { first = first; count = count }) ≡ more
added_row old new more first count is start many =
    let size : count ≡ length more = omega (arith, start, many, ap length is, length-append old more) in
    (λ i. take count (drop (start i) (is i))) ∙ ap (take count) (drop-append_seam old more) ∙ take_all count more (omega (arith, size))

module _ (e : code.Engine) (kept : IsKept e) (notes_stay : NotesStay) (moments : MomentsStay e.program.now) (give : MomentsGive e.program.now) (notes : Vec ℕ Global) (more : List ℕ) (is : notes.items ≡ e.notes.items ++ more) where
  abbrev all : List ℕ
  all = e.notes.items

  front : take (length all) all ++ more ≡ notes.items
  front = ap (λ xs. xs ++ more) (take_all (length all) all (omega arith)) ∙ sym is

  same_links : as_links notes.items e.links.items ≡ as_links all e.links.items
  same_links =
      let noted : AreLinksNoted (length all) e.links.items =
      each_forward (λ l. IsTaskNoted (length all) l.task) e.links.items (give.links_noted e.query e.heap.changes (length all) (reverse e.links.items) (reverse e.points.items) kept.moments) in
      subst (λ ns. as_links ns e.links.items ≡ as_links all e.links.items) front (notes_stay.links (length all) all more e.links.items (omega arith) noted)

  same_points : as_points e.index notes.items e.points.items ≡ as_points e.index all e.points.items
  same_points =
      let noted : ArePointsNoted (length all) e.points.items =
      each_forward (λ p. IsAlternativeNoted (length all) p.alternative) e.points.items (give.points_noted e.query e.heap.changes (length all) (reverse e.links.items) (reverse e.points.items) kept.moments) in
      subst (λ ns. as_points e.index ns e.points.items ≡ as_points e.index all e.points.items) front (notes_stay.points e.index (length all) all more e.points.items (omega arith) noted)

  -- nothing else is changed
  pub goes_noted : GoesTo e (length e.links.items) (choices_at e) (record e { notes = notes })
  goes_noted = record {
    program = refl;
    heap = refl;
    calls = refl;
    query = refl;
    choices_are = λ i. choices_of e.heap.changes (same_links i) e.query (same_points i);
    tasks = λ j le. ap (λ links. chain links j) same_links;
    kept = record {
      in_range = kept.in_range;
      indexed = kept.indexed;
      counted = subst AreCounted (sym same_points) kept.counted;
      moments = moments.more_notes e.query e.heap.changes (length all) (length notes.items) (reverse e.links.items) (reverse e.points.items) (omega (arith, ap length is, length-append all more)) kept.moments;
    };
    there = omega arith;
  }

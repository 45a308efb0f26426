-- What an engine goes over into where its links, notes and choice points change.
use Rattle.std.proofs.Common.{◌≡◌, ◌≤◌, ℕ, List, [], ◌∷◌, ◌++◌, map, reverse, length, Some, refl, sym, ap, subst, ◌∙◌, arith}
use Rattle.std.proofs.lemmas.List.{reverse-append, reverse-reverse, length-reverse}
use Rattle.std.specs.Prelude.{Vec}
use Rattle.std.specs.declared.alloc.Global.{Global}
use Rattle.clause_index.specs.declared.keys.Key.{Key}
use Rattle.machine_model.specs.State.{Choice, Doing, cut, exit_mark}
use Rattle.machine_model.specs.Step.{mark_of}
use Rattle.term_heap.specs.Changes.{size_of, value_of}
use Rattle.engine_state.specs.declared.engine.Engine as code
use Rattle.engine_state.specs.declared.tasks.Task as code_task
use Rattle.engine_state.specs.declared.tasks.Link as code_link
use Rattle.engine_state.specs.declared.points.ChoicePoint as code_point
use Rattle.engine_state.specs.Engines.{Task, alternative_choices, choices_of, frame_with, AreHeld}
use Rattle.engine_state.specs.Stacks.{height_of, AreCounted, cut_points, exit_points, mark_at_height, mark_seen, IsPushed}
use Rattle.engine_state.specs.Views.{as_task, as_alternative, as_point, as_links, as_points, LeadDown}
use Rattle.engine_state.specs.Notes.{IsAlternativeNoted, ArePointsNoted}
use Rattle.engine_state.specs.Newest.{AreRising}
use Rattle.engine_state.specs.Moments.{links_held, IsWide, IsAlternativePlaced, ArePlaced, Moments, HasMoments}
use Rattle.engine_state.specs.Kept.{IsLetGo}
use Rattle.engine_state.specs.Stages.{choices_at, frame_now, doing, IsKept}
use Rattle.engine_state.specs.Turns.{GoesTo, HasPushed}
use Rattle.engine_state.proofs.ChoiceLaws.{pushed_choices, now_choices}
use Rattle.engine_state.proofs.CutLaws.{heights, cuts, counted}
use Rattle.engine_state.proofs.EachLaws.{each_reversed}
use Rattle.engine_state.proofs.ExitLaws.{exits, exit_counted, found_marks}
use Rattle.engine_state.proofs.LinkLaws.{length_links}
use Rattle.engine_state.proofs.MomentLaws.{made, moment_now, held_within}
use Rattle.engine_state.proofs.GivenLaws.{held, down, rising, points_noted}

-- how many choices there are
pub height_at : (e : code.Engine) (h : ℕ) → IsKept e → h ≡ height_of (as_points e.index e.notes.items e.points.items) → h ≡ length (choices_at e)
height_at e h kept is = is ∙ sym (heights e.heap.changes (as_links e.notes.items e.links.items) e.query (as_points e.index e.notes.items e.points.items) kept.counted)

-- choice points hold what the newest of them does
held_itself : (index : List (List Key)) (all : List ℕ) (links : ℕ) (points : List code_point.ChoicePoint) → AreHeld links (map (as_point index all) points) → AreHeld (links_held points) (map (as_point index all) points)
held_itself index all links [] are = tt
held_itself index all links (p ∷ ps) are = (omega arith, are.1, are.2)

pub all_held : (e : code.Engine) → IsKept e → AreHeld (links_held (reverse e.points.items)) (as_points e.index e.notes.items e.points.items)
all_held e kept =
    held_itself e.index e.notes.items (length (reverse e.links.items)) (reverse e.points.items)
    (held e.program.now e.index e.notes.items e.query e.heap.changes (length e.notes.items) (reverse e.links.items) (reverse e.points.items) kept.moments)

-- what pushing wants
pub links_enough : (e : code.Engine) → IsKept e → links_held (reverse e.points.items) ≤ length e.links.items
links_enough e kept = omega (arith, (held_within e.program.now e.query e.heap.changes (length e.notes.items) (reverse e.links.items) (reverse e.points.items) kept.moments).0, length-reverse e.links.items)

pub leads_down : (e : code.Engine) → IsKept e → LeadDown (reverse e.links.items)
leads_down e kept = down e.program.now e.query e.heap.changes (length e.notes.items) (reverse e.links.items) (reverse e.points.items) kept.moments

pub all_placed : (e : code.Engine) → IsKept e → ArePlaced e.program.now (size_of e.heap.changes) (length e.notes.items) (reverse e.links.items)
all_placed e kept = (moment_now e.program.now e.query e.heap.changes (length e.notes.items) (reverse e.links.items) (reverse e.points.items) kept.moments).1

module _ (old : code.Engine) (kept : IsKept old) where
  abbrev links : List code_link.Link
  links = old.links.items

  -- links and notes are let go
  pub goes_let_go : (rest : ℕ) (new_links : Vec code_link.Link Global) (new_notes : Vec ℕ Global) → IsLetGo old.program.now old.query old.heap.changes rest old.notes.items links old.points.items new_notes.items new_links.items →
      GoesTo old rest (choices_at old) (record old { links = new_links; notes = new_notes })
  goes_let_go rest new_links new_notes gone =
      let olds = as_links old.notes.items links in
      let news = as_links new_notes.items new_links.items in
      record {
        program = refl;
        heap = refl;
        calls = refl;
        query = refl;
        choices_are = ap (choices_of old.heap.changes news old.query) (gone.points_are old.index)
            ∙ pushed_choices old.heap.changes olds news (links_held (reverse old.points.items)) old.query (as_points old.index old.notes.items old.points.items) (λ j le. gone.chains j (omega (arith, le))) (all_held old kept);
        tasks = λ j le. gone.chains j (omega (arith, le));
        kept = record { in_range = kept.in_range; indexed = kept.indexed; counted = subst AreCounted (sym (gone.points_are old.index)) kept.counted; moments = gone.moments };
        there = gone.there;
      }

  -- a task is put before others
  pub goes_pushed : (task : code_task.Task) (rest k : ℕ) (new_links : Vec code_link.Link Global) → IsPushed (links_held (reverse old.points.items)) rest (as_links old.notes.items links) (as_task old.notes.items task) k (as_links old.notes.items new_links.items) →
      HasMoments old.program.now old.query old.heap.changes old.notes.items new_links.items old.points.items → HasPushed old (as_task old.notes.items task) rest k (record old { links = new_links })
  goes_pushed task rest k new_links pushed moments =
      let olds = as_links old.notes.items links in
      let news = as_links old.notes.items new_links.items in
      let number : k ≡ length new_links.items = pushed.number ∙ length_links old.notes.items new_links.items in
      record {
        goes = record {
          program = refl;
          heap = refl;
          calls = refl;
          query = refl;
          choices_are = pushed_choices old.heap.changes olds news (links_held (reverse old.points.items)) old.query (as_points old.index old.notes.items old.points.items) (λ j le. pushed.stay j (omega (arith, le))) (all_held old kept);
          tasks = λ j le. pushed.stay j (omega (arith, le));
          kept = record { in_range = kept.in_range; indexed = kept.indexed; counted = kept.counted; moments = moments };
          there = omega (arith, number, pushed.above);
        };
        first = pushed.first;
        first_there = omega (arith, number);
        above = pushed.above;
      }

  -- a choice point is made
  pub goes_pointed : (p : code_point.ChoicePoint) (new_points : Vec code_point.ChoicePoint Global) → new_points.items ≡ old.points.items ++ p ∷ [] → p.trail ≡ length old.heap.changes → p.links ≡ length links → p.notes ≡ length old.notes.items →
      p.below ≡ height_of (as_points old.index old.notes.items old.points.items) → IsAlternativePlaced old.program.now (size_of old.heap.changes) (length links) p.alternative → IsAlternativeNoted (length old.notes.items) p.alternative → IsWide p.alternative →
      GoesTo old (length links) (alternative_choices (value_of old.heap.changes) (as_links old.notes.items links) old.query (as_alternative old.index old.notes.items p.alternative) ++ choices_at old) (record old { points = new_points })
  goes_pointed p new_points is trail links_are notes_are below placed noted wide =
      let olds = as_links old.notes.items links in
      let newest_first : reverse new_points.items ≡ p ∷ reverse old.points.items = ap reverse is ∙ reverse-append old.points.items (p ∷ []) in
      let points_are : as_points old.index old.notes.items new_points.items ≡ as_point old.index old.notes.items p ∷ as_points old.index old.notes.items old.points.items = ap (map (as_point old.index old.notes.items)) newest_first in
      let size : length (reverse links) ≡ length links = length-reverse links in
      record {
        program = refl;
        heap = refl;
        calls = refl;
        query = refl;
        choices_are = ap (choices_of old.heap.changes olds old.query) points_are ∙ ap (λ cs. cs ++ choices_at old) (now_choices old.heap.changes olds old.query (as_point old.index old.notes.items p) (omega (arith, trail)));
        tasks = λ j le. refl;
        kept = record {
          in_range = kept.in_range;
          indexed = kept.indexed;
          counted = subst AreCounted (sym points_are) (below, kept.counted);
          moments = subst (Moments old.program.now old.query old.heap.changes (length old.notes.items) (reverse links)) (sym newest_first)
              (made old.program.now old.query old.heap.changes (length old.notes.items) (reverse links) p (reverse old.points.items) trail (links_are ∙ sym size) notes_are
              (subst (λ n. IsAlternativePlaced old.program.now (size_of old.heap.changes) n p.alternative) (sym size) placed) noted wide kept.moments);
        };
        there = omega arith;
      }

  -- choices are cut
  pub goes_cut : (h : ℕ) (new_points : Vec code_point.ChoicePoint Global) → as_points old.index old.notes.items new_points.items ≡ cut_points h (as_points old.index old.notes.items old.points.items) →
      HasMoments old.program.now old.query old.heap.changes old.notes.items links new_points.items → GoesTo old (length links) (cut h (choices_at old)) (record old { points = new_points })
  goes_cut h new_points is moments =
      let olds = as_links old.notes.items links in
      record {
        program = refl;
        heap = refl;
        calls = refl;
        query = refl;
        choices_are = ap (choices_of old.heap.changes olds old.query) is ∙ cuts old.heap.changes olds old.query h (as_points old.index old.notes.items old.points.items) kept.counted;
        tasks = λ j le. refl;
        kept = record { in_range = kept.in_range; indexed = kept.indexed; counted = subst AreCounted (sym is) (counted h (as_points old.index old.notes.items old.points.items) kept.counted); moments = moments };
        there = omega arith;
      }

-- a mark is exited
pub goes_exited : (old : code.Engine) (kept : IsKept old) (h : ℕ) (new_points : Vec code_point.ChoicePoint Global) → as_points old.index old.notes.items new_points.items ≡ exit_points h (as_points old.index old.notes.items old.points.items) →
    HasMoments old.program.now old.query old.heap.changes old.notes.items old.links.items new_points.items → GoesTo old (length old.links.items) (exit_mark (Some h) (choices_at old)) (record old { points = new_points })
goes_exited old kept h new_points is moments =
    let olds = as_links old.notes.items old.links.items in
    let points = as_points old.index old.notes.items old.points.items in
    record {
      program = refl;
      heap = refl;
      calls = refl;
      query = refl;
      choices_are = ap (choices_of old.heap.changes olds old.query) is ∙ exits old.heap.changes olds old.query h points kept.counted;
      tasks = λ j le. refl;
      kept = record { in_range = kept.in_range; indexed = kept.indexed; counted = subst AreCounted (sym is) (exit_counted h points kept.counted); moments = moments };
      there = omega arith;
    }

-- marks that are looked at
pub points_rise : (e : code.Engine) → IsKept e → AreRising e.points.items
points_rise e kept =
    subst AreRising (reverse-reverse e.points.items)
    (rising e.program.now e.index e.notes.items e.query e.heap.changes (length e.notes.items) (reverse e.links.items) (reverse e.points.items) kept.moments kept.counted)

pub mark_is : (e : code.Engine) (h : ℕ) → IsKept e → mark_at_height h (as_points e.index e.notes.items e.points.items) ≡ mark_seen (mark_of (Some h) (choices_at e))
mark_is e h kept = found_marks e.heap.changes (as_links e.notes.items e.links.items) e.query h (as_points e.index e.notes.items e.points.items) kept.counted

pub all_noted : (e : code.Engine) → IsKept e → ArePointsNoted (length e.notes.items) e.points.items
all_noted e kept =
    subst (ArePointsNoted (length e.notes.items)) (reverse-reverse e.points.items)
    (each_reversed (λ p. IsAlternativeNoted (length e.notes.items) p.alternative) (reverse e.points.items)
    (points_noted e.program.now e.query e.heap.changes (length e.notes.items) (reverse e.links.items) (reverse e.points.items) kept.moments))

-- one after the other

pub goes_on : (first mid last : code.Engine) (rest more : ℕ) (cs ds : List Choice) → GoesTo first rest cs mid → GoesTo mid more ds last → rest ≤ more → GoesTo first rest ds last
goes_on first mid last rest more cs ds a b le = record {
  program = b.program ∙ a.program;
  heap = b.heap ∙ a.heap;
  calls = b.calls ∙ a.calls;
  query = b.query ∙ a.query;
  choices_are = b.choices_are;
  tasks = λ j under. b.tasks j (omega (arith, under, le)) ∙ a.tasks j under;
  kept = b.kept;
  there = omega (arith, le, b.there);
}

-- the state after it
pub state_after : (old new : code.Engine) (rest : ℕ) (cs : List Choice) (tasks : List Task) → GoesTo old rest cs new → doing new tasks ≡ record (doing old tasks) { choices = cs }
state_after old new rest cs tasks g = λ i. record {
  calls = g.calls i;
  fresh = size_of ((g.heap i).changes);
  choices = g.choices_are i;
  current = Doing (frame_with (value_of ((g.heap i).changes)) tasks (g.query i));
}

pub frame_after : (old new : code.Engine) (rest : ℕ) (cs : List Choice) (tasks : List Task) → GoesTo old rest cs new → frame_now new tasks ≡ frame_now old tasks
frame_after old new rest cs tasks g = λ i. frame_with (value_of ((g.heap i).changes)) tasks (g.query i)

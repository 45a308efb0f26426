-- What follows of links and choice points that have their moments.
use Rattle.std.proofs.Common.{◌≤◌, ◌<◌, ◌-◌, ℕ, List, [], ◌∷◌, ◌++◌, map, drop, reverse, length, sym, subst, arith}
use Rattle.std.proofs.lemmas.List.{reverse-append}
use Rattle.std.specs.List.{AllByRecursion}
use Rattle.prog_data.specs.declared.programs.Program.{Program}
use Rattle.clause_index.specs.declared.keys.Key.{Key}
use Rattle.term_heap.specs.Changes.{Change, undone}
use Rattle.engine_state.specs.declared.tasks.Task as code_task
use Rattle.engine_state.specs.declared.tasks.Task.TheVariants as task
use Rattle.engine_state.specs.declared.tasks.Link as code_link
use Rattle.engine_state.specs.declared.points.Alternative as code_alternative
use Rattle.engine_state.specs.declared.points.Alternative.TheVariants as alternative
use Rattle.engine_state.specs.declared.points.ChoicePoint as code_point
use Rattle.engine_state.specs.Engines.{ChoicePoint, AreInOrder, rest_of, AreHeld}
use Rattle.engine_state.specs.Stacks.{width, height_of, AreCounted}
use Rattle.engine_state.specs.Views.{as_alternative, as_point, LeadDown}
use Rattle.engine_state.specs.Newest.{AreRising}
use Rattle.engine_state.specs.Notes.{IsTaskNoted, IsAlternativeNoted, AreLinksNoted, ArePointsNoted}
use Rattle.engine_state.specs.Moments.{notes_held, IsWide, IsAlternativePlaced, ArePlaced, Moments, MomentsGive}
use Rattle.engine_state.proofs.EachLaws.{each_of_two, each_reversed}
use Rattle.engine_state.proofs.PointLaws.{length-left}
use Rattle.engine_state.proofs.MomentLaws.{undone_length, left_length, moment_now}

-- more notes

pub task_more : (held more : ℕ) (t : code_task.Task) → held ≤ more → IsTaskNoted held t → IsTaskNoted more t
task_more held more (task.Runs goal base h place) le is = tt
task_more held more (task.Cuts h) le is = tt
task_more held more (task.Fails h place) le is = tt
task_more held more (task.Leaves e) le is = omega (arith, le, is)

pub alternative_more : (held more : ℕ) (a : code_alternative.Alternative) → held ≤ more → IsAlternativeNoted held a → IsAlternativeNoted more a
alternative_more held more (alternative.Resumes rest) le is = tt
alternative_more held more (alternative.Retries key next end c) le is = omega (arith, le, is)
alternative_more held more (alternative.Marks p conds exited) le is = omega (arith, le, is)

-- choice points that rise

module _ (index : List (List Key)) (all : List ℕ) where
  abbrev as_all : List code_point.ChoicePoint → List ChoicePoint
  as_all points = map (as_point index all) points

  width_some : (a : code_alternative.Alternative) → IsWide a → 0 < width (as_alternative index all a)
  width_some (alternative.Resumes rest) wide = omega arith
  width_some (alternative.Retries key next end c) wide = omega (arith, wide, length-left index c.exit.pred key next end)
  width_some (alternative.Marks p conds exited) wide = omega arith

  -- each is below the height
  below_height : (height : ℕ) (points : List code_point.ChoicePoint) → height_of (as_all points) ≤ height → AllByRecursion (λ p. IsWide p.alternative) points → AreCounted (as_all points) → AllByRecursion (λ p. p.below < height) points
  below_height height [] le wide counted = tt
  below_height height (p ∷ ps) le wide counted =
      let some : 0 < width (as_alternative index all p.alternative) = width_some p.alternative wide.0 in
      (omega (arith, le, some), below_height height ps (omega (arith, le, counted.0)) wide.1 counted.1)

  rising_end : (points : List code_point.ChoicePoint) (p : code_point.ChoicePoint) → AreRising points → AllByRecursion (λ q. q.below < p.below) points → AreRising (points ++ p ∷ [])
  rising_end [] p are below = (tt, tt)
  rising_end (q ∷ qs) p are below = (each_of_two (λ r. q.below < r.below) qs (p ∷ []) are.0 (below.0, tt), rising_end qs p are.1 below.1)

  rising_all : (points : List code_point.ChoicePoint) → AllByRecursion (λ p. IsWide p.alternative) points → AreCounted (as_all points) → AreRising (reverse points)
  rising_all [] wide counted = tt
  rising_all (p ∷ ps) wide counted =
      subst AreRising (sym (reverse-append (p ∷ []) ps))
      (rising_end (reverse ps) p (rising_all ps wide.1 counted.1) (each_reversed (λ q. q.below < p.below) ps (below_height p.below ps (omega (arith, counted.0)) wide.1 counted.1)))

-- moments

module _ (program : Program) where
  pub rest_placed : (index : List (List Key)) (all : List ℕ) (cells links : ℕ) (a : code_alternative.Alternative) → IsAlternativePlaced program cells links a → rest_of (as_alternative index all a) ≤ links
  rest_placed index all cells links (alternative.Resumes rest) is = is
  rest_placed index all cells links (alternative.Retries key next end c) is = is.2
  rest_placed index all cells links (alternative.Marks p conds exited) is = omega arith

  pub in_order : (index : List (List Key)) (all : List ℕ) (query : ℕ) (changes : List Change) (notes : ℕ) (links : List code_link.Link) (points : List code_point.ChoicePoint) → Moments program query changes notes links points → AreInOrder (length changes) (map (as_point index all) points)
  in_order index all query changes notes links [] are = tt
  in_order index all query changes notes links (p ∷ ps) are =
      (are.1.trail, subst (λ n. AreInOrder n (map (as_point index all) ps)) (undone_length p.trail changes are.1.trail) (in_order index all query (undone p.trail changes) p.notes (drop (length links - p.links) links) ps are.2))

  pub held : (index : List (List Key)) (all : List ℕ) (query : ℕ) (changes : List Change) (notes : ℕ) (links : List code_link.Link) (points : List code_point.ChoicePoint) → Moments program query changes notes links points → AreHeld (length links) (map (as_point index all) points)
  held index all query changes notes links [] are = tt
  held index all query changes notes links (p ∷ ps) are = (
    are.1.fewer_links,
    rest_placed index all _ p.links p.alternative are.1.placed,
    subst (λ n. AreHeld n (map (as_point index all) ps)) (left_length p.links links are.1.fewer_links) (held index all query (undone p.trail changes) p.notes (drop (length links - p.links) links) ps are.2),
  )

  placed_down : (cells notes : ℕ) (links : List code_link.Link) → ArePlaced program cells notes links → LeadDown links
  placed_down cells notes [] are = tt
  placed_down cells notes (l ∷ older) are = (are.3, placed_down cells l.notes older are.4)

  pub down : (query : ℕ) (changes : List Change) (notes : ℕ) (links : List code_link.Link) (points : List code_point.ChoicePoint) → Moments program query changes notes links points → LeadDown links
  down query changes notes links points are = placed_down _ notes links (moment_now program query changes notes links points are).1

  pub placed_noted : (cells notes most : ℕ) (links : List code_link.Link) → notes ≤ most → ArePlaced program cells notes links → AreLinksNoted most links
  placed_noted cells notes most [] le are = tt
  placed_noted cells notes most (l ∷ older) le are = (task_more l.notes most l.task (omega (arith, le, are.2)) are.1, placed_noted cells l.notes most older (omega (arith, le, are.2)) are.4)

  pub links_noted : (query : ℕ) (changes : List Change) (notes : ℕ) (links : List code_link.Link) (points : List code_point.ChoicePoint) → Moments program query changes notes links points → AreLinksNoted notes links
  links_noted query changes notes links points are = placed_noted _ notes notes links (omega arith) (moment_now program query changes notes links points are).1

  noted_within : (query : ℕ) (changes : List Change) (notes most : ℕ) (links : List code_link.Link) (points : List code_point.ChoicePoint) → notes ≤ most → Moments program query changes notes links points → ArePointsNoted most points
  noted_within query changes notes most links [] le are = tt
  noted_within query changes notes most links (p ∷ ps) le are = (
    alternative_more p.notes most p.alternative (omega (arith, le, are.1.fewer_notes)) are.1.noted,
    noted_within query (undone p.trail changes) p.notes most (drop (length links - p.links) links) ps (omega (arith, le, are.1.fewer_notes)) are.2,
  )

  -- the notes that the newest one holds are enough
  pub held_noted : (query : ℕ) (changes : List Change) (notes most : ℕ) (links : List code_link.Link) (points : List code_point.ChoicePoint) → notes_held points ≤ most → Moments program query changes notes links points → ArePointsNoted most points
  held_noted query changes notes most links [] le are = tt
  held_noted query changes notes most links (p ∷ ps) le are = (
    alternative_more p.notes most p.alternative le are.1.noted,
    noted_within query (undone p.trail changes) p.notes most (drop (length links - p.links) links) ps le are.2,
  )

  pub points_noted : (query : ℕ) (changes : List Change) (notes : ℕ) (links : List code_link.Link) (points : List code_point.ChoicePoint) → Moments program query changes notes links points → ArePointsNoted notes points
  points_noted query changes notes links points are = noted_within query changes notes notes links points (omega arith) are

  all_wide : (query : ℕ) (changes : List Change) (notes : ℕ) (links : List code_link.Link) (points : List code_point.ChoicePoint) → Moments program query changes notes links points → AllByRecursion (λ p. IsWide p.alternative) points
  all_wide query changes notes links [] are = tt
  all_wide query changes notes links (p ∷ ps) are = (are.1.wide, all_wide query (undone p.trail changes) p.notes (drop (length links - p.links) links) ps are.2)

  pub rising : (index : List (List Key)) (all : List ℕ) (query : ℕ) (changes : List Change) (notes : ℕ) (links : List code_link.Link) (points : List code_point.ChoicePoint) → Moments program query changes notes links points → AreCounted (map (as_point index all) points) → AreRising (reverse points)
  rising index all query changes notes links points are counted = rising_all index all points (all_wide query changes notes links points are) counted

  pub moments_give : MomentsGive program
  moments_give = record { in_order = in_order; held = held; down = down; links_noted = links_noted; points_noted = points_noted; rising = rising }

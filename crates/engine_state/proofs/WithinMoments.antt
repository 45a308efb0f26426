-- Links and choice points that have their moments have their cells among those that were there.
use Rattle.std.proofs.Common.{◌≡◌, ◌≤◌, ◌<◌, ◌-◌, ℕ, List, [], ◌∷◌, ◌++◌, map, take, drop, length, refl, sym, ap, subst, ◌∙◌, arith}
use Rattle.std.proofs.lemmas.List.{length-map, map-append, take-append-drop}
use Rattle.std.specs.Prelude.{Bool}
use Rattle.std.specs.List.{AllByRecursion}
use Rattle.prog_data.specs.declared.goals.Goal.{Fail}
use Rattle.prog_data.specs.declared.programs.Program.{Program}
use Rattle.prog_data.specs.Ranges.{goal_step}
use Rattle.prog_data.proofs.GoalFolds.{fold-Fail}
use Rattle.clause_index.specs.declared.keys.Key.{Key}
use Rattle.term_heap.specs.Changes.{Change, size_of, undone}
use Rattle.engine_state.specs.declared.tasks.Task as code_task
use Rattle.engine_state.specs.declared.tasks.Task.TheVariants as task
use Rattle.engine_state.specs.declared.tasks.Link as code_link
use Rattle.engine_state.specs.declared.points.Alternative as code_alternative
use Rattle.engine_state.specs.declared.points.Alternative.TheVariants as alternative
use Rattle.engine_state.specs.declared.points.ChoicePoint as code_point
use Rattle.engine_state.specs.Engines.{Link, chain}
use Rattle.engine_state.specs.Views.{as_task, as_link, as_alternative, as_point}
use Rattle.engine_state.specs.Moments.{IsTaskPlaced, IsAlternativePlaced, ArePlaced, Moments}
use Rattle.engine_state.specs.MomentsWithin.{MomentsWithin}
use Rattle.engine_state.specs.Within.{IsTaskWithin, AreTasksWithin, AreLinksWithin, IsAlternativeWithin, IsPointWithin, ArePointsWithin}
use Rattle.engine_state.proofs.ChoiceLaws.{undone_twice}
use Rattle.engine_state.proofs.LinkLaws.{chain_older}
use Rattle.engine_state.proofs.MomentLaws.{undone_length, left_length, moment_now}
use Rattle.engine_state.proofs.WithinLaws.{tasks_within}

module _ (program : Program) (notes : List ℕ) where
  abbrev as_all : List code_link.Link → List Link
  as_all links = map (as_link notes) links

  pub task_within : (cells : ℕ) (t : code_task.Task) → IsTaskPlaced program cells t → IsTaskWithin cells (as_task notes t)
  task_within cells (task.Runs goal base h place) is = tasks_within.ranged program cells is.0 base h goal.now place is.1 is.2
  task_within cells (task.Cuts h) is = tt
  task_within cells (task.Fails h place) is = tasks_within.ranged program cells 0 0 h Fail place (fold-Fail Bool (goal_step program 0)) (omega arith)
  task_within cells (task.Leaves e) is = is.0.within

  pub links_within : (cells used : ℕ) (links : List code_link.Link) → ArePlaced program cells used links → AreLinksWithin cells (as_all links)
  links_within cells used [] are = tt
  links_within cells used (l ∷ older) are = (task_within cells l.task are.0, links_within cells l.notes older are.4)

  -- the chain of a link that is left
  left_chain : (n j : ℕ) (links : List code_link.Link) → j ≤ length (drop n links) → chain (as_all links) j ≡ chain (as_all (drop n links)) j
  left_chain n j links le =
      let older = as_all (drop n links) in
      let size : length older ≡ length (drop n links) = length-map (drop n links) (as_link notes) in
      let parts : as_all links ≡ as_all (take n links) ++ older = ap as_all (sym (take-append-drop n links)) ∙ map-append (as_link notes) (take n links) (drop n links) in
      ap (λ ls. chain ls j) parts ∙ chain_older (as_all (take n links)) older j (omega (arith, size, le))

  module _ (index : List (List Key)) (query : ℕ) (now : List Change) (all : List code_link.Link) where
    pub alternative_within : (cells links : ℕ) (left : List code_link.Link) (a : code_alternative.Alternative) → AreLinksWithin cells (as_all left) → ((j : ℕ) → j ≤ links → chain (as_all all) j ≡ chain (as_all left) j) →
        IsAlternativePlaced program cells links a → IsAlternativeWithin cells (as_all all) (as_alternative index notes a)
    alternative_within cells links left (alternative.Resumes rest) are same is = subst (AreTasksWithin cells) (sym (same rest is)) (tasks_within.chained cells (as_all left) rest are)
    alternative_within cells links left (alternative.Retries key next end c) are same is = (is.0.within, subst (AreTasksWithin cells) (sym (same c.rest is.2)) (tasks_within.chained cells (as_all left) c.rest are))
    alternative_within cells links left (alternative.Marks p conds exited) are same is = tt

    within_from : (changes : List Change) (used : ℕ) (links : List code_link.Link) (points : List code_point.ChoicePoint) → ((n : ℕ) → n ≤ length changes → undone n changes ≡ undone n now) →
        ((j : ℕ) → j ≤ length links → chain (as_all all) j ≡ chain (as_all links) j) → Moments program query changes used links points → AllByRecursion (IsPointWithin now (as_all all) query) (map (as_point index notes) points)
    within_from changes used links [] past same are = tt
    within_from changes used links (p ∷ ps) past same are =
        let n : ℕ = length links - p.links in
        let left : List code_link.Link = drop n links in
        let size : length left ≡ p.links = left_length p.links links are.1.fewer_links in
        let then_is : undone p.trail changes ≡ undone p.trail now = past p.trail are.1.trail in
        let moment = moment_now program query (undone p.trail changes) p.notes left ps are.2 in
        let same_left : (j : ℕ) → j ≤ p.links → chain (as_all all) j ≡ chain (as_all left) j = λ j le. same j (omega (arith, le, are.1.fewer_links)) ∙ left_chain n j links (omega (arith, le, size)) in
        let trail : length (undone p.trail changes) ≡ p.trail = undone_length p.trail changes are.1.trail in (
          subst (λ cs. (query < size_of cs) × IsAlternativeWithin (size_of cs) (as_all all) (as_alternative index notes p.alternative)) then_is
              (moment.0, alternative_within (size_of (undone p.trail changes)) p.links left p.alternative (links_within (size_of (undone p.trail changes)) p.notes left moment.1) same_left are.1.placed),
          within_from (undone p.trail changes) p.notes left ps (λ m le. undone_twice m p.trail changes (omega (arith, le, trail)) ∙ past m (omega (arith, le, trail, are.1.trail))) (λ j le. same_left j (omega (arith, le, size))) are.2,
        )

pub moments_within : (program : Program) → MomentsWithin program
moments_within program = record {
  tasks = task_within program;
  links_are = λ notes query changes used links points are. links_within program notes (size_of changes) used links (moment_now program query changes used links points are).1;
  points_are = λ index notes query changes used links points are. within_from program notes index query changes links changes used links points (λ n le. refl) (λ j le. refl) are;
}

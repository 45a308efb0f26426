-- A clause that is tried over cells is the one that the semantics tries.
use Rattle.std.proofs.Common.{◌≡◌, ℕ, ◌+◌, Bool, true, false, List, [], ◌∷◌, map, length, replicate, refl, sym, ap, ◌∙◌, arith}
use Rattle.std.specs.Prelude.{if◌then◌else◌}
use Rattle.term_core.specs.declared.terms.Term.{Term}
use Rattle.term_core.specs.Terms.{instance, higher, rename}
use Rattle.term_core.specs.Unify.{pairs}
use Rattle.prog_data.specs.declared.programs.Clause.{Clause}
use Rattle.prog_data.specs.declared.programs.Program.{Program}
use Rattle.prog_data.specs.Goals.{goal_instance, without_exit}
use Rattle.machine_model.specs.State.{Item, Does, Exits}
use Rattle.machine_model.specs.Tests.{Tests}
use Rattle.machine_model.specs.Step.{entered}
use Rattle.machine_model.specs.LeanerLaws.{head_equations}
use Rattle.term_heap.specs.declared.cells.Cell.TheVariants.{Free}
use Rattle.term_heap.specs.Changes.{Change, Grows, size_of, value_of, places, IsMade}
use Rattle.term_heap.specs.Loads.{from_base}
use Rattle.unify_core.specs.Heads as heads
use Rattle.engine_state.specs.Engines.{Task, Runs, Leaves, Pending, item_of, frame_with, call_with}
use Rattle.engine_state.specs.MoveLaws.{entered_tasks, ClausesEnter}
use Rattle.engine_state.proofs.FrameLaws.{fresh_same, value_past}

free_same : (changes : List Change) (count s : ℕ) → IsMade changes → value_of (Grows (replicate count Free) s ∷ changes) ≡ value_of changes
free_same changes count s made = λ i k. fresh_same changes count s k made i

module _ (changes : List Change) (made : IsMade changes) where
  abbrev own : ℕ → Term
  own = from_base (value_of changes) (size_of changes)

  -- a variable of the clause is the place that many behind the cells
  own_variable : (v : ℕ) → own v ≡ higher (size_of changes) v
  own_variable v = value_past changes (v + size_of changes) made (omega arith)

  own_term : (t : Term) → instance own t ≡ rename (size_of changes) t
  own_term t = λ i. instance (λ v. own_variable v i) t

  module _ (tasks : List Task) (query : ℕ) (c : Pending) (clause : Clause) where
    head_same : c.exit.count ≡ length clause.head → heads.head_equations (value_of changes) (size_of changes) c.exit.first clause.head ≡ head_equations (size_of changes) clause (call_with (value_of changes) tasks query c)
    head_same many = λ i. pairs (map (value_of changes) (places c.exit.first (sym many i))) (map (λ t. own_term t i) clause.head)

    exit_items : (b : Bool) → map (item_of (value_of changes)) (if b then Leaves c.exit ∷ tasks else tasks)
        ≡ (if b then Exits c.exit.pred (map (value_of changes) (places c.exit.first c.exit.count)) c.exit.noted c.exit.mark ∷ map (item_of (value_of changes)) tasks else map (item_of (value_of changes)) tasks)
    exit_items true = refl
    exit_items false = refl

    frame_same : (what : Tests) (program : Program) (bound : ℕ) →
        frame_with (value_of changes) (entered_tasks what clause (size_of changes) c tasks) query ≡ entered what program bound (size_of changes) clause (call_with (value_of changes) tasks query c)
    frame_same what program bound = λ i. record {
      items = Does (goal_instance (λ v. own_variable v i) (without_exit clause.body)) c.height clause.place ∷ exit_items (what.exits clause.body) i;
      query = value_of changes query;
    }

pub clauses_enter : ClausesEnter
clauses_enter = record {
  free = free_same;
  head = λ changes tasks query c clause made many. head_same changes made tasks query c clause many;
  frame = λ what program bound changes tasks query c clause made. frame_same changes made tasks query c clause what program bound;
}

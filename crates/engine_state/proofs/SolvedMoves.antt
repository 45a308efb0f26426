-- Moves by any most general values.
use Rattle.std.proofs.Common.{◌≡◌, ℕ, ◌+◌, List, [], ◌∷◌, Some, refl, sym, ap, ◌∙◌, subst}
use Rattle.term_core.specs.declared.terms.Term.{Term}
use Rattle.term_core.specs.declared.equations.Equation.{Equation}
use Rattle.term_core.specs.declared.equations.Binding.{Binding}
use Rattle.term_core.specs.declared.equations.Outcome.{Outcome}
use Rattle.term_core.specs.declared.equations.Outcome.TheVariants.{Solved, Clash, Cyclic}
use Rattle.term_core.specs.Unify.{Unified, values}
use Rattle.term_core.specs.Solutions.{Solves, IsRight, HasOneOutcome}
use Rattle.term_core.specs.Variants.{IsMostGeneral}
use Rattle.prog_data.specs.declared.goals.Builtin.{Builtin}
use Rattle.prog_data.specs.declared.goals.Goal.{Goal}
use Rattle.prog_data.specs.declared.goals.Goal as goal
use Rattle.prog_data.specs.declared.programs.Clause.{Clause}
use Rattle.prog_data.specs.declared.programs.Place.{Place}
use Rattle.prog_data.specs.declared.programs.Program.{Program}
use Rattle.prog_data.specs.Programs.{IsProgram}
use Rattle.machine_model.specs.State.{Frame, Call, Choice, State, Going, frame_instance}
use Rattle.machine_model.specs.Tests.{Tests}
use Rattle.machine_model.specs.Step.{Equates, quietly}
use Rattle.machine_model.specs.Leaner.{clause_at, IsLeaner}
use Rattle.machine_model.specs.LeanerLaws.{LeanerTellsTheSame, LeanerStatesAreFound, before_goal, before_try, after_try, head_equations}
use Rattle.engine_state.specs.Moves.{Makes, Moves}
use Rattle.engine_state.specs.StepsMade.{doing, equation, effect_of}
use Rattle.engine_state.specs.MoveLaws.{SolvedHaveBindings, SolvedMove}
use Rattle.engine_state.proofs.Composing.{made_moves, moves_compose}
use Rattle.engine_state.proofs.MadeSteps.{builtins_make, failures_make}
use Rattle.engine_state.proofs.EquatedLaws.{equated_alike}

-- equations that some values solve have bindings
by_outcome : (es : List Equation) (value : ℕ → Term) (o : Outcome) → Unified es o → IsRight es o → Solves value es → (bs : List Binding) × Unified es (Solved bs)
by_outcome es value (Solved bs) ends right solves = (bs, ends)
by_outcome es value Clash ends right solves = absurd (right value solves)
by_outcome es value Cyclic ends right solves = absurd (right value solves)

pub solved_have : ((es : List Equation) → HasOneOutcome es) → SolvedHaveBindings
solved_have one es value solves = let has = one es in by_outcome es value has.outcome has.ends has.is_right solves

module _ (one : (es : List Equation) → HasOneOutcome es) (tells : LeanerTellsTheSame) (found : LeanerStatesAreFound) (what : Tests) (program : Program) (bound : ℕ) (is : IsProgram program) where
  -- a move to a state, and then to a leaner one
  to_leaner : (old s s' : State) → Moves what program bound (Going old) (quietly (Going s)) → IsLeaner program s s' → Moves what program bound (Going old) (quietly (Going s')) × IsLeaner program s' s'
  to_leaner old s s' m are = ((moves_compose what program bound).after (Going old) [] 0 s s' m (tells program is s s' are), (found program is).own s s' are)

  pub solved_move : SolvedMove what program bound
  solved_move = record {
    tried = λ made n k call cs clause value there own general.
        let bs = solved_have one (head_equations n clause call) value general.solves in
        let makes = (failures_make what program bound made n cs).try k call clause (Solved bs.0) there bs.1 in
        to_leaner (before_try made n k call cs) (after_try what program bound made n clause call cs (values bs.0)) (after_try what program bound made n clause call cs value)
        (made_moves what program bound (before_try made n k call cs) _ makes) ((found program is).tried what bound made n k clause call cs bs.0 value there own bs.1 general);
    equated = λ made n cs g b args h place rest x y value e equates own general.
        let bs = solved_have one (equation x y) value general.solves in
        let makes = (builtins_make what program bound made n cs).equates g b args h place rest x y (Solved bs.0) e equates bs.1 in
        to_leaner (before_goal made n cs g h place rest) (doing made n cs (frame_instance (values bs.0) rest)) (doing made n cs (frame_instance value rest))
        (made_moves what program bound (before_goal made n cs g h place rest) _ makes) ((equated_alike program).solved made n cs g b args h place rest x y bs.0 value e equates own bs.1 general).0;
  }

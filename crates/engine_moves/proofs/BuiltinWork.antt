-- What is done for a built-in whose arguments are in cells, by its effect.
use Rattle.std.proofs.Common.{◌≡◌, ◌+◌, ℕ, List, [], ◌∷◌, Option, None, refl, ap, ◌∙◌, subst}
use Rattle.std.specs.Prelude.{ℤ}
use Rattle.prog_data.specs.declared.goals.Builtin.{Builtin}
use Rattle.prog_data.specs.declared.events.ArithKind.{ArithKind}
use Rattle.prog_data.specs.declared.events.Ending.TheVariants as ending
use Rattle.prog_data.specs.declared.events.Event.TheVariants.{Out}
use Rattle.machine_model.specs.State.{State}
use Rattle.machine_model.specs.Step.{effect}
use Rattle.term_heap.specs.Changes.{size_of, value_of}
use Rattle.unify_core.specs.declared.unifying.Unified.{Unified}
use Rattle.engine_state.specs.declared.tasks.Row.{Row}
use Rattle.engine_state.specs.declared.engine.Engine as code
use Rattle.engine_state.specs.declared.stages.Setting.{Setting}
use Rattle.engine_state.specs.declared.stages.Stage as code_stage
use Rattle.engine_state.specs.declared.stages.Stage.TheVariants as stage
use Rattle.engine_state.specs.BuiltinMoves.{builtin_state, effect_at, equated_stage, refuted_stage, with_heap, IsReady, HasDone, BuiltinsMove}
use Rattle.engine_moves.specs.BuiltinEffects.{as_effect, AreThere, HasEffect, HasUnifiedPlaces, HasUnifiedNumber, HasTriedPlaces}
use Rattle.engine_moves.specs.declared.builtins.effects.Effect as code_effect
use Rattle.engine_moves.specs.declared.builtins.effects.Effect.TheVariants as does
use Rattle.engine_moves.specs.Texts.{events_of}
use Rattle.engine_moves.proofs.BuiltinTurns.{quiet_turn}

module _ (law : BuiltinsMove) (e : code.Engine) (b : Builtin) (args : Row) (s : Setting) (ready : IsReady e b args s) (x : code_effect.Effect)
    (has : HasEffect e.heap.changes (effect e.program.now b (value_of e.heap.changes args.first) (value_of e.heap.changes (args.first + 1))) x) where
  abbrev from : State
  from = builtin_state e b args s

  -- its effect
  found : (y : code_effect.Effect) → x ≡ y → effect_at e b args ≡ as_effect (value_of e.heap.changes) y
  found y is = law.effects e b args ready.enough ∙ has.is ∙ ap (as_effect (value_of e.heap.changes)) is

  -- its places
  pub there : (y : code_effect.Effect) → x ≡ y → AreThere (size_of e.heap.changes) y
  there y is = subst (AreThere (size_of e.heap.changes)) is has.there

  module _ (to : code_stage.Stage) (text : Option (List ℕ)) (none : text ≡ None) where
    pub succeeded : x ≡ does.Succeeds → to ≡ stage.Doing s.rest → HasDone e from (events_of text) e to
    succeeded is at = quiet_turn e e e from (stage.Doing s.rest) to text refl at none (law.succeeds e b args s ready (found does.Succeeds is))

    pub failed : x ≡ does.Fails → to ≡ stage.Failed → HasDone e from (events_of text) e to
    failed is at = quiet_turn e e e from stage.Failed to text refl at none (law.fails e b args s ready (found does.Fails is))

    pub faulted : (kind : ArithKind) → x ≡ does.Faults kind → to ≡ stage.Over (ending.Arithmetic kind s.place) → HasDone e from (events_of text) e to
    faulted kind is at = quiet_turn e e e from (stage.Over (ending.Arithmetic kind s.place)) to text refl at none (law.faults e b args s kind ready (found (does.Faults kind) is))

    pub equated : (l r : ℕ) (u : Unified) (new : code.Engine) → x ≡ does.Equates l r → HasUnifiedPlaces e l r u new → to ≡ equated_stage s u → HasDone e from (events_of text) new to
    equated l r u new is done at =
        quiet_turn e new (with_heap e done.heap) from (equated_stage s u) to text done.is_new at none (law.equates e b args s l r u done.heap ready (found (does.Equates l r) is) done.unified)

    pub equated_number : (l : ℕ) (n : ℤ) (u : Unified) (new : code.Engine) → x ≡ does.EquatesNumber l n → HasUnifiedNumber e l n u new → to ≡ equated_stage s u → HasDone e from (events_of text) new to
    equated_number l n u new is done at =
        quiet_turn e new (with_heap e done.unified.heap) from (equated_stage s u) to text done.unified.is_new at none
        (law.equates_number e b args s l done.at 0 n u done.mid done.unified.heap ready (found (does.EquatesNumber l n) is) (there (does.EquatesNumber l n) is) done.loaded done.unified.unified)

    pub refuted : (l r : ℕ) (u : Unified) (new : code.Engine) → x ≡ does.Differs l r → HasTriedPlaces e l r u new → to ≡ refuted_stage s u → HasDone e from (events_of text) new to
    refuted l r u new is done at =
        quiet_turn e new (with_heap e done.heap) from (refuted_stage s u) to text done.is_new at none
        (law.refutes e b args s l r u done.tried done.heap ready (found (does.Differs l r) is) done.unified done.same)

  pub told : (text : List ℕ) → x ≡ does.Writes text → HasDone e from (Out text ∷ []) e (stage.Doing s.rest)
  told text is = law.writes e b args s text ready (found (does.Writes text) is)

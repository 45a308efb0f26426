use Rattle.std.proofs.Common.{◌≡◌, [], None, Some}
use Rattle.machine_model.specs.State.{Phase}
use Rattle.engine_state.specs.Stages.{phase_of}
use Rattle.sld_engine.specs.Going.{HasCome}
use Rattle.sld_engine.proofs.GoingLaws.{left_at}
use Rattle.sld_engine.proofs.turning.go_on.Given as goal

abbrev pub invariant-turns : goal.invariant-turns
invariant-turns l = record {
  none : l.told.items ≡ [];
  come : (p : Phase) → phase_of l.fn.engine l.fn.stage ≡ Some p → HasCome l.reading l.bound l.fn.engine.program.now p None [] l.tests l.engine l.stage;
}

abbrev pub decreases-turns : goal.decreases-turns
decreases-turns l = left_at l.reading l.bound l.engine l.stage

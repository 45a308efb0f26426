use Rattle.std.proofs.Common.{◌≡◌, drop}
use Rattle.std.specs.Prelude.{flat_map}
use Rattle.prog_data.specs.Goals.{checked_at_call}
use Rattle.engine_moves.proofs.looking.checked_calls.Given as goal

abbrev pub invariant-loop-check : goal.invariant-loop-check
invariant-loop-check l = flat_map checked_at_call (drop l.check-index l.checks) ≡ flat_map checked_at_call l.checks

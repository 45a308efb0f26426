use Rattle.std.proofs.Common.{◌≡◌, ◌++◌, drop, filter, not}
use Rattle.std.specs.Prelude.{◌==◌}
use Rattle.term_core.specs.Operators.{redefined}
use Rattle.term_core.proofs.operators.redefined.Given as goal

abbrev pub invariant-loop-known : goal.invariant-loop-known
invariant-loop-known l = l.kept ++ filter (λ d. not (d.name == l.new.name)) (drop l.known-index l.definitions) ≡ redefined (record { name = l.new.name; op = record { priority = l.new.op.priority; kind = l.new.op.kind } }) l.definitions

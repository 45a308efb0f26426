use Rattle.std.proofs.Common.{◌≡◌, drop}
use Rattle.term_core.specs.Operators.{has_kind, is_xfy}
use Rattle.term_core.proofs.operators.has_xfy.Given as goal

abbrev pub invariant-loop-known : goal.invariant-loop-known
invariant-loop-known l = has_kind is_xfy (drop l.known-index l.definitions) l.priority ≡ has_kind is_xfy l.definitions l.priority

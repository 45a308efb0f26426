use Rattle.std.proofs.Common.{◌≡◌, drop}
use Rattle.term_core.specs.Operators.{defined}
use Rattle.term_core.proofs.operators.op_of.Given as goal

abbrev pub invariant-loop-known : goal.invariant-loop-known
invariant-loop-known l = defined (drop l.known-index l.definitions) l.name ≡ defined l.definitions l.name

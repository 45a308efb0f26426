use Rattle.std.proofs.Common.{◌≡◌, ◌++◌, drop}
use Rattle.term_core.specs.Standard.{all_defined}
use Rattle.term_core.proofs.standard.push_all.Given as goal

abbrev pub invariant-loop-name : goal.invariant-loop-name
invariant-loop-name l = l.known ++ all_defined l.priority l.kind (drop l.name-index l.names) ≡ l.fn.known ++ all_defined l.priority l.kind l.names

use Rattle.std.proofs.Common.{◌≡◌, drop, map}
use Rattle.regtype_grammar.specs.TypeFaults.{module_fault, first_fault, refused}
use Rattle.regtype_grammar.proofs.faults.refused.Given as goal

abbrev pub invariant-loop-position : goal.invariant-loop-position
invariant-loop-position l = first_fault l.position (map module_fault (drop l.position l.modules)) ≡ refused l.modules

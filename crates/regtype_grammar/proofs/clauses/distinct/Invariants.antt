use Rattle.std.proofs.Common.{◌≡◌, ◌++◌, true, drop}
use Rattle.regtype_grammar.specs.TypeClauses.{are_once}
use Rattle.regtype_grammar.proofs.clauses.distinct.Given as goal

abbrev pub invariant-loop-number : goal.invariant-loop-number
invariant-loop-number l = (l.set.keys ++ drop l.number-index l.numbers ≡ l.numbers) × (are_once l.set.keys ≡ true)

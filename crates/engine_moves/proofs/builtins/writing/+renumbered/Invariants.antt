use Rattle.std.proofs.Common.{◌≡◌, ◌++◌, ◌+◌, drop, map, nat_eq}
use Rattle.std.specs.List.{position_or_len}
use Rattle.term_core.specs.declared.terms.Term.{Var}
use Rattle.term_core.specs.Terms.{instance}
use Rattle.engine_moves.proofs.builtins.writing.+renumbered.Given as goal

abbrev pub invariant-loop-part : goal.invariant-loop-part
invariant-loop-part l =
    l.made ++ map (instance (λ v. Var (position_or_len (nat_eq v) l.variables + 1))) (drop l.part-index l.part-items)
    ≡ map (instance (λ v. Var (position_or_len (nat_eq v) l.variables + 1))) l.part-items

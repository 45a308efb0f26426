use Rattle.std.specs.Prelude.{option_copied}
use Rattle.prog_data.specs.Values.{bit_at}
use Rattle.prop_check.specs.Chains.{sets_behind}
use Rattle.prop_check.proofs.OneOfLaws.{NoneBelow}
use Rattle.prop_check.proofs.settling.some_holds.Given as goal

abbrev pub invariant-loop-name : goal.invariant-loop-name
invariant-loop-name l = NoneBelow l.grammar (bit_at l.names) (sets_behind (option_copied l.behind)) l.head l.name

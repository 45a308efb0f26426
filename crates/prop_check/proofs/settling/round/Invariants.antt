use Rattle.std.proofs.Common.{◌&&◌}
use Rattle.std.specs.Prelude.{option_copied}
use Rattle.std.specs.List.{list_any}
use Rattle.prog_data.specs.Values.{bit_at}
use Rattle.prog_data.specs.Membership.{rules_of}
use Rattle.prop_check.specs.Sets.{head_holds, passes_in}
use Rattle.prop_check.specs.Chains.{sets_behind}
use Rattle.prop_check.proofs.SetLaws.{Gathered}
use Rattle.prop_check.proofs.settling.round.Given as goal

abbrev pub invariant-loop-name : goal.invariant-loop-name
invariant-loop-name l = Gathered (λ n. bit_at l.reach n && list_any (passes_in (head_holds (sets_behind (option_copied l.behind)) l.head) (bit_at l.found)) (rules_of l.grammar n)) l.name l.names

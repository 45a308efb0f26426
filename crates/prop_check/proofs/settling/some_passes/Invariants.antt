use Rattle.std.proofs.Common.{◌≡◌, drop}
use Rattle.std.specs.Prelude.{option_copied}
use Rattle.std.specs.List.{list_any}
use Rattle.prog_data.specs.Values.{bit_at}
use Rattle.prop_check.specs.Sets.{head_holds, passes_in}
use Rattle.prop_check.specs.Chains.{sets_behind}
use Rattle.prop_check.proofs.settling.some_passes.Given as goal

abbrev pub invariant-loop-rule : goal.invariant-loop-rule
invariant-loop-rule l = list_any (passes_in (head_holds (sets_behind (option_copied l.behind)) l.head) (bit_at l.found)) (drop l.rule-index l.rules) ≡ list_any (passes_in (head_holds (sets_behind (option_copied l.behind)) l.head) (bit_at l.found)) l.rules

use Rattle.std.proofs.Common.{◌≡◌, ℕ, ◌&&◌, ◌||◌}
use Rattle.std.specs.Prelude.{nat_lt, option_copied}
use Rattle.std.specs.List.{list_any}
use Rattle.prog_data.specs.Values.{bit_at}
use Rattle.prop_check.specs.Sets.{is_picked}
use Rattle.prop_check.specs.Chains.{sets_behind}
use Rattle.prop_check.proofs.GatherLaws.{with_rest}
use Rattle.prop_check.proofs.gathering.add_all.Given as goal

abbrev pub invariant-loop-rule : goal.invariant-loop-rule
invariant-loop-rule l =
    (m : ℕ) → with_rest (sets_behind (option_copied l.behind)) l.look l.rules l.names l.rule-index m ≡ (bit_at l.fn.names m || (nat_lt m 512 && list_any (is_picked (sets_behind (option_copied l.behind)) l.look m) l.rules))

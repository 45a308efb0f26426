use Rattle.std.proofs.Common.{◌≡◌, ℕ, true}
use Rattle.std.specs.Prelude.{option_copied}
use Rattle.prog_data.specs.Values.{bit_at}
use Rattle.prop_check.specs.Sets.{IsFrom}
use Rattle.prop_check.specs.Chains.{sets_behind}
use Rattle.prop_check.proofs.GatherLaws.{FoundBelow}
use Rattle.prop_check.proofs.gathering.gather.Given as goal

abbrev pub invariant-loop-name : goal.invariant-loop-name
invariant-loop-name l = record {
  kept : (m : ℕ) → bit_at l.fn.names m ≡ true → bit_at l.names m ≡ true;
  found : FoundBelow l.grammar (sets_behind (option_copied l.behind)) l.look (bit_at l.from) l.name l.names;
  only : (m : ℕ) → bit_at l.names m ≡ true → IsFrom l.grammar (sets_behind (option_copied l.behind)) l.look (bit_at l.from) (bit_at l.fn.names) m;
}

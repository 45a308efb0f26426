use Rattle.std.proofs.Common.{◌≡◌, drop, map}
use Rattle.std.specs.List.{list_all}
use Rattle.term_core.specs.Terms.{is_ground}
use Rattle.prop_check.proofs.membership.+is_ground.Given as goal

abbrev pub invariant-loop-part : goal.invariant-loop-part
invariant-loop-part l = list_all (λ b. b) (map is_ground (drop l.part-index l.part-items)) ≡ list_all (λ b. b) (map is_ground l.part-items)

use Rattle.std.proofs.Common.{◌≡◌, ◌+◌, ◌*◌, drop, map, length}
use Rattle.std.specs.List.{list_any}
use Rattle.term_core.specs.Terms.{depth_of, greatest}
use Rattle.prog_data.specs.Membership.{leaves_within, admits, admit_each}
use Rattle.prop_check.specs.Belonging.{passes}
use Rattle.prop_check.proofs.Belonging.{weight}
use Rattle.prop_check.proofs.membership.+membership.Given as goal

abbrev pub decreases-admits : goal.decreases-admits
decreases-admits l = 3 * weight (depth_of l.term.now) (length l.grammar.now.rules)

abbrev pub decreases-belong_each : goal.decreases-belong_each
decreases-belong_each l = 3 * (weight (greatest (map depth_of l.terms.now)) (length l.grammar.now.rules) + length l.grammar.now.rules + 1)

abbrev pub decreases-belongs_within : goal.decreases-belongs_within
decreases-belongs_within l = 3 * (weight (depth_of l.term.now) (length l.grammar.now.rules) + l.steps) + 2

abbrev pub decreases-passes : goal.decreases-passes
decreases-passes l = 3 * (weight (depth_of l.term.now) (length l.grammar.now.rules) + l.steps) + 1

abbrev pub invariant-belong_each-loop-index : goal.invariant-belong_each-loop-index
invariant-belong_each-loop-index l = record {
  same : length l.terms ≡ length l.names;
  left : admit_each l.grammar (map (admits l.grammar) (drop l.index l.terms)) (drop l.index l.names) ≡ admit_each l.grammar (map (admits l.grammar) l.terms) l.names;
}

abbrev pub invariant-belongs_within-loop-rule : goal.invariant-belongs_within-loop-rule
invariant-belongs_within-loop-rule l = list_any (passes (admits l.grammar l.term) l.steps l.grammar) (drop l.rule-index l.rule-items) ≡ list_any (admits l.grammar l.term) (leaves_within l.steps l.grammar l.name)

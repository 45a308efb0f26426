use Rattle.std.proofs.Common.{◌≡◌, true, length, map, get_or, sym, subst}
use Rattle.std.specs.List.{list_all}
use Rattle.prog_data.specs.Values.{seen}
use Rattle.name_order.specs.Relations.{order}
use Rattle.goal_transfer.specs.Conditions.{entry_by}
use Rattle.goal_transfer.specs.Range.{is_named}
use Rattle.goal_transfer.proofs.Named.{calls_named}
use Rattle.goal_transfer.proofs.Narrowed.{entry_turn}
use Rattle.goal_transfer.proofs.narrowing.entry_by.Goals as goal

pub narrowed_by-requires : goal.narrowed_by-requires
narrowed_by-requires c =
    subst (λ g. list_all (list_all (is_named (length g.rules))) c.in-Some.disjuncts.now ≡ true) (sym c.requires.grammar)
    (calls_named c.args.program.now c.requires.range (get_or c.args.conditions.now c.loop-condition.condition-index 0) c.in-Some.disjuncts.now c.in-Some.ensures)

pub loop-condition-preserved : goal.loop-condition-preserved
loop-condition-preserved c =
    entry_turn c.args.program.now (order c.args.rel.now) c.args.arity (map seen c.args.entry.now) c.args.conditions.now c.loop-condition.condition-index
    (entry_by c.args.program.now (order c.args.rel.now) c.args.arity (map seen c.args.entry.now) c.args.conditions.now) c.loop-condition-test.true c.in-None.ensures c.loop-condition.invariant

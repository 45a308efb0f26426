use Rattle.std.proofs.Common.{◌≡◌, IfOk, map, ap, subst, ◌∙◌}
use Rattle.prog_data.specs.Values.{seen}
use Rattle.name_order.specs.Relations.{order}
use Rattle.goal_transfer.specs.Tables.{table_seen}
use Rattle.goal_transfer.specs.States.{exits_seen, effect_seen}
use Rattle.goal_transfer.proofs.Effects.{by_table}
use Rattle.goal_transfer.proofs.transfer.run_clause.Goals as goal

pub returns : goal.returns
returns c = λ clause is.
    subst (λ k. IfOk c.run_clause_by.result (λ e. effect_seen e ≡ k))
    (by_table c.args.program.now (order c.args.rel.now) (table_seen c.args.table.now) c.args.pred clause (exits_seen c.as_slice.result.now) (map seen c.entry_of-entry.result.now) (ap exits_seen c.as_slice.ensures ∙ c.in_ok-exits.ensures) c.entry_of-entry.ensures)
    (c.run_clause_by.ensures clause is)

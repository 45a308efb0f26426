use Rattle.std.proofs.Common.{map, subst}
use Rattle.prog_data.specs.Values.{seen}
use Rattle.type_domain.specs.Laws.{LeqEach}
use Rattle.goal_transfer.specs.Tables.{row_seen}
use Rattle.fixpoint_analyser.proofs.RowLaws.{exited_same}
use Rattle.fixpoint_analyser.proofs.rows.exit_row.Goals as goal

pub returns-then-is_known-clause-row : goal.returns-then-is_known-clause-row
returns-then-is_known-clause-row c =
    let h = c.is_known.ensures.0 c.if-is_known.true in
    exited_same (map seen c.args.values.now) (row_seen c.args.row.now) (h.0, subst (λ vs. LeqEach (map seen c.args.values.now) (map seen vs)) c.as_slice.ensures h.1)

use Rattle.std.proofs.Common.{map, ap, sym, ◌∙◌}
use Rattle.prog_data.specs.Values.{seen}
use Rattle.goal_transfer.specs.Tables.{row_seen}
use Rattle.fixpoint_analyser.specs.Ascent.{with_row, exited_row}
use Rattle.fixpoint_analyser.proofs.RowLaws.{row_at, row_written}
use Rattle.fixpoint_analyser.proofs.rows.join_values.Goals as goal

pub returns-clause-rows : goal.returns-clause-rows
returns-clause-rows c =
    let rows = c.args.rows.now in
    let p = c.args.pred in
    row_written rows p c.exit_row.new.row
    ∙ ap (with_row (map row_seen rows) p) (c.exit_row.ensures.row ∙ ap (exited_row (map seen c.args.values.now)) (ap row_seen (sym c.index-rows-pred.is) ∙ sym (row_at rows p c.index-rows-pred.result c.requires.pred c.index-rows-pred.is)))

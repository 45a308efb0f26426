use Rattle.std.proofs.Common.{sym, subst}
use Rattle.std.proofs.lemmas.Result.{IfOk-weaker}
use Rattle.machine_model.specs.Points.{Sound}
use Rattle.goal_transfer.specs.Tables.{table_seen}
use Rattle.discharger.proofs.by_table.statuses.Goals as goal

pub returns-clause-sound : goal.returns-clause-sound
returns-clause-sound c =
    IfOk-weaker c.each_status.result _ _ (λ ss is. subst (Sound c.args.program.now) (sym is) (c.sound_law.ensures c.args.program.now (table_seen c.args.table.now) c.requires.range c.requires.closed)) c.each_status.ensures

pub returns-clause-described : goal.returns-clause-described
returns-clause-described c = c.described_law.ensures c.args.program.now c.args.table.now c.requires.range c.requires.closed

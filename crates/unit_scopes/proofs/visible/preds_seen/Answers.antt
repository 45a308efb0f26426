use Rattle.unit_scopes.proofs.SourceLaws.{preds_next}
use Rattle.unit_scopes.proofs.visible.preds_seen.Goals as goal

pub loop-at-preserved : goal.loop-at-preserved
loop-at-preserved c =
    preds_next c.args.source.now.index c.args.sources.now c.loop-at.at c.index-sources-at.result c.loop-at.preds c.add_given.new.preds _ c.loop-at-test.true c.index-sources-at.is c.in_ok-add_given.ensures c.loop-at.invariant

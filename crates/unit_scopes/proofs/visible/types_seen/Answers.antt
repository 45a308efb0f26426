use Rattle.unit_scopes.proofs.SourceLaws.{types_next}
use Rattle.unit_scopes.proofs.visible.types_seen.Goals as goal

pub loop-at-preserved : goal.loop-at-preserved
loop-at-preserved c =
    types_next c.args.source.now c.args.sources.now c.loop-at.at c.index-sources-at.result c.loop-at.types c.add_types_given.new.types _ c.loop-at-test.true c.index-sources-at.is c.in_ok-add_types_given.ensures c.loop-at.invariant

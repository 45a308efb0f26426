use Rattle.std.proofs.Common.{◌∙◌}
use Rattle.program_link.proofs.HeldLaws.{held_next}
use Rattle.program_link.proofs.faults.least_of_files.Goals as goal

pub loop-at-preserved : goal.loop-at-preserved
loop-at-preserved c =
    held_next c.args.names.now c.args.sources.now c.args.settings.now c.loop-at.least c.least_at-least.result c.args.units.now c.loop-at.at c.index-units-at.result
    c.loop-at-test.true c.index-units-at.is c.least_at-least.ensures ∙ c.loop-at.invariant

use Rattle.std.proofs.Common.{◌∙◌}
use Rattle.program_link.specs.HeldFaults.{held_export_faults}
use Rattle.program_link.proofs.FaultLaws.{least_next_copy}
use Rattle.program_link.proofs.named_faults.least_of_listed.Goals as goal

pub loop-export-preserved : goal.loop-export-preserved
loop-export-preserved c =
    least_next_copy (held_export_faults c.args.at c.args.index.now) c.loop-export.least c.least_of_export-least.result c.args.exports.now c.loop-export.export-index _
    c.loop-export-test.true c.least_of_export-least.ensures ∙ c.loop-export.invariant

use Rattle.std.proofs.Common.{◌∙◌}
use Rattle.program_link.specs.Offers.{source_named_faults}
use Rattle.program_link.proofs.FaultLaws.{least_next_copy}
use Rattle.program_link.proofs.named_faults.least_of_named.Goals as goal

pub loop-named-preserved : goal.loop-named-preserved
loop-named-preserved c =
    least_next_copy (source_named_faults c.args.names.now c.args.sources.now c.args.at c.args.unit c.args.line) c.loop-named.least c.least_of_missing-least.result c.args.only.now c.loop-named.named-index _
    c.loop-named-test.true c.least_of_missing-least.ensures ∙ c.loop-named.invariant

use Rattle.std.proofs.Common.{◌∙◌}
use Rattle.program_link.specs.HeldFaults.{held_assertion_faults}
use Rattle.program_link.proofs.FaultLaws.{least_next}
use Rattle.program_link.proofs.sentence_faults.least_of_assertions.Goals as goal

pub loop-assertion-preserved : goal.loop-assertion-preserved
loop-assertion-preserved c =
    least_next (held_assertion_faults c.args.names.now c.args.types.now c.args.at c.args.index.now) c.loop-assertion.least c.least_of_assertion-least.result c.args.assertions.now c.loop-assertion.assertion-index c.assertion-item.result
    c.loop-assertion-test.true c.assertion-item.is c.least_of_assertion-least.ensures ∙ c.loop-assertion.invariant

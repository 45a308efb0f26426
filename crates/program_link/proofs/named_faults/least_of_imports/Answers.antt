use Rattle.std.proofs.Common.{◌∙◌}
use Rattle.program_link.specs.Offers.{source_import_faults}
use Rattle.program_link.proofs.FaultLaws.{least_next}
use Rattle.program_link.proofs.named_faults.least_of_imports.Goals as goal

pub loop-import-preserved : goal.loop-import-preserved
loop-import-preserved c =
    least_next (source_import_faults c.args.names.now c.args.sources.now c.args.at) c.loop-import.least c.least_of_import-least.result c.args.imports.now c.loop-import.import-index c.import-item.result
    c.loop-import-test.true c.import-item.is c.least_of_import-least.ensures ∙ c.loop-import.invariant

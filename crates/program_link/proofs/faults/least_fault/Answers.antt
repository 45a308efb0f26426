use Rattle.std.proofs.Common.{◌∙◌}
use Rattle.program_link.proofs.HeldLaws.{least_is}
use Rattle.program_link.proofs.faults.least_fault.Goals as goal

pub returns : goal.returns
returns c =
    c.sooner_of_two.ensures
    ∙ least_is c.args.names.now c.args.units.now c.args.sources.now c.args.settings.now c.args.types c.least_of_files-found.result
    c.requires.sources c.requires.settings c.requires.types c.least_of_files-found.ensures

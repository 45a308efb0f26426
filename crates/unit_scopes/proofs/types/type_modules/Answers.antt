use Rattle.std.proofs.Common.{◌∙◌}
use Rattle.unit_scopes.proofs.HeldLaws.{modules_are}
use Rattle.unit_scopes.proofs.types.type_modules.Goals as goal

pub returns : goal.returns
returns c = c.in_ok-modules.ensures ∙ modules_are _ c.args.sources.now c.requires.sources

use Rattle.std.proofs.Common.{ap, ◌∙◌}
use Rattle.regtype_grammar.specs.TypeNames.{first_names}
use Rattle.unit_scopes.proofs.HeldLaws.{settings_are}
use Rattle.unit_scopes.proofs.settings.settings_of.Goals as goal

pub returns : goal.returns
returns c = c.in_ok-settings.ensures ∙ settings_are _ c.args.sources.now c.requires.sources c.as_slice.result.now (c.as_slice.ensures ∙ c.in_ok-firsts.ensures ∙ ap first_names c.requires.modules)

use Rattle.std.proofs.Common.{ap, ◌∙◌}
use Rattle.term_core.specs.Names.{find_text}
use Rattle.term_core.proofs.TextLemmas.{find-texts}
use Rattle.term_core.proofs.names.Names.find.Goals as goal

pub returns-in-Some : goal.returns-in-Some
returns-in-Some c = c.in-Some.ensures.index ∙ find-texts c.args.text.now c.self.inside.texts.keys ∙ ap (find_text c.args.text.now) c.self.view_is

pub returns-in-None : goal.returns-in-None
returns-in-None c = c.in-None.ensures.index ∙ find-texts c.args.text.now c.self.inside.texts.keys ∙ ap (find_text c.args.text.now) c.self.view_is

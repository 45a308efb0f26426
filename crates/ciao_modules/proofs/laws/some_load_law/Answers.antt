use Rattle.ciao_modules.proofs.SomeOutcome.{some_load}
use Rattle.ciao_modules.proofs.laws.some_load_law.Goals as goal

pub returns : goal.returns
returns c = some_load c.every_text_law.ensures

use Rattle.regtype_grammar.proofs.OldNames.{old_names_keep}
use Rattle.regtype_grammar.proofs.lists.old_names_law.Goals as goal

pub returns : goal.returns
returns c = old_names_keep

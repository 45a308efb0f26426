use Rattle.regtype_grammar.proofs.ListLaws.{lists_are_lists}
use Rattle.regtype_grammar.proofs.lists.lists_law.Goals as goal

pub returns : goal.returns
returns c = lists_are_lists

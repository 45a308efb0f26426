use Rattle.clause_index.proofs.SelectedLaws.{selects_all}
use Rattle.clause_index.proofs.laws.all_selected_law.Goals as goal

pub returns : goal.returns
returns c = selects_all

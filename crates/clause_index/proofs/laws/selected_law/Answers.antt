use Rattle.clause_index.proofs.SelectedLaws.{in_order_all}
use Rattle.clause_index.proofs.laws.selected_law.Goals as goal

pub returns : goal.returns
returns c = in_order_all

use Rattle.std.proofs.Common.{ap, ◌∙◌}
use Rattle.std.specs.Prelude.{slice_get}
use Rattle.clause_index.proofs.PlaceLaws.{none_selected}
use Rattle.clause_index.proofs.index.Index.select.Goals as goal

pub returns-in-None : goal.returns-in-None
returns-in-None c = none_selected c.args.self.now c.args.pred c.args.key (c.in-None.ensures.value ∙ ap (λ keys. slice_get keys c.args.pred) c.self.view_is)

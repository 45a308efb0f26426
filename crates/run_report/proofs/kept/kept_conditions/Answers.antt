use Rattle.std.proofs.Common.{◌∙◌, ap}
use Rattle.std.proofs.lemmas.Result.{IfOk-weaker}
use Rattle.std.specs.Prelude.{nat_eq}
use Rattle.std.specs.List.{list_any}
use Rattle.run_report.proofs.kept.kept_conditions.Goals as goal

pub returns : goal.returns
returns c = IfOk-weaker c.set_of.result _ _ (λ set has n. has n ∙ ap (list_any (nat_eq n)) (c.as_slice.ensures ∙ c.in_ok-conditions.ensures)) c.set_of.ensures

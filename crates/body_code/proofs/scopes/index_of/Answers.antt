use Rattle.std.proofs.Common.{ap, ◌∙◌}
use Rattle.std.specs.Prelude.{filter}
use Rattle.body_code.specs.Scopes.{is_named}
use Rattle.body_code.proofs.IndexLaws.{with_more, from_nothing, empty_finds}
use Rattle.body_code.proofs.scopes.index_of.Goals as goal

pub loop-named-init : goal.loop-named-init
loop-named-init c = λ name arity.
    ap (λ found. with_more found (filter (is_named name arity) c.args.preds.now)) (empty_finds c.new-index.result c.new-index.ensures.empty name arity) ∙ from_nothing (filter (is_named name arity) c.args.preds.now)

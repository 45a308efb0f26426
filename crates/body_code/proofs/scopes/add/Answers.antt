use Rattle.body_code.proofs.IndexLaws.{one_added}
use Rattle.body_code.proofs.scopes.add.Goals as goal
use Rattle.std.proofs.Common.{ap, ◌∙◌}
use Rattle.body_code.specs.Indexes.{one_more}

pub returns : goal.returns
returns c =
    one_added c.args.index.now c.insert.new.self c.args.named c.one_more.result (c.in_ok-insert.ensures.updates).0
    (c.one_more.ensures ∙ ap (λ found. one_more found c.args.named.pred) c.look_up-found.ensures)

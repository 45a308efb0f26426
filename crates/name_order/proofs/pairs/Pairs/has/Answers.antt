use Rattle.std.proofs.Common.{ap, ◌∙◌}
use Rattle.name_order.specs.Tables.{has}
use Rattle.name_order.proofs.BitLaws.{has_bit}
use Rattle.name_order.proofs.pairs.Pairs.has.Goals as goal

pub returns : goal.returns
returns c =
    has_bit (record { size = c.self.inside.size; words = c.self.inside.words }) c.args.first c.args.second c.word_at.result c.if-first-size.false c.if-second-size.false c.word_at.ensures
    ∙ ap (λ t. has t (c.args.first, c.args.second)) c.self.view_is

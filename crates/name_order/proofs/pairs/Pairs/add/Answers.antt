use Rattle.std.proofs.Common.{◌<◌, ◌||◌, length, ap, ◌∙◌, subst, sym}
use Rattle.name_order.specs.Relations.{same_pair}
use Rattle.name_order.specs.Tables.{has}
use Rattle.name_order.proofs.BitLaws.{has_added, word_within}
use Rattle.name_order.proofs.pairs.Pairs.add.Goals as goal

pub returns-clause-has : goal.returns-clause-has
returns-clause-has c = λ p.
    let inside = c.self.inside in
    let first : c.args.first < c.self.inside.size = subst (λ t. c.args.first < t.size) (sym c.self.view_is) c.requires.first in
    let second : c.args.second < c.self.inside.size = subst (λ t. c.args.second < t.size) (sym c.self.view_is) c.requires.second in
    has_added (record { size = c.self.inside.size; words = c.self.inside.words }) c.args.first c.args.second c.word_at-word.result c.set.new.self first second
    (word_within c.self.inside.size c.args.first c.args.second (length c.self.inside.words) first second c.self.invariant.1) c.word_at-word.ensures c.set.ensures p
    ∙ ap (λ t. same_pair p (c.args.first, c.args.second) || has t p) c.self.view_is

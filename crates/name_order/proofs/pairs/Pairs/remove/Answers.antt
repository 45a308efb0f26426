use Rattle.std.proofs.Common.{◌<◌, ◌&&◌, not, length, ap, ◌∙◌, subst, sym}
use Rattle.name_order.specs.Relations.{same_pair}
use Rattle.name_order.specs.Tables.{has}
use Rattle.name_order.proofs.BitLaws.{has_removed, has_inside, word_within}
use Rattle.name_order.proofs.pairs.Pairs.remove.Goals as goal

pub returns-clause-has : goal.returns-clause-has
returns-clause-has c = λ p.
    let inside = c.self.inside in
    let own = has_inside c.args.self.now (c.args.first, c.args.second) (sym c.has.ensures ∙ c.if-not-has.false) in
    let first : c.args.first < c.self.inside.size = subst (λ t. c.args.first < t.size) (sym c.self.view_is) own.0 in
    let second : c.args.second < c.self.inside.size = subst (λ t. c.args.second < t.size) (sym c.self.view_is) own.1 in
    has_removed (record { size = c.self.inside.size; words = c.self.inside.words }) c.args.first c.args.second c.word_at-word.result c.set.new.self first second
    (word_within c.self.inside.size c.args.first c.args.second (length c.self.inside.words) first second c.self.invariant.1) c.word_at-word.ensures c.set.ensures p
    ∙ ap (λ t. not (same_pair p (c.args.first, c.args.second)) && has t p) c.self.view_is

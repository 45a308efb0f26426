use Rattle.std.proofs.Common.{map, ap, ◌∙◌}
use Rattle.std.specs.Prelude.{None}
use Rattle.assertion_normal.specs.Troubles.{property_trouble, comp_trouble, worst_from, written_in}
use Rattle.assertion_normal.proofs.OwnTroubles.{worst_in_turn}
use Rattle.assertion_normal.proofs.troubles.own_trouble.Goals as goal

pub returns : goal.returns
returns c =
    let names = c.args.names.now in
    let seen = c.args.visible.now in
    let pre = map (property_trouble seen) c.args.assertion.now.pre in
    let post = map (property_trouble seen) (written_in c.args.assertion.now.post) in
    let comp = map (comp_trouble names) c.args.assertion.now.comp in
    let first = c.worst_of-pre.ensures ∙ ap (λ list. worst_from None (map (property_trouble seen) list)) c.as_slice.ensures in
    let second = c.worst_of_post-post.ensures ∙ ap (λ found. worst_from found post) first in
    c.worst_of_comp.ensures
    ∙ ap (λ list. worst_from c.worst_of_post-post.result (map (comp_trouble names) list)) c.as_slice-2.ensures
    ∙ ap (λ found. worst_from found comp) second
    ∙ worst_in_turn None pre post comp

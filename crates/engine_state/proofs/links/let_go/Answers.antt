use Rattle.std.proofs.Common.{◌≡◌, subst, max, reverse, arith}
use Rattle.engine_state.specs.Moments.{links_held, notes_held, notes_used}
use Rattle.engine_state.proofs.LetGoLaws.{lets_go}
use Rattle.engine_state.proofs.links.let_go.Goals as goal

pub returns : goal.returns
returns c =
    let points = c.args.points.now in
    let links = c.args.links.now.items in
    let new_links = c.truncate.new.self.items in
    let m : c.max.result ≡ max (links_held (reverse points)) c.args.rest = omega (arith, c.held_links.ensures) in
    let n : c.used_notes.result ≡ max (notes_held (reverse points)) (notes_used (reverse new_links)) = subst (λ ls. c.used_notes.result ≡ max (notes_held (reverse points)) (notes_used (reverse ls))) c.as_slice.ensures.value c.used_notes.ensures in
    λ program query changes are le. lets_go program query changes c.args.rest c.args.notes.now.items c.truncate-2.new.self.items links new_links points c.max.result c.used_notes.result m c.truncate.ensures.items n c.truncate-2.ensures.items le are

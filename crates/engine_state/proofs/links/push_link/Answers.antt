use Rattle.std.proofs.Common.{◌≡◌, ◌∷◌, ◌++◌, [], max, length, take, ap, ◌∙◌, arith}
use Rattle.std.proofs.lemmas.List.{length-take-le}
use Rattle.engine_state.proofs.LinkLaws.{pushed, down_kept, down_pushed}
use Rattle.engine_state.proofs.LetGoLaws.{pushed_moments}
use Rattle.engine_state.proofs.links.push_link.Goals as goal

pub returns-clause-pushed : goal.returns-clause-pushed
returns-clause-pushed c =
    let items = c.args.links.now.items in
    let most : c.max.result ≡ max c.args.held c.args.link.next = omega arith in
    let is : c.push.new.self.items ≡ take (max c.args.held c.args.link.next) items ++ c.args.link ∷ [] =
    c.in_ok-push.ensures.items ∙ ap (λ xs. xs ++ c.args.link ∷ []) (c.truncate.ensures.items ∙ ap (λ n. take n items) most) in
    let number : c.len.result ≡ length c.push.new.self.items = omega (arith, c.len.ensures, c.push.new.self.ok.0) in
    λ notes. pushed notes c.args.held items c.push.new.self.items c.args.link c.len.result c.requires.held c.requires.next is number

pub returns-clause-down : goal.returns-clause-down
returns-clause-down c =
    let items = c.args.links.now.items in
    let m = max c.args.held c.args.link.next in
    let most : c.max.result ≡ m = omega arith in
    let is : c.push.new.self.items ≡ take m items ++ c.args.link ∷ [] =
    c.in_ok-push.ensures.items ∙ ap (λ xs. xs ++ c.args.link ∷ []) (c.truncate.ensures.items ∙ ap (λ n. take n items) most) in
    let size : length (take m items) ≡ m = length-take-le m items (omega (arith, c.requires.held, c.requires.next)) in
    down_pushed (take m items) c.push.new.self.items c.args.link is (omega (arith, size)) (down_kept m items c.requires.down)

pub returns-clause-moments : goal.returns-clause-moments
returns-clause-moments c =
    let items = c.args.links.now.items in
    let m = max c.args.held c.args.link.next in
    let most : c.max.result ≡ m = omega arith in
    let is : c.push.new.self.items ≡ take m items ++ c.args.link ∷ [] =
    c.in_ok-push.ensures.items ∙ ap (λ xs. xs ++ c.args.link ∷ []) (c.truncate.ensures.items ∙ ap (λ n. take n items) most) in
    λ program query changes notes points are held placed noted notes_is.
    pushed_moments program query changes notes c.args.held items c.push.new.self.items c.args.link points c.requires.held c.requires.next is are held placed noted notes_is

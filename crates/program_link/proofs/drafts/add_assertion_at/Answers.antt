use Rattle.std.proofs.Common.{◌++◌, ◌∷◌, [], length, refl, ap, sym, ◌∙◌, append-nil}
use Rattle.std.proofs.lemmas.Option.{slice_get_past, slice_get_read}
use Rattle.program_link.specs.HeldPrograms.{if_there}
use Rattle.program_link.proofs.drafts.add_assertion_at.Goals as goal

pub returns-in-None : goal.returns-in-None
returns-in-None c = sym (append-nil c.args.list.now) ∙ ap (λ o. c.args.list.now ++ if_there o) (sym (slice_get_past c.args.assertions.now c.args.place c.in-None.ensures.lookup.3))

pub returns-in_ok-push-in-Some : goal.returns-in_ok-push-in-Some
returns-in_ok-push-in-Some c =
    let there = slice_get_read c.args.assertions.now (length c.args.assertions.now) c.args.place c.in-Some.assertion.now refl c.in-Some.ensures.lookup.3.0 c.in-Some.ensures.lookup.1 in
    c.in_ok-push-in-Some.ensures.ok ∙ ap (λ a. c.args.list.now ++ a ∷ []) c.in_ok-copy-in-Some.ensures ∙ ap (λ o. c.args.list.now ++ if_there o) (sym there)

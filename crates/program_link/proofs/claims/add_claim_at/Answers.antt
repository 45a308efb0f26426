use Rattle.std.proofs.Common.{◌++◌, ◌∷◌, [], length, refl, ap, sym, ◌∙◌, append-nil}
use Rattle.std.proofs.lemmas.Option.{slice_get_past, slice_get_read}
use Rattle.program_link.specs.HeldPrograms.{if_there}
use Rattle.program_link.proofs.claims.add_claim_at.Goals as goal

pub returns-in-None : goal.returns-in-None
returns-in-None c = sym (append-nil c.args.claims.now) ∙ ap (λ o. c.args.claims.now ++ if_there o) (sym (slice_get_past c.args.of_pred.now c.args.number c.in-None.ensures.lookup.3))

pub returns-in_ok-push-in-Some : goal.returns-in_ok-push-in-Some
returns-in_ok-push-in-Some c =
    let there = slice_get_read c.args.of_pred.now (length c.args.of_pred.now) c.args.number c.in-Some.claim.now refl c.in-Some.ensures.lookup.3.0 c.in-Some.ensures.lookup.1 in
    c.in_ok-push-in-Some.ensures.ok ∙ ap (λ a. c.args.claims.now ++ a ∷ []) c.in_ok-copy-in-Some.ensures ∙ ap (λ o. c.args.claims.now ++ if_there o) (sym there)

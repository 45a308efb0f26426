use Rattle.std.proofs.Common.{sym, ap, ◌∙◌, length, ◌∷◌}
use Rattle.ciao_tokens.proofs.PartLaws.{no_end, one_feed}
use Rattle.ciao_tokens.proofs.quotes.escape.Goals as goal

pub returns-in-None : goal.returns-in-None
returns-in-None c = no_end _ _ c.requires (ap length (sym c.as_bytes.ensures.value) ∙ c.in-None.ensures.cases)

pub returns-then-first-eq10 : goal.returns-then-first-eq10
returns-then-first-eq10 c =
    let behind = c.in-Some.field-0-1.now in
    (one_feed _ _ _ behind (sym c.as_bytes.ensures.value ∙ c.in-Some.ensures.cases.0 ∙ ap (λ b. b ∷ behind) c.if-first-eq10.true) c.behind_first-then-first-eq10.ensures, c.behind_first-then-first-eq10.utf8)

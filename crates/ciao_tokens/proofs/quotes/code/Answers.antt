use Rattle.std.proofs.Common.{sym, ◌∙◌}
use Rattle.ciao_tokens.proofs.PartLaws.{one_code, not_closed, no_char}
use Rattle.ciao_tokens.proofs.quotes.code.Goals as goal

pub returns-then-not-starts_with : goal.returns-then-not-starts_with
returns-then-not-starts_with c = not_closed _ _ _ c.requires c.split_hexadecimal.ensures.behind (sym c.starts_with.ensures ∙ c.if-not-starts_with.true)

pub returns-in-None : goal.returns-in-None
returns-in-None c = no_char _ _ _ c.requires c.split_hexadecimal.ensures.front c.in-None.ensures

pub returns-in-Some : goal.returns-in-Some
returns-in-Some c =
    (one_code _ _ _ _ _ _ c.split_hexadecimal.ensures.front c.split_hexadecimal.ensures.behind (sym c.starts_with.ensures ∙ c.if-not-starts_with.false) c.in-Some.ensures c.behind_first.ensures, c.behind_first.utf8)

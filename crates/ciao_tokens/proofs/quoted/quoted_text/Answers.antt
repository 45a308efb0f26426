use Rattle.std.proofs.Common.{sym, ◌∙◌}
use Rattle.ciao_tokens.proofs.Closings.{text_closed, text_open}
use Rattle.ciao_tokens.proofs.quoted.quoted_text.Goals as goal

pub returns-then-not-starts_with : goal.returns-then-not-starts_with
returns-then-not-starts_with c = text_open _ _ _ _ c.requires c.behind_first.ensures c.in_ok-read.ensures (sym c.starts_with.ensures ∙ c.if-not-starts_with.true)

pub returns : goal.returns
returns c = (
  text_closed _ _ _ _ _ _ c.requires c.behind_first.ensures c.in_ok-read.ensures (sym c.starts_with.ensures ∙ c.if-not-starts_with.false)
      (c.in_ok-codes.ensures ∙ c.as_slice.ensures) c.behind_first-2.ensures,
  c.behind_first-2.utf8,
)

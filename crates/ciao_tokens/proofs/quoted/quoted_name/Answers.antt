use Rattle.std.proofs.Common.{sym, ap, ◌∙◌}
use Rattle.std.specs.Prelude.{encode_utf8_all}
use Rattle.ciao_tokens.proofs.Closings.{name_closed, name_open}
use Rattle.ciao_tokens.proofs.quoted.quoted_name.Goals as goal

pub returns-then-not-starts_with : goal.returns-then-not-starts_with
returns-then-not-starts_with c = name_open _ _ _ _ c.requires c.behind_first.ensures c.in_ok-read.ensures (sym c.starts_with.ensures ∙ c.if-not-starts_with.true)

pub returns : goal.returns
returns c = (
  name_closed _ _ _ _ _ _ c.requires c.behind_first.ensures c.in_ok-read.ensures (sym c.starts_with.ensures ∙ c.if-not-starts_with.false)
      (c.in_ok-word.ensures ∙ ap encode_utf8_all c.as_slice.ensures) c.behind_first-2.ensures,
  c.behind_first-2.utf8,
)

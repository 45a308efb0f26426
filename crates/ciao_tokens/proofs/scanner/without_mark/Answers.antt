use Rattle.std.proofs.Common.{sym, ap, ◌∙◌}
use Rattle.ciao_tokens.specs.Tokens.{has_mark}
use Rattle.ciao_tokens.proofs.MarkLaws.{mark_boundary}
use Rattle.ciao_tokens.proofs.scanner.without_mark.Goals as goal

pub split_at-requires : goal.split_at-requires
split_at-requires c = mark_boundary _ c.utf8.text (ap has_mark (sym c.as_bytes.ensures.value) ∙ sym c.has_mark.ensures ∙ c.if-has_mark.true)

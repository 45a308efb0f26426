use Rattle.std.proofs.Common.{sym, ◌∙◌}
use Rattle.ciao_tokens.proofs.PartLaws.{one_doubled, no_doubled}
use Rattle.ciao_tokens.proofs.quotes.doubled.Goals as goal

pub returns-then-starts_with : goal.returns-then-starts_with
returns-then-starts_with c = (one_doubled _ _ _ (sym c.starts_with.ensures ∙ c.if-starts_with.true) c.behind_first.ensures, c.behind_first.utf8)

pub returns-else-starts_with : goal.returns-else-starts_with
returns-else-starts_with c = no_doubled _ _ c.requires.ascii c.requires.quote (sym c.starts_with.ensures ∙ c.if-starts_with.false)

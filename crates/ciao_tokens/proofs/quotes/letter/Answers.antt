use Rattle.std.proofs.Common.{sym, ◌∙◌}
use Rattle.ciao_tokens.proofs.PartLaws.{no_one_letter, one_letter}
use Rattle.ciao_tokens.proofs.quotes.letter.Goals as goal

pub returns-in-None : goal.returns-in-None
returns-in-None c = no_one_letter _ _ _ c.requires.quote c.requires.first c.requires.no_code c.requires.no_feed (sym c.meant_by.ensures ∙ c.in-None.is)

pub returns-in-Some : goal.returns-in-Some
returns-in-Some c = (one_letter _ _ _ _ _ c.requires.first (sym c.meant_by.ensures ∙ c.in-Some.is) c.behind_first.ensures, c.behind_first.utf8)

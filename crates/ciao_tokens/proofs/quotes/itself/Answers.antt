use Rattle.std.proofs.lemmas.Str.{IsUtf8-past_char}
use Rattle.ciao_tokens.proofs.PartLaws.{nothing_left, one_itself}
use Rattle.ciao_tokens.proofs.quotes.itself.Goals as goal

pub returns-in-None : goal.returns-in-None
returns-in-None c = nothing_left _ c.requires.ascii c.requires.quote _ c.in-None.ensures

pub returns-in-Some : goal.returns-in-Some
returns-in-Some c = (one_itself _ _ _ _ c.requires.ascii c.requires.no_quote c.requires.no_escape c.in-Some.ensures.0 c.in-Some.ensures.1, IsUtf8-past_char _ _ _ c.utf8.text c.in-Some.ensures.0)

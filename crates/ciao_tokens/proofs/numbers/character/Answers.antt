use Rattle.std.proofs.Common.{refl, ap, subst}
use Rattle.ciao_tokens.specs.PartsRead.{meaning}
use Rattle.ciao_tokens.proofs.PartLaws.{OnePart}
use Rattle.ciao_tokens.proofs.NumberLaws.{character_written, no_char}
use Rattle.ciao_tokens.proofs.numbers.character.Goals as goal

pub returns-in-None-meant : goal.returns-in-None-meant
returns-in-None-meant c = no_char _ _ _ c.in-Some.ensures.0 (ap meaning c.in-None-meant.is)

pub returns-in-Some-meant : goal.returns-in-Some-meant
returns-in-Some-meant c = character_written _ _ _ (subst (λ m. OnePart 39 c.args.text.now m c.in-Some.part.behind.now) (ap meaning c.in-Some-meant.is) c.in-Some.ensures.0) refl refl c.in-Some.ensures.1

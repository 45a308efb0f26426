use Rattle.ciao_modules.proofs.RefusalNames.{one_name}
use Rattle.ciao_modules.proofs.laws.refusal_name_law.Goals as goal

pub returns : goal.returns
returns c = one_name c.one_outcome_law.ensures.sentences c.one_outcome_law.ensures.none c.one_outcome_law.ensures.one c.named_tokens_law.ensures

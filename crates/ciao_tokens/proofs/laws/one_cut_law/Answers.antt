use Rattle.ciao_tokens.proofs.OneCut.{one_cut}
use Rattle.ciao_tokens.proofs.OneAnswer.{one_list}
use Rattle.ciao_tokens.proofs.laws.one_cut_law.Goals as goal

pub returns-clause-pieces : goal.returns-clause-pieces
returns-clause-pieces c = one_cut

pub returns-clause-tokens : goal.returns-clause-tokens
returns-clause-tokens c = one_list

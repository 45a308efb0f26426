use Rattle.ciao_tokens.proofs.EveryText.{six_ways}
use Rattle.ciao_tokens.proofs.laws.six_ways_law.Goals as goal

pub returns : goal.returns
returns c = six_ways

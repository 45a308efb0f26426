use Rattle.body_code.proofs.BodyGrows.{compiled_grows}
use Rattle.body_code.proofs.ClauseRanges.{heads_in, clause_stays}
use Rattle.body_code.proofs.laws.compiled_in_range_law.Goals as goal

pub returns-clause-heads : goal.returns-clause-heads
returns-clause-heads c = heads_in

pub returns-clause-clauses : goal.returns-clause-clauses
returns-clause-clauses c =
    λ visible file s old made e. (compiled_grows c.meanings_law.ensures c.listings_in_range_law.ensures visible file s old made e, clause_stays visible file s old made.1 made.0 e)

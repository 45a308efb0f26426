use Rattle.goal_transfer.proofs.Named.{clause_fits, clause_read}
use Rattle.goal_transfer.proofs.clauses.clause_at.Goals as goal

pub returns-clause-range : goal.returns-clause-range
returns-clause-range c =
    clause_fits c.args.program.now c.requires.range c.program_ranges_law.ensures c.args.pred c.args.clause c.requires.pred c.index-as_slice-clause.result
    (clause_read c.args.program.now c.requires.range c.as_slice.result.now c.args.pred c.args.clause c.index-as_slice-pred.result c.as_slice-2.result.now c.index-as_slice-clause.result c.as_slice.ensures c.requires.pred c.index-as_slice-pred.is c.as_slice-2.ensures c.requires.clause c.index-as_slice-clause.is)

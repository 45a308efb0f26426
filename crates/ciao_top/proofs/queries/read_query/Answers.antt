use Rattle.std.proofs.Common.{refl}
use Rattle.ciao_top.proofs.QueryLaws.{fault_no_query}
use Rattle.ciao_top.proofs.queries.read_query.Goals as goal

pub returns-else-wants_memory-clause-none : goal.returns-else-wants_memory-clause-none
returns-else-wants_memory-clause-none c =
    fault_no_query c.one_goal_law.ensures.none c.args.ops.now c.made.ensures c.args.names.now c.args.text.now c.in-Err.fault c.if-wants_memory.ensures c.in-Err.ensures.fault

pub returns-in-Ok-clause-some : goal.returns-in-Ok-clause-some
returns-in-Ok-clause-some c = record { goal = c.in-Ok.goal; has = c.in-Ok.ensures.ok; is = refl }

pub returns-in-Ok-clause-in_range : goal.returns-in-Ok-clause-in_range
returns-in-Ok-clause-in_range c = c.in-Ok.ensures.in_range.named

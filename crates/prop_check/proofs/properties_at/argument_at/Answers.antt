use Rattle.term_heap.specs.Changes.{value_of}
use Rattle.prop_check.proofs.CellLaws.{past_row, argument_there}
use Rattle.prop_check.proofs.properties_at.argument_at.Goals as goal

pub returns-then-argument-count : goal.returns-then-argument-count
returns-then-argument-count c = past_row (value_of c.args.heap.now.changes) c.args.first c.args.count c.args.argument c.if-argument-count.true

pub returns : goal.returns
returns c = argument_there c.args.heap.now.changes c.args.first c.args.count c.args.argument c.requires c.if-argument-count.false

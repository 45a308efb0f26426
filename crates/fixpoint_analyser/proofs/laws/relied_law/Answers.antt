use Rattle.name_order.specs.Relations.{order}
use Rattle.fixpoint_analyser.proofs.laws.relied_law.Goals as goal

pub returns : goal.returns
returns c = λ program range. record {
  ordered = c.order_law.ensures (order program.grammar);
  values = c.given_law.ensures program.grammar range.grammar;
  monotone = c.monotone_law.ensures.clauses program;
  clauses = c.given_law-2.ensures.clauses program range;
}

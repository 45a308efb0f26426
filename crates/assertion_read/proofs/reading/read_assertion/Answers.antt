use Rattle.std.proofs.Common.{refl, sym, ◌∙◌}
use Rattle.term_core.proofs.OperandLaws.{none_part}
use Rattle.assertion_read.proofs.RangeLaws.{stays_in_range}
use Rattle.assertion_read.proofs.reading.read_assertion.Goals as goal

pub returns-in-None-clause-none : goal.returns-in-None-clause-none
returns-in-None-clause-none c =
    (refl, λ a written. none_part a (sym c.in-None.is ∙ c.in_ok-assertion_of.ensures ∙ (c.assertion_law.ensures c.args.sentence.now a).1 written))

pub returns-in-Some-clause-range : goal.returns-in-Some-clause-range
returns-in-Some-clause-range c =
    let computed = sym c.in_ok-assertion_of.ensures ∙ c.in-Some.is in
    stays_in_range c.args.sentence.now c.in-Some.assertion ((c.assertion_law.ensures c.args.sentence.now c.in-Some.assertion).0 computed)

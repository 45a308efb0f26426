use Rattle.std.proofs.Common.{sym, ◌∙◌}
use Rattle.term_core.proofs.OperandLaws.{alone_says_none, alone_says, left_says_none, right_says_none, both_say}
use Rattle.assertion_read.specs.Properties.{property_at}
use Rattle.assertion_read.proofs.properties.+joined_properties.Goals as goal

pub returns-in-None-property_at : goal.returns-in-None-property_at
returns-in-None-property_at t c = alone_says_none (property_at c.args.arguments.now) c.args.term.now c.in-None.ensures.shape (sym c.property_at.ensures ∙ c.in-None-property_at.is)

pub returns-in_ok-one-in-Some-property_at : goal.returns-in_ok-one-in-Some-property_at
returns-in_ok-one-in-Some-property_at t c =
    alone_says (property_at c.args.arguments.now) c.args.term.now c.in-Some-property_at.property _ c.in-None.ensures.shape (sym c.property_at.ensures ∙ c.in-Some-property_at.is) c.in_ok-one-in-Some-property_at.ensures

pub returns-in-None-2 : goal.returns-in-None-2
returns-in-None-2 t c = left_says_none (property_at c.args.arguments.now) c.args.term.now c.in-Some.left.now c.in-Some.right.now c.in-Some.ensures.whole (sym c.in-None-2.is ∙ c.in_ok-joined_properties-in-Some.ensures)

pub returns-in-None-3 : goal.returns-in-None-3
returns-in-None-3 t c = right_says_none (property_at c.args.arguments.now) c.args.term.now c.in-Some.left.now c.in-Some.right.now c.in-Some.ensures.whole (sym c.in-None-3.is ∙ c.in_ok-joined_properties-in-Some-2.ensures)

pub returns-in_ok-both-in-Some-3 : goal.returns-in_ok-both-in-Some-3
returns-in_ok-both-in-Some-3 t c =
    both_say (property_at c.args.arguments.now) c.args.term.now c.in-Some.left.now c.in-Some.right.now c.in-Some-2.properties c.in-Some-3.more _ c.in-Some.ensures.whole
    (sym c.in-Some-2.is ∙ c.in_ok-joined_properties-in-Some.ensures) (sym c.in-Some-3.is ∙ c.in_ok-joined_properties-in-Some-2.ensures) c.in_ok-both-in-Some-3.ensures

use Rattle.std.proofs.Common.{sym, ◌∙◌}
use Rattle.term_core.proofs.OperandLaws.{left_says_none, right_says_none, both_say}
use Rattle.term_core.specs.Shapes.{atom_at}
use Rattle.assertion_read.proofs.properties.+joined_atoms.Goals as goal

pub returns-in-None-2 : goal.returns-in-None-2
returns-in-None-2 t c = left_says_none (atom_at) c.args.term.now c.in-Some.left.now c.in-Some.right.now c.in-Some.ensures.whole (sym c.in-None-2.is ∙ c.in_ok-joined_atoms-in-Some.ensures)

pub returns-in-None-3 : goal.returns-in-None-3
returns-in-None-3 t c = right_says_none (atom_at) c.args.term.now c.in-Some.left.now c.in-Some.right.now c.in-Some.ensures.whole (sym c.in-None-3.is ∙ c.in_ok-joined_atoms-in-Some-2.ensures)

pub returns-in_ok-both-in-Some-3 : goal.returns-in_ok-both-in-Some-3
returns-in_ok-both-in-Some-3 t c =
    both_say (atom_at) c.args.term.now c.in-Some.left.now c.in-Some.right.now c.in-Some-2.names c.in-Some-3.more _ c.in-Some.ensures.whole
    (sym c.in-Some-2.is ∙ c.in_ok-joined_atoms-in-Some.ensures) (sym c.in-Some-3.is ∙ c.in_ok-joined_atoms-in-Some-2.ensures) c.in_ok-both-in-Some-3.ensures

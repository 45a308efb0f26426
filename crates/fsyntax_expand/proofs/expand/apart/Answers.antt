use Rattle.std.proofs.Common.{sym, ◌∙◌}
use Rattle.term_core.specs.declared.terms.Term.{out-Term, roll-out-Term}
use Rattle.fsyntax_expand.proofs.Alternatives.{not_bar, not_apart}
use Rattle.fsyntax_expand.proofs.expand.apart.Goals as goal

pub returns-in-None : goal.returns-in-None
returns-in-None c = not_bar (out-Term c.args.value.now) c.args.value.now (roll-out-Term c.args.value.now) c.in-None.ensures.shape

pub returns-else-are_apart : goal.returns-else-are_apart
returns-else-are_apart c =
    not_apart c.args.value.now c.in-Some.left.now c.in-Some.right.now c.in-Some.ensures.whole (sym c.are_apart.ensures ∙ c.if-are_apart.false)

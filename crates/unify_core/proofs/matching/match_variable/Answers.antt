use Rattle.std.proofs.Common.{◌<◌, ◌∷◌, ◌+◌, [], sym, subst, arith}
use Rattle.std.proofs.lemmas.Result.{IfOk-weaker}
use Rattle.term_core.specs.declared.terms.Term.{Var}
use Rattle.term_heap.specs.Changes.{size_of, value_of, next_serial}
use Rattle.term_heap.specs.PastStays.{GoesOn}
use Rattle.term_heap.proofs.PastLaws.{binds_on}
use Rattle.unify_core.specs.declared.unifying.Unified.TheVariants as unified
use Rattle.unify_core.specs.Heads.{HasMatched}
use Rattle.unify_core.proofs.MatchLaws.{variable_in, variable_value, unified_matched, variable_met, variable_first, first_may, first_matched}
use Rattle.unify_core.proofs.matching.match_variable.Goals as goal

pub overflow_add-place : goal.overflow_add-place
overflow_add-place c =
    let lt : c.args.variable + c.args.base < size_of c.args.heap.now.changes = variable_in c.args.heap.now.changes c.args.base c.args.next.now c.args.variable c.args.at c.requires in
    omega (arith, lt, c.len-size.ensures.len)

pub unify-requires-clause-right : goal.unify-requires-clause-right
unify-requires-clause-right c = variable_in c.args.heap.now.changes c.args.base c.args.next.now c.args.variable c.args.at c.requires

pub returns-then-variable-next-clause-matched : goal.returns-then-variable-next-clause-matched
returns-then-variable-next-clause-matched c =
    let h = c.args.heap.now.changes in
    IfOk-weaker c.unify.result _ _
    (λ u has. unified_matched h c.args.base c.args.at (c.args.variable + c.args.base) (Var c.args.variable) (variable_value (value_of h) c.args.base c.args.variable) u c.unify.new.heap.changes has)
    c.unify.ensures.unified

pub returns-then-variable-next-clause-met : goal.returns-then-variable-next-clause-met
returns-then-variable-next-clause-met c = IfOk-weaker c.unify.result _ _ (λ u has. variable_met c.args.next.now c.args.variable u c.if-variable-next.true) c.unify.ensures.unified

pub overflow_add-next : goal.overflow_add-next
overflow_add-next c =
    let lt : c.args.variable + c.args.base < size_of c.args.heap.now.changes = variable_in c.args.heap.now.changes c.args.base c.args.next.now c.args.variable c.args.at c.requires in
    omega (arith, lt, c.len-size.ensures.len)

pub root-root-requires : goal.root-root-requires
root-root-requires c = variable_in c.args.heap.now.changes c.args.base c.args.next.now c.args.variable c.args.at c.requires

pub bind-requires : goal.bind-requires
bind-requires c =
    first_may c.args.heap.now.changes c.args.base c.args.next.now c.args.variable c.args.at c.requires (omega (arith, c.if-variable-next.false)) c.root-root.result c.root-end.result
    c.len-size.ensures.made c.root-root.ensures.place c.root-root.ensures.end c.root-root.ensures.value c.root-end.ensures.place c.root-end.ensures.value

pub returns-clause-matched : goal.returns-clause-matched
returns-clause-matched c =
    let h = c.args.heap.now.changes in
    subst (λ g. HasMatched h c.args.base c.args.at (Var c.args.variable ∷ []) unified.Same g.changes) (sym c.in_ok-bind.ensures.ok)
    (first_matched h c.args.base c.args.next.now c.args.variable c.args.at c.requires (omega (arith, c.if-variable-next.false)) c.root-root.result c.root-end.result (next_serial c.args.heap.now.last)
    c.len-size.ensures.made c.root-root.ensures.place c.root-root.ensures.end c.root-root.ensures.value c.root-end.ensures.value)

pub returns-clause-met : goal.returns-clause-met
returns-clause-met c = variable_first c.args.next.now c.args.variable (omega (arith, c.if-variable-next.false))

pub returns-clause-later : goal.returns-clause-later
returns-clause-later c = subst (GoesOn c.args.heap.now) (sym c.in_ok-bind.ensures.ok) (binds_on c.args.heap.now c.root-root.result c.root-end.result c.len-size.ensures.last)

use Rattle.std.proofs.Common.{◌≡◌, ◌∷◌, reverse, sym, ap, ◌∙◌, arith}
use Rattle.term_heap.specs.Changes.{value_of}
use Rattle.term_heap.specs.Decodes.{built, weights}
use Rattle.term_heap.proofs.DecodeLaws.{weights_turned, all_built, no_steps}
use Rattle.term_heap.proofs.decoding.build.Goals as goal

pub loop-step-smaller : goal.loop-step-smaller
loop-step-smaller c =
    let value = value_of c.args.heap.now.changes in
    let rest = c.pop.new.self.items in
    let old : weights value c.loop-step.left.items ≡ weights value (c.in-Some.step ∷ rest) = ap (weights value) c.in-Some.ensures.items ∙ weights_turned value rest c.in-Some.step in
    omega (arith, old, c.in_ok-take_step.ensures.lighter)

pub returns : goal.returns
returns c =
    let value = value_of c.args.heap.now.changes in
    all_built c.loop-step.done (value c.args.at) (ap (λ xs. built value (reverse xs) (reverse c.loop-step.done)) (sym (no_steps c.loop-step.left.items (sym c.loop-step.left.ok.0 ∙ c.in_default.ensures.cases.0))) ∙ c.loop-step.invariant.same)

use Rattle.std.proofs.Common.{◌≡◌, ◌≤◌, ◌+◌, List, map, drop, ap, sym, ◌∙◌, arith}
use Rattle.std.specs.Prelude.{length}
use Rattle.term_core.specs.declared.terms.Term.{Term}
use Rattle.term_core.specs.Sizes.{size, size_all}
use Rattle.term_core.proofs.Turns.{turn}
use Rattle.prog_data.specs.Control.{meaning_of}
use Rattle.body_code.specs.Problems.{sooner, first_of}
use Rattle.body_code.specs.Bodies.{named_problem, body_of}
use Rattle.body_code.proofs.Measures.{size_at, size_pair}
use Rattle.body_code.proofs.SoonerLaws.{sooner_assoc}
use Rattle.body_code.proofs.ConjunctionLaws.{problem_turn}
use Rattle.body_code.proofs.Themselves.{compound_is}
use Rattle.body_code.proofs.problems.+problems.Goals as goal

pub parts_problem-problem_in-requires : goal.parts_problem-problem_in-requires
parts_problem-problem_in-requires t c =
    let less : size c.part-item.result ≤ size_all c.args.parts.now = size_at c.loop-part.part-index c.args.parts.now c.part-item.result c.loop-part-test.true c.part-item.is in
    (omega (arith, less, c.decreases), tt)

pub parts_problem-loop-part-preserved : goal.parts_problem-loop-part-preserved
parts_problem-loop-part-preserved t c =
    let problems = λ (ts : List Term). first_of (map (λ part. part.problem) (map (body_of c.args.scope.now) ts)) in
    let rest = problems (drop (c.loop-part.part-index + 1) c.args.parts.now) in
    ap (λ p. sooner p rest) (c.sooner-first.ensures ∙ ap (sooner c.loop-part.first) c.problem_in.ensures)
    ∙ sooner_assoc c.loop-part.first (body_of c.args.scope.now c.part-item.result).problem rest
    ∙ ap (sooner c.loop-part.first) (sym (turn problems c.args.parts.now c.loop-part.part-index c.part-item.result c.loop-part-test.true c.part-item.is))
    ∙ c.loop-part.invariant

pub problem_in-loop-part-preserved : goal.problem_in-loop-part-preserved
problem_in-loop-part-preserved t c =
    let part = c.in-Some.part.now in
    let rest = c.in-Some.rest.now in
    let left = c.loop-part.left.now in
    let e : size left ≡ (size part + size rest) + 1 = size_pair _ left part rest c.in-Some.ensures.whole in
    let within : size left ≤ size c.args.body.now = c.loop-part.invariant.1 in (
      problem_turn c.args.scope.now left part rest c.loop-part.first c.sooner-first.result _ c.in-Some.ensures.whole (c.sooner-first.ensures ∙ ap (sooner c.loop-part.first) c.problem_in.ensures) c.loop-part.invariant.0,
      omega (arith, e, within),
    )

pub term_problem-returns-in-Node : goal.term_problem-returns-in-Node
term_problem-returns-in-Node t c =
    let visible = c.args.scope.now in
    c.named_problem-in-Node.ensures
    ∙ ap (λ ts. named_problem visible (meaning_of c.in-Node.name (length ts)) c.in-Node.name ts (map (body_of visible) ts)) c.as_slice.ensures
    ∙ sym (ap (λ body. body.problem) (compound_is visible c.args.term.now c.in-Node.name c.in-Node.parts c.in-Node.is))

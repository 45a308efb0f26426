use Rattle.std.proofs.Common.{◌≡◌, ◌≤◌, ◌+◌, map, length, ap, sym, subst, ◌∙◌, arith}
use Rattle.term_core.specs.Sizes.{size}
use Rattle.prog_data.specs.Control.{meaning_of}
use Rattle.body_code.specs.Making.{Makes}
use Rattle.body_code.specs.Bodies.{named_goal, body_of}
use Rattle.body_code.proofs.ConjunctionLaws.{goal_turn}
use Rattle.body_code.proofs.GrowLaws.{grows_then, tested_grows}
use Rattle.body_code.proofs.Measures.{size_pair}
use Rattle.body_code.proofs.Themselves.{compound_is}
use Rattle.body_code.proofs.bodies.+bodies.Goals as goal

pub in_turn-returns-in_err-right-clause-grows : goal.in_turn-returns-in_err-right-clause-grows
in_turn-returns-in_err-right-clause-grows t c = grows_then c.args.scope.now _ _ _ c.in_ok-left.ensures.grows c.in_err-right.ensures.grows

pub in_turn-returns-clause-grows : goal.in_turn-returns-clause-grows
in_turn-returns-clause-grows t c = grows_then c.args.scope.now _ _ _ c.in_ok-left.ensures.grows c.in_ok-right.ensures.grows

pub chosen-returns-in_err-fails-clause-grows : goal.chosen-returns-in_err-fails-clause-grows
chosen-returns-in_err-fails-clause-grows t c = grows_then c.args.scope.now c.args.grammar.now c.in_turn.new.grammar c.goal_of.new.grammar c.in_turn.ensures.grows c.goal_of.ensures.grows

pub chosen-returns-in_err-choice-clause-grows : goal.chosen-returns-in_err-choice-clause-grows
chosen-returns-in_err-choice-clause-grows t c = grows_then c.args.scope.now c.args.grammar.now c.in_turn.new.grammar c.goal_of.new.grammar c.in_turn.ensures.grows c.goal_of.ensures.grows

pub chosen-returns-clause-grows : goal.chosen-returns-clause-grows
chosen-returns-clause-grows t c = grows_then c.args.scope.now c.args.grammar.now c.in_turn.new.grammar c.goal_of.new.grammar c.in_turn.ensures.grows c.goal_of.ensures.grows

pub named_goal-returns-in-ListTest-clause-grows : goal.named_goal-returns-in-ListTest-clause-grows
named_goal-returns-in-ListTest-clause-grows t c =
    tested_grows c.meanings_law.ensures c.args.scope.now c.args.arguments.now c.element_type.result c.args.grammar.now c.list_test.new.grammar c.element_type.ensures c.list_test.ensures.grows

pub term_goal-returns-in-Node-clause-made : goal.term_goal-returns-in-Node-clause-made
term_goal-returns-in-Node-clause-made t c =
    let visible = c.args.scope.now in
    subst (λ makes. Makes c.named_goal-in-Node.result c.named_goal-in-Node.new.grammar (makes c.args.grammar.now))
    (ap (λ ts. named_goal visible (meaning_of c.in-Node.name (length ts)) c.in-Node.name ts (map (body_of visible) ts)) c.as_slice.ensures
    ∙ sym (ap (λ body. body.makes) (compound_is visible c.args.term.now c.in-Node.name c.in-Node.parts c.in-Node.is)))
    c.named_goal-in-Node.ensures.made

pub goal_of-returns-in_err-goal-clause-grows : goal.goal_of-returns-in_err-goal-clause-grows
goal_of-returns-in_err-goal-clause-grows t c = grows_then c.args.scope.now c.args.grammar.now c.loop-part.grammar c.goal_of.new.grammar c.loop-part.invariant.grown c.goal_of.ensures.grows

pub goal_of-returns-in_err-push-clause-grows : goal.goal_of-returns-in_err-push-clause-grows
goal_of-returns-in_err-push-clause-grows t c = grows_then c.args.scope.now c.args.grammar.now c.loop-part.grammar c.goal_of.new.grammar c.loop-part.invariant.grown c.goal_of.ensures.grows

pub goal_of-loop-part-preserved : goal.goal_of-loop-part-preserved
goal_of-loop-part-preserved t c =
    let part = c.in-Some.part.now in
    let rest = c.in-Some.rest.now in
    let left = c.loop-part.left.now in
    let e : size left ≡ (size part + size rest) + 1 = size_pair _ left part rest c.in-Some.ensures.whole in
    let within : size left ≤ size c.args.body.now = c.loop-part.invariant.smaller in
    record {
      whole = goal_turn c.args.scope.now left part rest c.loop-part.goals c.push.new.self c.loop-part.grammar c.goal_of.new.grammar c.in_ok-goal.goal _ c.in-Some.ensures.whole c.in_ok-goal.ensures.made c.in_ok-push.ensures.ok c.loop-part.invariant.whole;
      grown = grows_then c.args.scope.now c.args.grammar.now c.loop-part.grammar c.goal_of.new.grammar c.loop-part.invariant.grown c.goal_of.ensures.grows;
      smaller = omega (arith, e, within);
    }

pub goal_of-returns-in_err-last-clause-grows : goal.goal_of-returns-in_err-last-clause-grows
goal_of-returns-in_err-last-clause-grows t c = grows_then c.args.scope.now c.args.grammar.now c.loop-part.grammar c.term_goal.new.grammar c.loop-part.invariant.grown c.term_goal.ensures.grows

pub goal_of-returns-in_err-conjoined-clause-grows : goal.goal_of-returns-in_err-conjoined-clause-grows
goal_of-returns-in_err-conjoined-clause-grows t c = grows_then c.args.scope.now c.args.grammar.now c.loop-part.grammar c.term_goal.new.grammar c.loop-part.invariant.grown c.term_goal.ensures.grows

pub goal_of-returns-clause-grows : goal.goal_of-returns-clause-grows
goal_of-returns-clause-grows t c = grows_then c.args.scope.now c.args.grammar.now c.loop-part.grammar c.term_goal.new.grammar c.loop-part.invariant.grown c.term_goal.ensures.grows

use Rattle.std.proofs.Common.{◌+◌, length, refl, arith}
use Rattle.std.specs.Prelude.{option_copied}
use Rattle.prog_data.specs.Values.{bit_at}
use Rattle.prop_check.specs.Sets.{head_holds}
use Rattle.prop_check.specs.Chains.{sets_behind}
use Rattle.prop_check.proofs.SetLaws.{no_words, none_in}
use Rattle.prop_check.proofs.RoundLaws.{first_round, later_round, settled_early, settled_late}
use Rattle.prop_check.proofs.settling.settle.Goals as goal

pub loop-step-init : goal.loop-step-init
loop-step-init c =
    first_round c.args.grammar.now c.requires.few (bit_at c.args.reach.now) c.requires.closed (head_holds (sets_behind (option_copied c.args.behind)) c.args.head.now) (bit_at no_words) (bit_at c.round-found.result) none_in c.round-found.ensures

pub loop-step-preserved : goal.loop-step-preserved
loop-step-preserved c =
    later_round c.args.grammar.now c.requires.few (bit_at c.args.reach.now) c.requires.closed (head_holds (sets_behind (option_copied c.args.behind)) c.args.head.now) c.loop-step._step (c.loop-step._step + 1)
    (bit_at c.loop-step.found) (bit_at c.round-next.result) refl c.loop-step.invariant c.round-next.ensures

pub returns-then-is_same : goal.returns-then-is_same
returns-then-is_same c =
    settled_early c.args.grammar.now c.requires.few (bit_at c.args.reach.now) c.requires.closed (head_holds (sets_behind (option_copied c.args.behind)) c.args.head.now) c.loop-step.found c.round-next.result c.loop-step._step
    (length c.args.grammar.now.rules) (c.is_same.ensures.0 c.if-is_same.true) (omega (arith, c.loop-step-test.true, c.len-step-end.ensures)) c.loop-step.invariant c.round-next.ensures

pub returns : goal.returns
returns c =
    settled_late c.args.grammar.now c.requires.few (bit_at c.args.reach.now) c.requires.closed (head_holds (sets_behind (option_copied c.args.behind)) c.args.head.now) (bit_at c.loop-step.found) c.loop-step._step
    (length c.args.grammar.now.rules) (omega (arith, c.loop-step-test.false, c.loop-step.auto._step-end, c.len-step-end.ensures)) c.loop-step.invariant

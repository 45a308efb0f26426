use Rattle.std.proofs.Common.{◌≡◌, None, refl, ap, ◌∙◌, arith}
use Rattle.fixpoint_analyser.specs.Ascent.{nones}
use Rattle.fixpoint_analyser.proofs.RowLaws.{nones_more}
use Rattle.fixpoint_analyser.proofs.rows.nones.Goals as goal

pub loop-argument-preserved : goal.loop-argument-preserved
loop-argument-preserved c = nones_more c.loop-argument._argument c.loop-argument.values c.push.new.self (record { names = None }) c.in_ok-push.ensures.ok refl c.loop-argument.invariant

pub returns : goal.returns
returns c = let same : c.loop-argument._argument ≡ c.args.arity = omega arith in c.loop-argument.invariant ∙ ap nones same

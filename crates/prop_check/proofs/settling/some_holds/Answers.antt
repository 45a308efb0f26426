use Rattle.std.proofs.Common.{arith}
use Rattle.std.specs.Prelude.{option_copied}
use Rattle.prog_data.specs.Values.{bit_at}
use Rattle.prop_check.specs.Chains.{sets_behind}
use Rattle.prop_check.proofs.OneOfLaws.{holds_here, none_here, none_at_all}
use Rattle.prop_check.proofs.settling.some_holds.Goals as goal

pub loop-name-init : goal.loop-name-init
loop-name-init c = λ n lt q. absurd (omega (arith, lt))

pub loop-name-preserved : goal.loop-name-preserved
loop-name-preserved c =
    none_here c.args.grammar.now (bit_at c.args.names.now) (sets_behind (option_copied c.args.behind)) c.args.head.now c.loop-name.name c.name_passes.result c.name_passes.ensures c.if-name_passes.false c.loop-name.invariant

pub returns-then-name_passes-clause-some : goal.returns-then-name_passes-clause-some
returns-then-name_passes-clause-some c =
    λ e. holds_here c.args.grammar.now (bit_at c.args.names.now) (sets_behind (option_copied c.args.behind)) c.args.head.now c.loop-name.name c.name_passes.result c.name_passes.ensures c.if-name_passes.true

pub returns-clause-none : goal.returns-clause-none
returns-clause-none c =
    none_at_all c.args.grammar.now (bit_at c.args.names.now) (sets_behind (option_copied c.args.behind)) c.args.head.now c.loop-name.name (omega (arith, c.loop-name-test.false, c.len-name-end.ensures)) c.loop-name.invariant

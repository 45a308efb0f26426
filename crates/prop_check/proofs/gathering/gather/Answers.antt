use Rattle.std.proofs.Common.{arith}
use Rattle.std.specs.Prelude.{option_copied}
use Rattle.prog_data.specs.Values.{bit_at}
use Rattle.prop_check.specs.Chains.{sets_behind}
use Rattle.prop_check.proofs.GatherLaws.{found_all}
use Rattle.prop_check.proofs.gathering.gather.Goals as goal

pub returns-clause-found : goal.returns-clause-found
returns-clause-found c =
    found_all c.args.grammar.now (sets_behind (option_copied c.args.behind)) c.args.look (bit_at c.args.from.now) c.loop-name.name c.loop-name.names (omega (arith, c.loop-name-test.false, c.len-name-end.ensures)) c.loop-name.invariant.found

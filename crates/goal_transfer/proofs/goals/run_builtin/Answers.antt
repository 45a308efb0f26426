use Rattle.std.proofs.Common.{length}
use Rattle.goal_transfer.proofs.Given.{ten_names, type_named}
use Rattle.goal_transfer.proofs.goals.run_builtin.Goals as goal

pub builtin_effect-requires-clause-name : goal.builtin_effect-requires-clause-name
builtin_effect-requires-clause-name c = type_named (length c.args.rel.now.rules) c.args.builtin c.args.terms.now (ten_names c.args.rel.now c.range.ensures) c.requires.name

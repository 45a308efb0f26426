use Rattle.std.proofs.Common.{◌&&◌, not, length, sym, ◌∙◌, arith}
use Rattle.std.specs.List.{list_any}
use Rattle.prog_data.specs.Values.{seen}
use Rattle.name_order.specs.Relations.{order}
use Rattle.type_domain.specs.Values.{has_name}
use Rattle.goal_transfer.specs.Conditions.{is_term}
use Rattle.goal_transfer.proofs.NameTests.{any_turn, any_stop}
use Rattle.goal_transfer.proofs.properties.says_nonvar.Goals as goal

pub returns-then-has_nonvar : goal.returns-then-has_nonvar
returns-then-has_nonvar c = any_stop (λ n. has_name (seen c.args.value.now) n && not (list_any is_term ((order c.args.rel.now).leaves n))) c.loop-name.name (length c.args.rel.now.rules) _ (omega arith) (sym c.has_nonvar.ensures ∙ c.if-has_nonvar.true) c.loop-name.invariant

pub loop-name-preserved : goal.loop-name-preserved
loop-name-preserved c = any_turn (λ n. has_name (seen c.args.value.now) n && not (list_any is_term ((order c.args.rel.now).leaves n))) c.loop-name.name (length c.args.rel.now.rules) _ (omega arith) (sym c.has_nonvar.ensures ∙ c.if-has_nonvar.false) c.loop-name.invariant

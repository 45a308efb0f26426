use Rattle.std.proofs.Common.{◌&&◌, not, length, sym, ◌∙◌, arith}
use Rattle.prog_data.specs.Values.{seen}
use Rattle.name_order.specs.Relations.{order}
use Rattle.type_domain.specs.Values.{has_name}
use Rattle.goal_transfer.proofs.NameTests.{any_turn, any_stop}
use Rattle.goal_transfer.proofs.properties.is_apart.Goals as goal

pub returns-then-has_apart : goal.returns-then-has_apart
returns-then-has_apart c = any_stop (λ m. has_name (seen c.args.value.now) m && not ((order c.args.rel.now).meets m c.args.name)) c.loop-other.other (length c.args.rel.now.rules) _ (omega arith) (sym c.has_apart.ensures ∙ c.if-has_apart.true) c.loop-other.invariant

pub loop-other-preserved : goal.loop-other-preserved
loop-other-preserved c = any_turn (λ m. has_name (seen c.args.value.now) m && not ((order c.args.rel.now).meets m c.args.name)) c.loop-other.other (length c.args.rel.now.rules) _ (omega arith) (sym c.has_apart.ensures ∙ c.if-has_apart.false) c.loop-other.invariant

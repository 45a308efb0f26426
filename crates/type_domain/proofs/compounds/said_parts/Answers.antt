use Rattle.std.proofs.Common.{length, arith}
use Rattle.prog_data.specs.Values.{bit_at, seen}
use Rattle.name_order.specs.Relations.{order}
use Rattle.type_domain.specs.Values.{name_part}
use Rattle.type_domain.proofs.Parts.{parts_init, parts_turn, parts_end}
use Rattle.type_domain.proofs.compounds.said_parts.Goals as goal

pub loop-left-init : goal.loop-left-init
loop-left-init c = parts_init (order c.args.rel.now) (bit_at c.args.words.now) (name_part (order c.args.rel.now) c.args.place.name c.args.place.arity c.args.place.part) (seen c.of_name-said.result) c.args.size (length c.args.rel.now.rules) c.requires.size c.of_name-said.ensures.value

pub loop-left-preserved : goal.loop-left-preserved
loop-left-preserved c = parts_turn (order c.args.rel.now) (bit_at c.args.words.now) (name_part (order c.args.rel.now) c.args.place.name c.args.place.arity c.args.place.part) (seen c.loop-left.said) (seen c.united_part-said.result) c.loop-left.left (length c.args.rel.now.rules) c.loop-left-test.true c.loop-left.invariant c.united_part-said.ensures

pub returns : goal.returns
returns c = parts_end (order c.args.rel.now) (bit_at c.args.words.now) (name_part (order c.args.rel.now) c.args.place.name c.args.place.arity c.args.place.part) (seen c.loop-left.said) c.loop-left.left (length c.args.rel.now.rules) (omega (arith, c.loop-left-test.false)) c.loop-left.invariant.1

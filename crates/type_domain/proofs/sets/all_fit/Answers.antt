use Rattle.std.proofs.Common.{length, sym, ◌∙◌, arith}
use Rattle.prog_data.specs.Values.{bit_at}
use Rattle.name_order.specs.Relations.{order}
use Rattle.type_domain.specs.Values.{is_fit}
use Rattle.type_domain.proofs.NameLoops.{all_turn, all_stop}
use Rattle.type_domain.proofs.sets.all_fit.Goals as goal

pub returns-then-not-fits_in : goal.returns-then-not-fits_in
returns-then-not-fits_in c = all_stop (is_fit (order c.args.rel.now) (bit_at c.args.names.now)) c.loop-name.name (length c.args.rel.now.rules) _ (omega arith) (sym c.fits_in.ensures ∙ c.if-not-fits_in.true) c.loop-name.invariant

pub loop-name-preserved : goal.loop-name-preserved
loop-name-preserved c = all_turn (is_fit (order c.args.rel.now) (bit_at c.args.names.now)) c.loop-name.name (length c.args.rel.now.rules) _ (omega arith) (sym c.fits_in.ensures ∙ c.if-not-fits_in.false) c.loop-name.invariant

use Rattle.std.proofs.Common.{sym}
use Rattle.type_domain.proofs.EachHas.{each_has_apart}
use Rattle.type_domain.proofs.leaves.each_has.Goals as goal

pub returns-then-parts-names : goal.returns-then-parts-names
returns-then-parts-names c = sym (each_has_apart c.args.parts.now c.args.names.now c.if-parts-names.true)

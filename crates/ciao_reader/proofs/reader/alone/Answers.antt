use Rattle.std.proofs.Common.{sym}
use Rattle.std.proofs.lemmas.Bool.{eqb-false}
use Rattle.ciao_reader.proofs.TextFaults.{not_alone}
use Rattle.ciao_reader.proofs.reader.alone.Goals as goal

pub returns-else-is_empty : goal.returns-else-is_empty
returns-else-is_empty c = not_alone c.args.tokens.now c.in-Some.inner.now c.in-Some.rest.now c.in-Some.ensures.split (eqb-false _ 0 (sym c.if-is_empty.ensures))

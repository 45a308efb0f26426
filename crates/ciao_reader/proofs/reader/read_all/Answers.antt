use Rattle.std.proofs.Common.{refl, sym, subst}
use Rattle.term_core.specs.Standard.{standard}
use Rattle.ciao_reader.specs.Sentences.{ReadsTo, none}
use Rattle.ciao_reader.proofs.SentenceLists.{reads_on}
use Rattle.ciao_reader.proofs.reader.read_all.Goals as goal

pub loop-left-init : goal.loop-left-init
loop-left-init c =
    subst (ReadsTo c.args.names.now c.args.tokens.now c.in_ok-ops.ops standard c.args.tokens.now) (sym c.new-sentences.ensures) (none (sym c.in_ok-ops.ensures) refl)

pub loop-left-preserved : goal.loop-left-preserved
loop-left-preserved c =
    subst (ReadsTo c.args.names.now c.in-Some.rest.now c.read_next.new.ops standard c.args.tokens.now) (sym c.in_ok-push-in-Some.ensures.ok)
    (reads_on c.args.names.now c.read_next.new.ops c.in-Some.inner.now c.in-Some.rest.now c.in_ok-sentence-in-Some.sentence c.loop-left.invariant c.in-Some.ensures.split
    c.in_ok-sentence-in-Some.ensures.ok c.in_ok-sentence-in-Some.ensures.after)

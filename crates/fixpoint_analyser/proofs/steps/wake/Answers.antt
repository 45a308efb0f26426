use Rattle.std.proofs.Common.{◌≡◌, []}
use Rattle.std.proofs.lemmas.List.{get_or_read}
use Rattle.std.specs.Prelude.{slice_index_or}
use Rattle.fixpoint_analyser.proofs.Woken.{woken_itself, woken_both}
use Rattle.fixpoint_analyser.proofs.steps.wake.Goals as goal

pub returns-then-not-exits : goal.returns-then-not-exits
returns-then-not-exits c = woken_itself c.args.waiting.now c.add.new.self c.args.pred c.args.exits (slice_index_or c.args.callers.now c.args.pred []) c.in_ok-add.ensures.ok c.if-not-exits.true

pub returns : goal.returns
returns c =
    let list : c.as_slice.result.now ≡ slice_index_or c.args.callers.now c.args.pred [] =
    cc (c.as_slice.ensures, c.index-callers-pred.is, get_or_read c.args.callers.now c.args.pred c.index-callers-pred.result c.requires.callers c.index-callers-pred.is []) in
    woken_both c.args.waiting.now c.add.new.self c.add_all.new.self c.args.pred c.args.exits (slice_index_or c.args.callers.now c.args.pred []) c.as_slice.result.now c.in_ok-add.ensures.ok c.if-not-exits.false list
    c.in_ok-add_all.ensures.count c.in_ok-add_all.ensures.ok

use Rattle.std.proofs.Common.{◌≡◌, []}
use Rattle.std.proofs.lemmas.List.{get_or_read}
use Rattle.std.specs.Prelude.{slice_index_or}
use Rattle.fixpoint_analyser.proofs.Woken.{woken_callers}
use Rattle.fixpoint_analyser.proofs.steps.wake_callers.Goals as goal

pub returns : goal.returns
returns c =
    let list : c.as_slice.result.now ≡ slice_index_or c.args.callers.now c.args.pred [] =
    cc (c.as_slice.ensures, c.index-callers-pred.is, get_or_read c.args.callers.now c.args.pred c.index-callers-pred.result c.requires c.index-callers-pred.is []) in
    woken_callers c.args.waiting.now c.add_all.new.self (slice_index_or c.args.callers.now c.args.pred []) c.as_slice.result.now list c.in_ok-add_all.ensures.count c.in_ok-add_all.ensures.ok

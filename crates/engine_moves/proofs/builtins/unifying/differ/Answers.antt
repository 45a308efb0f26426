use Rattle.std.proofs.Common.{refl, ap, ◌∙◌, arith}
use Rattle.engine_moves.proofs.BuiltinTurns.{longer, undone_there}
use Rattle.engine_moves.proofs.builtins.unifying.differ.Goals as goal

pub undo_to-requires : goal.undo_to-requires
undo_to-requires c = omega (arith, longer c.args.engine.now.heap c.unify.new.heap c.in_ok-unified.ensures.later.goes_on, c.mark-mark.ensures)

pub returns : goal.returns
returns c = record {
  tried = c.unify.new.heap;
  heap = c.undo_to.new.self;
  is_new = refl;
  unified = c.in_ok-unified.ensures.unified;
  same = ap (λ h. h.changes) c.undo_to.ensures ∙ undone_there c.args.engine.now.heap c.unify.new.heap c.mark-mark.result.length c.mark-mark.ensures c.in_ok-unified.ensures.later.goes_on;
}

use Rattle.std.proofs.Common.{refl}
use Rattle.engine_moves.proofs.builtins.unifying.equate.Goals as goal

pub returns : goal.returns
returns c = record {
  heap = c.unify.new.heap;
  is_new = refl;
  unified = record { made = c.len-size.ensures.made; unified = c.in_ok-unified.ensures.unified; later = c.in_ok-unified.ensures.later; still_made = c.len-still.ensures.made };
}

use Rattle.engine_state.proofs.CutLaws.{heights, cuts, counted, in_order, held}
use Rattle.engine_state.proofs.laws.cut_law.Goals as goal

pub returns : goal.returns
returns c = record {
  heights = λ changes links query points are. heights changes links query points are;
  cuts = λ changes links query height points are. cuts changes links query height points are;
  counted = counted;
  in_order = in_order;
  held = held;
}

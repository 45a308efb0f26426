use Rattle.ciao_top.proofs.relied.relied_law.Goals as goal

pub returns : goal.returns
returns c = record {
  load = c.one_load_law.ensures.one;
  unrefused = c.one_load_law.ensures.none;
  refusal = c.one_load_law.ensures.refusal;
  name = c.refusal_name_law.ensures;
  operators = c.unit_operators_law.ensures;
  goal = c.one_goal_law.ensures.goal;
}

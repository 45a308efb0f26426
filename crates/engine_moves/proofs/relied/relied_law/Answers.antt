use Rattle.engine_moves.proofs.relied.relied_law.Goals as goal

pub returns : goal.returns
returns c = record {
  choices = c.choices_law.ensures;
  stay = c.moments_law.ensures;
  give = c.moments_give_law.ensures;
  within = c.moments_within_law.ensures;
  tasks = c.tasks_law.ensures;
  variables = c.variables_law.ensures;
  compose = c.moves_law.ensures;
  goals = c.goals_law.ensures;
  failures = c.failures_law.ensures;
  leaners = c.leaners_law.ensures;
  clauses = c.clauses_law.ensures;
  cells = c.cells_law.ensures;
  found = c.leaner_states_law.ensures;
}

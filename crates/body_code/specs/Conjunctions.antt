-- Conjunctions of many goals, which group to the right.
-- The headline does not rest on this file.
use Rattle.std.specs.Prelude.{List, [], ◌∷◌}
use Rattle.prog_data.specs.declared.goals.Goal.{Goal}
use Rattle.prog_data.specs.declared.goals.Goal as goal
use Rattle.prog_data.specs.declared.grammars.Grammar.{Grammar}

-- goals, from the left, before the last one
abbrev pub conjoined : List Goal → Goal → Goal
conjoined [] last = last
conjoined (g ∷ gs) last = goal.Conj g (conjoined gs last)

-- before one that is made
abbrev pub conjoined_before : List Goal → Goal × Grammar → Goal × Grammar
conjoined_before goals made = (conjoined goals made.0, made.1)

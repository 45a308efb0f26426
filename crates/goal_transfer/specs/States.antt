-- What the code's states hold.
-- The headline does not rest on this file.
use Rattle.std.specs.Prelude.{List, map, slice_get, slice_index_or, Option, None, Some, option_map}
use Rattle.prog_data.specs.declared.tables.Value.{Value}
use Rattle.prog_data.specs.Values.{TypeValue, seen}
use Rattle.name_order.specs.Relations.{Order}
use Rattle.type_domain.specs.Values.{term_name, of_name}
use Rattle.goal_transfer.specs.declared.states.State.{State}
use Rattle.goal_transfer.specs.declared.states.Reached.{Reached}
use Rattle.goal_transfer.specs.declared.states.Effect.{Effect}
use Rattle.goal_transfer.specs.Transfer.{Values, Known, ReachedCall, Exits}
use Rattle.goal_transfer.specs.Tables.{ClauseEffect}

-- the values in a list; of a variable that has no place nothing is known
abbrev pub values_seen : Order → List Value → Values
values_seen o vs v = slice_index_or (map seen vs) v (of_name o term_name)

-- what a state knows
abbrev pub state_seen : Order → State → Known
state_seen o s = option_map (λ vs. values_seen o vs.items) s.values

-- a stored list of values, if it is there
abbrev pub list_seen : Option (List Value) → Option (List TypeValue)
list_seen None = None
list_seen (Some vs) = Some (map seen vs)

-- a stored exit, if there is one
abbrev pub exit_seen : Option (Option (List Value)) → Option (List TypeValue)
exit_seen None = None
exit_seen (Some None) = None
exit_seen (Some (Some vs)) = Some (map seen vs)

-- stored exits, by number of predicate
abbrev pub exits_seen : List (Option (List Value)) → Exits
exits_seen es p = exit_seen (slice_get es p)

-- a stored call
abbrev pub call_seen : Reached → ReachedCall
call_seen r = (r.pred, map seen r.args)

-- a stored effect of a clause
abbrev pub effect_seen : Effect → ClauseEffect
effect_seen e = record { exit = list_seen e.exit; calls = map call_seen e.calls.items }

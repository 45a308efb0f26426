-- What tests of conditions gave.
-- The headline does not rest on this file.
use Rattle.std.specs.Prelude.{◌≡◌, ℕ, ◌+◌, Bool, true, false, List, [], ◌∷◌, ◌++◌, map, Option, None, Some}
use Rattle.prog_data.specs.declared.events.Event.TheVariants.{Broken}
use Rattle.prog_data.specs.declared.events.Ending.{Ending}
use Rattle.prog_data.specs.declared.events.Ending.TheVariants as ending
use Rattle.machine_model.specs.State.{Over, Trace}
use Rattle.machine_model.specs.Step.{Finding, Holds, Breaks, Unknown, after_tests, quietly}

-- the conditions that were told as broken, the number of tests, and the ending, where they ended the run
pub record Tested : Type 0 where
  pub told : List ℕ
  pub tests : ℕ
  pub ended : Option Ending

-- nothing was tested
abbrev pub untested : Tested
untested = record { told = []; tests = 0; ended = None }

-- what comes after tests, or the ending that they gave
abbrev pub unless_ended : Option Ending → Trace → Trace
unless_ended None next = next
unless_ended (Some e) next = quietly (Over e)

-- the trace of tests, before what comes after them
abbrev pub tested_trace : Tested → Trace → Trace
tested_trace r next = record {
  events = map Broken r.told ++ (unless_ended r.ended next).events;
  tests = r.tests + (unless_ended r.ended next).tests;
  phase = (unless_ended r.ended next).phase;
}

-- tests of these conditions one after the other gave this, whatever comes after them
pub record HasTested (stops : Bool) (counts : ℕ) (find : ℕ → Finding) (cs : List ℕ) (r : Tested) : Type 0 where
  pub is : (next : Trace) → after_tests stops counts find cs next ≡ tested_trace r next

-- further tests after these, where these have not ended the run
abbrev pub tested_on : (told : List ℕ) → (tests : ℕ) → Option Ending → Tested → Tested
tested_on told tests None further = record { told = told ++ further.told; tests = tests + further.tests; ended = further.ended }
tested_on told tests (Some e) further = record { told = told; tests = tests; ended = Some e }

-- tests, and further ones
abbrev pub tested_then : Tested → Tested → Tested
tested_then r further = tested_on r.told r.tests r.ended further

-- what a finding gives
abbrev pub found : (stops : Bool) → (counts : ℕ) → (cond : ℕ) → Finding → Tested
found stops counts c Holds = record { told = []; tests = counts; ended = None }
found true counts c Breaks = record { told = []; tests = counts; ended = Some (ending.Violated c) }
found false counts c Breaks = record { told = c ∷ []; tests = counts; ended = None }
found stops counts c Unknown = record { told = []; tests = counts; ended = Some ending.Bound }

-- what the tests of conditions give is put together from what each gives
pub record TestsJoin : Type 0 where
  pub none : (stops : Bool) (counts : ℕ) (find : ℕ → Finding) → HasTested stops counts find [] untested
  pub one : (stops : Bool) (counts : ℕ) (find : ℕ → Finding) (c : ℕ) → HasTested stops counts find (c ∷ []) (found stops counts c (find c))
  pub both : (stops : Bool) (counts : ℕ) (find : ℕ → Finding) (cs ds : List ℕ) (r r' : Tested) → HasTested stops counts find cs r → HasTested stops counts find ds r' → HasTested stops counts find (cs ++ ds) (tested_then r r')
  -- once the run is ended no more is tested
  pub over : (stops : Bool) (counts : ℕ) (find : ℕ → Finding) (cs ds : List ℕ) (r : Tested) (e : Ending) → r.ended ≡ Some e → HasTested stops counts find cs r → HasTested stops counts find (cs ++ ds) r
  -- the traces of tests one after the other
  pub traces : (r r' : Tested) (next : Trace) → tested_trace r (tested_trace r' next) ≡ tested_trace (tested_then r r') next

-- What is added to the conditions told and to the number of tests.
-- The headline does not rest on this file.
use Rattle.std.specs.Prelude.{◌≡◌, ◌+◌, ◌-◌, ◌^◌, ℕ, min, Bool, List, ◌++◌, Option}
use Rattle.prog_data.specs.declared.events.Ending.{Ending}
use Rattle.machine_model.specs.Step.{Finding}
use Rattle.engine_state.specs.Tested.{Tested, HasTested}

-- the conditions told and the number of tests, which stays at the greatest of 64 bits, with what tests gave; they ended so
pub record IsAdded (told : List ℕ) (tests : ℕ) (r : Tested) (told' : List ℕ) (tests' : ℕ) (ended : Option Ending) : Type 0 where
  pub told_is : told' ≡ told ++ r.told
  pub tests_are : tests' ≡ min (tests + r.tests) (2 ^ 64 - 1)
  pub ended_is : ended ≡ r.ended

-- these conditions were tested, and what that gave was added to the conditions told; so many tests were made, and they ended so
pub record HasAdded (stops : Bool) (counts : ℕ) (find : ℕ → Finding) (cs : List ℕ) (told told' : List ℕ) (tests : ℕ) (ended : Option Ending) : Type 0 where
  pub r : Tested
  pub has : HasTested stops counts find cs r
  pub added : IsAdded told 0 r told' tests ended

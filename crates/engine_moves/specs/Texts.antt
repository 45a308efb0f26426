-- What a built-in writes.
-- The headline does not rest on this file.
use Rattle.std.specs.Prelude.{ℕ, List, [], ◌∷◌, Option, None, Some}
use Rattle.prog_data.specs.declared.events.Event.{Event}
use Rattle.prog_data.specs.declared.events.Event.TheVariants.{Out}

-- the events of a built-in that writes a text, or none
abbrev pub events_of : Option (List ℕ) → List Event
events_of None = []
events_of (Some text) = Out text ∷ []

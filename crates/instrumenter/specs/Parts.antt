-- Conditions by when they are tested.
-- The headline does not rest on this file.
use Rattle.std.specs.Prelude.{ℕ, Bool, List, filter, Option}
use Rattle.prog_data.specs.declared.conditions.CondKind.{CondKind}
use Rattle.prog_data.specs.declared.programs.Program.{Program}
use Rattle.prog_data.specs.Conditions.{kind_of, is_calls, is_success, is_comp}
use Rattle.prog_data.specs.declared.tables.Status.{Status}
use Rattle.machine_model.specs.Instrumented.{kept}
use Rattle.instrumenter.specs.declared.kept.Part.{Part}
use Rattle.instrumenter.specs.declared.kept.Part.TheVariants as part

-- whether a condition is one of this kind
abbrev pub is_of : Part → Option CondKind → Bool
is_of part.AtCall kind = is_calls kind
is_of part.AtExit kind = is_success kind
is_of part.OfMark kind = is_comp kind

-- the kept conditions of one kind among these
abbrev pub kept_of : Program → List Status → Part → List ℕ → List ℕ
kept_of program statuses which cs = kept statuses (filter (λ c. is_of which (kind_of program c)) cs)

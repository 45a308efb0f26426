-- Linked: the program of units, or the refusal that comes first.
-- The headline does not rest on this file.
use Rattle.std.specs.Prelude.{⊤, ◌≡◌, ℕ, List, map, slice_get, Option, Some, None}
use Rattle.std.specs.Option.{option_map_or}
use Rattle.prog_data.specs.declared.programs.Program.{Program}
use Rattle.prog_data.specs.declared.refusals.Refusal.{Refusal}
use Rattle.prog_data.specs.declared.refusals.RefusalKind.TheVariants.{TooManyNames}
use Rattle.ciao_modules.specs.FileNames.{Word}
use Rattle.ciao_modules.specs.declared.units.Unit.{Unit}
use Rattle.unit_scopes.specs.Sayings.{File, file_of}
use Rattle.program_link.specs.FaultOrder.{least}
use Rattle.program_link.specs.Faults.{all_faults}
use Rattle.program_link.specs.Programs.{program_of}
use Rattle.program_link.specs.declared.faults.Fault.{Fault}
use Rattle.program_link.specs.declared.outcomes.LinkFault.{LinkFault}
use Rattle.program_link.specs.declared.outcomes.LinkFault.TheVariants as fault

-- a program, or a refusal
pub data Link : Type 0 where
  Linked : Program → Link
  Refused : Refusal → Link

-- the file of the unit at a place
abbrev pub file_at : List Unit → ℕ → ℕ
file_at units at = option_map_or (λ u. u.file) (slice_get units at) 0

-- a fault, told at its file and line
abbrev pub refusal_of : List Unit → Fault → Refusal
refusal_of units f = record { place = record { file = file_at units f.unit; line = f.line }; kind = f.kind }

-- too many names, told of the main file
abbrev pub too_many : List Unit → Refusal
too_many units = record { place = record { file = file_at units 0; line = 0 }; kind = TooManyNames }

-- where there is no fault
abbrev pub program_or : List Unit → Option Program → Link
program_or units None = Refused (too_many units)
program_or units (Some program) = Linked program

-- by the fault that comes first
abbrev pub linked_by : List Word → List Unit → List File → Option Fault → Link
linked_by names units files (Some f) = Refused (refusal_of units f)
linked_by names units files None = program_or units (program_of names files)

abbrev pub linked_files : List Word → List Unit → List File → Link
linked_files names units files = linked_by names units files (least (all_faults names files))

-- the link of units over these names, the first of which is the main one
abbrev pub linked : List Word → List Unit → Link
linked names units = linked_files names units (map file_of units)

-- why there is no program: the refusal that comes first, with the names as they were
abbrev pub IsLinkFault : List Word → List Unit → LinkFault → Type 0
IsLinkFault names units (fault.Refused refusal back) = (linked names units ≡ Refused refusal) × (back ≡ names)
IsLinkFault names units fault.NoMemory = ⊤

-- What is wrong with sentences by themselves, with exports and with imports.
-- The headline does not rest on this file.
use Rattle.std.specs.Prelude.{ℕ, Bool, false, not, ◌&&◌, ◌||◌, ◌==◌, nat_le, List, [], ◌∷◌, flat_map, slice_get, Option, Some, None, if◌then◌else◌, bytes_eq}
use Rattle.std.specs.Option.{option_map_or}
use Rattle.term_core.specs.Names.{name_text}
use Rattle.term_core.specs.declared.fixed.TheConstants.{WRITE, WRITEQ, NL, TERM, LIST, GROUND}
use Rattle.prog_data.specs.declared.refusals.RefusalKind.{RefusalKind}
use Rattle.prog_data.specs.declared.refusals.RefusalKind.TheVariants.{NotExported, Undefined}
use Rattle.ciao_modules.specs.FileNames.{Word}
use Rattle.ciao_modules.specs.Libraries.{library_file}
use Rattle.ciao_modules.specs.UnitRanges.{exports_of}
use Rattle.ciao_modules.specs.declared.libraries.Library.TheVariants.{BasicProps, Write}
use Rattle.ciao_modules.specs.declared.units.Import.{Import}
use Rattle.body_code.specs.declared.faults.Indicator.{Indicator}
use Rattle.unit_scopes.specs.Sayings.{File}
use Rattle.unit_scopes.specs.Numbering.{defines}
use Rattle.unit_scopes.specs.Imports.{exported, is_exported}
use Rattle.program_link.specs.declared.faults.Fault.{Fault}
use Rattle.unit_scopes.specs.declared.sayings.Broken.{Broken}

-- a fault at a line of the unit at a place
abbrev pub fault : ℕ → ℕ → RefusalKind → Fault
fault at line what = record { unit = at; line = line; kind = what }

-- the same where something is wrong
abbrev pub fault_where : Bool → ℕ → ℕ → RefusalKind → List Fault
fault_where wrong at line what = if wrong then fault at line what ∷ [] else []

-- the same where there is a kind
abbrev pub fault_of : ℕ → ℕ → Option RefusalKind → List Fault
fault_of at line None = []
fault_of at line (Some what) = fault at line what ∷ []

-- sentences

-- a sentence that breaks a rule by itself
abbrev pub broken_fault : ℕ → Broken → Fault
broken_fault at b = fault at b.line b.kind

-- exports and imports

-- exports without clauses, at the lines of their directives
abbrev pub export_faults : ℕ → File → List Fault
export_faults at f = flat_map (λ e. fault_where (not (defines f (exported e))) at e.line Undefined) (exports_of f.unit.exports)

-- whether a predicate is a basic property
abbrev pub is_basic_property : Indicator → Bool
is_basic_property p = ((p.arity == 1) && (nat_le TERM p.name && nat_le p.name GROUND)) || ((p.arity == 2) && (p.name == LIST))

-- whether a predicate writes
abbrev pub is_output : Indicator → Bool
is_output p = ((p.arity == 1) && ((p.name == WRITE) || (p.name == WRITEQ))) || ((p.arity == 0) && (p.name == NL))

-- what is seen everywhere, and may be named of a library all the same: basic properties of basic_props, output of write
abbrev pub is_everywhere : Word → Indicator → Bool
is_everywhere file p = (bytes_eq file (library_file BasicProps) && is_basic_property p) || (bytes_eq file (library_file Write) && is_output p)

-- whether a unit, if it is there, has a predicate for those that name it
abbrev pub is_offered : List Word → Indicator → Option File → Bool
is_offered names p None = false
is_offered names p (Some g) = is_exported g p || is_everywhere (name_text names g.unit.file) p

-- what an import names and the unit does not export, at the line of the directive
abbrev pub import_faults : List Word → List File → ℕ → Import → List Fault
import_faults names files at i =
    flat_map (λ e. fault_where (not (is_offered names (exported e) (slice_get files i.unit))) at i.line NotExported) (option_map_or (λ only. only) i.only [])

-- Files of units in range are in range.
-- The headline does not rest on this file.
use Rattle.std.specs.Prelude.{◌<◌, ◌≤◌, ℕ, List, map, length}
use Rattle.std.specs.List.{AllByRecursion}
use Rattle.term_core.specs.Names.{fixed_names}
use Rattle.ciao_reader.specs.Ranges.{IsSentenceInRange}
use Rattle.assertion_read.specs.Ranges.{IsAssertionInRange}
use Rattle.ciao_modules.specs.UnitRanges.{IsUnitInRange}
use Rattle.ciao_modules.specs.declared.units.Unit.{Unit}
use Rattle.unit_scopes.specs.Sayings.{File, file_of}

-- a file whose names are below a number, with its clauses and assertions in range of so many names
pub record IsFileInRange (names : ℕ) (f : File) : Type 0 where
  pub file : f.unit.file < names
  pub name : f.unit.name < names
  pub clauses : AllByRecursion (IsSentenceInRange names) f.parts.clauses
  pub assertions : AllByRecursion (IsAssertionInRange names) f.parts.assertions

-- where units are in range of names with the fixed ones among them, so is what their sentences say, behind the expansions too
abbrev pub FilesStayInRange : Type 0
FilesStayInRange = (names count : ℕ) (units : List Unit) → length fixed_names ≤ names → AllByRecursion (IsUnitInRange names count) units → AllByRecursion (IsFileInRange names) (map file_of units)

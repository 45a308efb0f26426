-- What is relied on of the crates below.
use Rattle.std.proofs.Common.{◌≡◌, true, List}
use Rattle.assertion_normal.specs.Laws.{RangesGrow, NormalsAreInRange}
use Rattle.body_code.specs.Ranges.{HeadsAreInRange, ClausesAreInRange}
use Rattle.regtype_grammar.specs.Ranges.{GrammarsAreInRange}
use Rattle.regtype_grammar.specs.TypeNames.{are_seen}
use Rattle.unit_scopes.specs.Imports.{type_modules}
use Rattle.unit_scopes.specs.Ranges.{FilesStayInRange}
use Rattle.unit_scopes.specs.Sayings.{File}

-- the laws of ranges
pub record LowerLaws : Type 0 where
  pub files : FilesStayInRange
  pub seen : (files : List File) → are_seen (type_modules files) ≡ true
  pub grammars : GrammarsAreInRange
  pub heads : HeadsAreInRange
  pub clauses : ClausesAreInRange
  pub grow : RangesGrow
  pub normals : NormalsAreInRange

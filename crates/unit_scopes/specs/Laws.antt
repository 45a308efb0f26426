-- Laws of the types of files.
-- The headline does not rest on this file.
use Rattle.std.specs.Prelude.{◌≡◌, true, List}
use Rattle.regtype_grammar.specs.TypeNames.{are_seen}
use Rattle.unit_scopes.specs.Sayings.{File}
use Rattle.unit_scopes.specs.Imports.{type_modules}

-- each type that is seen in a file is one of a file, at its place, and has its name
abbrev pub TypesAreSeen : Type 0
TypesAreSeen = (files : List File) → are_seen (type_modules files) ≡ true

-- The words of refusals.
use Rattle.std.specs.Prelude.{ℕ, List, codes}
use Rattle.prog_data.specs.declared.refusals.RefusalKind.{RefusalKind}
use Rattle.prog_data.specs.declared.refusals.RefusalKind.TheVariants as kind

-- the word that names a kind of refusal in a text
abbrev pub kind_word : RefusalKind → List ℕ
kind_word kind.NoFile = codes "NoFile"
kind_word kind.FileTooLarge = codes "FileTooLarge"
kind_word kind.NotUtf8 = codes "NotUtf8"
kind_word kind.BadToken = codes "BadToken"
kind_word kind.IntRange = codes "IntRange"
kind_word kind.Syntax = codes "Syntax"
kind_word kind.TooDeep = codes "TooDeep"
kind_word kind.OpRefused = codes "OpRefused"
kind_word kind.NoEnd = codes "NoEnd"
kind_word kind.BadModule = codes "BadModule"
kind_word kind.UnknownDirective = codes "UnknownDirective"
kind_word kind.UnknownPackage = codes "UnknownPackage"
kind_word kind.UnknownLibrary = codes "UnknownLibrary"
kind_word kind.TooManyFiles = codes "TooManyFiles"
kind_word kind.BadExpansion = codes "BadExpansion"
kind_word kind.BadRegtype = codes "BadRegtype"
kind_word kind.UnknownProperty = codes "UnknownProperty"
kind_word kind.BadAssertion = codes "BadAssertion"
kind_word kind.BadClause = codes "BadClause"
kind_word kind.NotExported = codes "NotExported"
kind_word kind.Ambiguous = codes "Ambiguous"
kind_word kind.Undefined = codes "Undefined"
kind_word kind.TooManyNames = codes "TooManyNames"

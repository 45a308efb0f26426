-- The operators that are in force from the start, and the tables that changes make of them.
use Rattle.std.specs.Prelude.{◌≡◌, ℕ, ℤ, Some, List, [], ◌∷◌, ◌++◌, map, codes}
use Rattle.term_core.specs.declared.operators.OpKind.{OpKind}
use Rattle.term_core.specs.declared.operators.OpKind.TheVariants.{Xfx, Xfy, Yfx, Fy, Fx}
use Rattle.term_core.specs.declared.operators.Definition.{Definition}
use Rattle.term_core.specs.declared.operators.Operators.{Operators}
use Rattle.term_core.specs.Names.{fixed_names, place_of}
use Rattle.term_core.specs.Operators.{keyword_priority, added}

-- names as operators of one priority and kind
abbrev pub all_defined : ℕ → OpKind → List ℕ → List Definition
all_defined p kind names = map (λ name. record { name = name; op = record { priority = p; kind = kind } }) names

-- texts that the language knows as such operators
abbrev pub defined_with : ℕ → OpKind → List (List ℕ) → List Definition
defined_with p kind texts = all_defined p kind (map (λ text. place_of text fixed_names) texts)

-- the prefix operators
abbrev pub standard_prefixes : List Definition
standard_prefixes =
    defined_with 1200 Fx (codes ":-" ∷ codes "?-" ∷ [])
    ++ defined_with keyword_priority Fx (codes "pred" ∷ codes "calls" ∷ codes "success" ∷ codes "comp" ∷ codes "entry" ∷ codes "regtype" ∷ [])
    ++ defined_with keyword_priority Fy (codes "check" ∷ codes "trust" ∷ codes "true" ∷ codes "checked" ∷ codes "false" ∷ [])
    ++ defined_with 900 Fy (codes "\\+" ∷ [])
    ++ defined_with 200 Fy (codes "-" ∷ [])
    ++ defined_with 50 Fx (codes "~" ∷ [])

-- the infix operators
abbrev pub standard_infixes : List Definition
standard_infixes =
    defined_with 1200 Xfx (codes ":-" ∷ codes "-->" ∷ [])
    ++ defined_with 1150 Xfx (codes ":=" ∷ [])
    ++ defined_with 1100 Xfy (codes ";" ∷ codes "|" ∷ [])
    ++ defined_with 1050 Xfy (codes "->" ∷ [])
    ++ defined_with 1050 Xfx (codes "?" ∷ [])
    ++ defined_with 1000 Xfy (codes "," ∷ [])
    ++ defined_with 980 Xfx (codes "#" ∷ [])
    ++ defined_with 975 Xfx (codes "=>" ∷ [])
    ++ defined_with 700 Xfx (codes "=" ∷ codes "\\=" ∷ codes "==" ∷ codes "\\==" ∷ codes "@<" ∷ codes "@>" ∷ codes "@=<" ∷ codes "@>=" ∷ codes "=.." ∷ codes "is" ∷ codes "=:=" ∷ codes "=\\=" ∷ codes "<" ∷ codes ">" ∷ codes "=<" ∷ codes ">=" ∷ [])
    ++ defined_with 550 Xfx (codes ":" ∷ [])
    ++ defined_with 500 Yfx (codes "+" ∷ codes "-" ∷ [])
    ++ defined_with 400 Yfx (codes "*" ∷ codes "/" ∷ codes "//" ∷ codes "rem" ∷ codes "mod" ∷ [])
    ++ defined_with 200 Xfx (codes "**" ∷ [])
    ++ defined_with 200 Xfy (codes "^" ∷ [])

-- the table that is in force from the start
abbrev pub standard : Operators
standard = record { prefixes = standard_prefixes; infixes = standard_infixes }

-- the tables that changes of the standard one give
pub data IsMade : Operators → Type 0 where
  start : {ops : Operators} → ops ≡ standard → IsMade ops
  change : {ops : Operators} (old : Operators) (p : ℤ) (kind : OpKind) (name : ℕ) → IsMade old → added p kind name old ≡ Some ops → IsMade ops

-- The characters of names.
use Rattle.std.specs.Prelude.{ℕ, Bool, false, not, ◌&&◌, ◌||◌, ◌==◌, List, [], ◌∷◌, codes}
use Rattle.std.specs.Str.{byte}
use Rattle.std.specs.List.{list_all, list_any}
use Rattle.std.specs.Char.{is_ascii_lowercase, is_ascii_uppercase, is_ascii_alphanumeric}

-- a symbol character
abbrev pub is_symbol : ℕ → Bool
is_symbol c = list_any (λ d. c == d) (codes "+-*/\\^<>=~:.?@#&$")

-- an ASCII letter, a digit or `_`
abbrev pub is_word_part : ℕ → Bool
is_word_part c = is_ascii_alphanumeric c || c == byte "_"

-- a lower-case letter, and then letters, digits and `_`
abbrev pub is_lower_word : List ℕ → Bool
is_lower_word [] = false
is_lower_word (c ∷ cs) = is_ascii_lowercase c && list_all is_word_part cs

-- an upper-case letter or `_`, and then letters, digits and `_`
abbrev pub is_upper_word : List ℕ → Bool
is_upper_word [] = false
is_upper_word (c ∷ cs) = (is_ascii_uppercase c || c == byte "_") && list_all is_word_part cs

-- `/*` at the front
abbrev pub opens_comment : List ℕ → Bool
opens_comment (c ∷ d ∷ cs) = c == byte "/" && d == byte "*"
opens_comment cs = false

-- one `.` alone
abbrev pub is_point : List ℕ → Bool
is_point (c ∷ []) = c == byte "."
is_point cs = false

-- a run of symbol characters that is no `.` and no beginning of a comment
abbrev pub is_symbol_run : List ℕ → Bool
is_symbol_run [] = false
is_symbol_run (c ∷ cs) = list_all is_symbol (c ∷ cs) && (not (is_point (c ∷ cs)) && not (opens_comment (c ∷ cs)))

-- `!` or `;`
abbrev pub is_solo : List ℕ → Bool
is_solo (c ∷ []) = c == byte "!" || c == byte ";"
is_solo cs = false

-- whether the bytes are a name that needs no quotes
abbrev pub is_name : List ℕ → Bool
is_name cs = is_lower_word cs || (is_symbol_run cs || is_solo cs)

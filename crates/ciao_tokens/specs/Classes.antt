-- What the first byte of a piece says about it.
-- The headline does not rest on this file.
use Rattle.std.specs.Prelude.{ℕ, Bool, ◌||◌, ◌==◌, [], ◌∷◌, if◌then◌else◌}
use Rattle.std.specs.List.{list_any}
use Rattle.std.specs.Char.{is_ascii_lowercase, is_ascii_uppercase, is_ascii_digit}
use Rattle.term_core.specs.Characters.{is_symbol}
use Rattle.ciao_tokens.specs.declared.classes.Class.{Class}
use Rattle.ciao_tokens.specs.declared.classes.Class.TheVariants.{Lower, Upper, Digit, Symbol, Blank, Sign, Solo, Percent, Quote, DoubleQuote, Other}
use Rattle.ciao_tokens.specs.Layout.{is_blank}
use Rattle.ciao_tokens.specs.Forms.{Mark, paren, close_paren, bracket, close_bracket, curly, close_curly, comma, bar}

-- a byte that is a token alone, but for names
abbrev pub is_mark : ℕ → Bool
is_mark c = list_any (λ d. c == d) (40 ∷ 41 ∷ 91 ∷ 93 ∷ 123 ∷ 125 ∷ 44 ∷ 124 ∷ [])

-- a byte that is a name alone
abbrev pub is_solo_byte : ℕ → Bool
is_solo_byte c = c == 33 || c == 59

-- the class of a byte that begins neither a word nor a number
abbrev pub sign_class : ℕ → Class
sign_class c =
    if is_symbol c then Symbol
    else (if is_blank c then Blank
    else (if is_mark c then Sign
    else (if is_solo_byte c then Solo
    else (if c == 37 then Percent
    else (if c == 39 then Quote
    else (if c == 34 then DoubleQuote
    else Other))))))

-- the class of a byte
abbrev pub class_of : ℕ → Class
class_of c =
    if is_ascii_lowercase c then Lower
    else (if is_ascii_uppercase c || c == 95 then Upper
    else (if is_ascii_digit c then Digit
    else sign_class c))

-- the token of one byte by that byte
abbrev pub mark_of : ℕ → Mark
mark_of c =
    if c == 40 then paren
    else (if c == 41 then close_paren
    else (if c == 91 then bracket
    else (if c == 93 then close_bracket
    else (if c == 123 then curly
    else (if c == 125 then close_curly
    else (if c == 44 then comma
    else bar))))))

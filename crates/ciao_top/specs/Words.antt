-- Numbers on the command line.
use Rattle.std.specs.Prelude.{ℕ, ◌+◌, ◌-◌, ◌*◌, Bool, ◌&&◌, nat_le, ◌==◌, [], ◌∷◌, length, Option, Some, None, if◌then◌else◌}
use Rattle.std.specs.Str.{byte}
use Rattle.ciao_modules.specs.FileNames.{Word}

-- a decimal digit
abbrev pub is_digit : ℕ → Bool
is_digit c = nat_le (byte "0") c && nat_le c (byte "9")

-- the value of digits of the value n and of those that follow, where it is at most `most`
abbrev pub number_behind : ℕ → ℕ → Word → Option ℕ
number_behind most n [] = if nat_le n most then Some n else None
number_behind most n (c ∷ cs) = if is_digit c then number_behind most (n * 10 + (c - byte "0")) cs else None

-- the number that the word is: one or more digits with a value of at most `most`
abbrev pub number_of : ℕ → Word → Option ℕ
number_of most word = if length word == 0 then None else number_behind most 0 word

-- What an analysis knows of an argument: none, or grammar names to which it belongs.
-- The headline does not rest on this file.
use Rattle.std.specs.Prelude.{◌≡◌, ℕ, ◌==◌, ◌/◌, ◌%◌, ◌^◌, Bool, true, List, [], ◌∷◌, slice_index_or, Option, None, Some, option_map}
use Rattle.term_core.specs.declared.terms.Term.{Term}
use Rattle.prog_data.specs.declared.grammars.Grammar.{Grammar}
use Rattle.prog_data.specs.declared.tables.Value.{Value}
use Rattle.prog_data.specs.Membership.{Belongs}

-- none, or the test that says which names are in it
abbrev pub TypeValue : Type 0
TypeValue = Option (ℕ → Bool)

-- whether bit n is 1 in words of 64 bits, counted from the lowest
abbrev pub bit_at : List ℕ → ℕ → Bool
bit_at words n = (slice_index_or words (n / 64) 0 / 2 ^ (n % 64)) % 2 == 1

-- the value that is stored in words
abbrev pub seen : Value → TypeValue
seen v = option_map bit_at v.names

-- a term is in a value: it belongs to each of its names, and no term is in none
abbrev pub IsIn : Grammar → Term → TypeValue → Type 0
IsIn g t None = ⊥
IsIn g t (Some has) = (n : ℕ) → has n ≡ true → Belongs g t n

-- each term is in the value in its place
abbrev pub AreIn : Grammar → List Term → List TypeValue → Type 0
AreIn g [] [] = Unit {0}
AreIn g [] (v ∷ vs) = ⊥
AreIn g (t ∷ ts) [] = ⊥
AreIn g (t ∷ ts) (v ∷ vs) = IsIn g t v × AreIn g ts vs

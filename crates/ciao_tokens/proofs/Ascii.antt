-- Bytes that are ASCII.
use Rattle.std.proofs.Common.{◌≡◌, ◌<◌, ℕ, zero, suc, Bool, true, List, [], ◌∷◌, refl, arith}
use Rattle.std.proofs.lemmas.Bool.{and_parts, and_from}
use Rattle.std.proofs.lemmas.Bool.Decides.{nat_tests}
use Rattle.std.proofs.lemmas.Str.{IsUtf8-from_ascii}
use Rattle.std.specs.Prelude.{IsUtf8}
use Rattle.std.specs.List.{list_all}
use Rattle.std.specs.Str.{IsAscii}
use Rattle.std.specs.Char.{is_ascii}

below : (c : ℕ) → is_ascii c ≡ true → c < 128
below c e = grind (arith, nat_tests)

are_ascii : (bytes : List ℕ) → list_all is_ascii bytes ≡ true → IsAscii bytes
are_ascii [] e i = omega arith
are_ascii (c ∷ cs) e zero = below c (and_parts (is_ascii c) _ e).0
are_ascii (c ∷ cs) e (suc i) = are_ascii cs (and_parts (is_ascii c) _ e).1 i

-- bytes that are ASCII are UTF-8
pub ascii_utf8 : (bytes : List ℕ) → list_all is_ascii bytes ≡ true → IsUtf8 bytes
ascii_utf8 bytes e = IsUtf8-from_ascii bytes (are_ascii bytes e)

-- what passes a test of ASCII is ASCII
pub passes_ascii : (test : ℕ → Bool) (bytes : List ℕ) → ((c : ℕ) → test c ≡ true → is_ascii c ≡ true) → list_all test bytes ≡ true → list_all is_ascii bytes ≡ true
passes_ascii test [] is e = refl
passes_ascii test (c ∷ cs) is e =
    let p = and_parts (test c) _ e in
    and_from _ _ (is c p.0) (passes_ascii test cs is p.1)

-- What is behind some bytes of a text is a text.
use Rattle.std.proofs.Common.{arith, ◌≡◌, ◌<◌, ℕ, List, [], ◌∷◌, ◌++◌, refl, sym, subst, Bool, true}
use Rattle.std.specs.Prelude.{IsUtf8, encode_utf8, encode_utf8_all}
use Rattle.std.specs.List.{list_all}
use Rattle.std.specs.Str.{all_scalars}
use Rattle.std.specs.Char.{IsScalar, is_ascii}
use Rattle.std.proofs.lemmas.Bool.{and_parts, ltb-true}
use Rattle.std.proofs.lemmas.Str.{IsUtf8-drop, IsCharBoundary-after_ascii}
use Rattle.ciao_tokens.specs.Scanning.{run, behind_run}
use Rattle.ciao_tokens.proofs.Ascii.{passes_ascii}
use Rattle.ciao_tokens.proofs.Runs.{run_passes, run_behind}

-- behind an ASCII byte
pub utf8_tail : (c : ℕ) (bytes : List ℕ) → c < 128 → IsUtf8 (c ∷ bytes) → IsUtf8 bytes
utf8_tail c bytes low u = IsUtf8-drop (c ∷ bytes) 1 u (IsCharBoundary-after_ascii (c ∷ bytes) 0 u (omega arith) low)

-- behind ASCII bytes
pub utf8_behind : (word rest : List ℕ) → list_all is_ascii word ≡ true → IsUtf8 (word ++ rest) → IsUtf8 rest
utf8_behind [] rest low u = u
utf8_behind (c ∷ word) rest low u = utf8_behind word rest (and_parts (is_ascii c) _ low).1 (utf8_tail c (word ++ rest) (ltb-true c 128 (and_parts (is_ascii c) _ low).0) u)

-- the first character of a text
pub record FirstChar (bytes : List ℕ) : Type 0 where
  pub char : ℕ
  pub rest : List ℕ
  pub scalar : IsScalar char
  pub split : bytes ≡ encode_utf8 char ++ rest
  pub utf8 : IsUtf8 rest

pub first_char : (c : ℕ) (cs : List ℕ) → IsUtf8 (c ∷ cs) → FirstChar (c ∷ cs)
first_char c cs u = by u.0 u.1.0 u.1.1
  where
    nothing : ◌≡◌ {A = List ℕ} [] (c ∷ cs) → ⊥
    nothing e = cc

    by : (chars : List ℕ) → all_scalars chars ≡ true → encode_utf8_all chars ≡ c ∷ cs → FirstChar (c ∷ cs)
    by [] s e = absurd (nothing e)
    by (d ∷ ds) s e = record { char = d; rest = encode_utf8_all ds; scalar = (and_parts _ _ s).0; split = sym e; utf8 = (ds, ((and_parts _ _ s).1, refl)) }

-- behind a run of ASCII bytes
pub run_utf8 : (test : ℕ → Bool) (left : List ℕ) → ((c : ℕ) → test c ≡ true → is_ascii c ≡ true) → IsUtf8 left → IsUtf8 (behind_run test left)
run_utf8 test left low u = utf8_behind (run test left) (behind_run test left) (passes_ascii test (run test left) low (run_passes test left)) (subst IsUtf8 (sym (run_behind test left)) u)

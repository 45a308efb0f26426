-- The escapes of a character's bytes: a character that has none is its own bytes, since those of a character outside ASCII are at least 128.
use Rattle.std.proofs.Common.{◌≡◌, ◌<◌, ◌≤◌, ℕ, suc, List, [], ◌∷◌, ◌++◌, length, get_or, inl, inr, refl, sym, ap, ap₂, ◌∙◌, ◌+◌, arith}
use Rattle.std.proofs.lemmas.Grind.{common_steps}
use Rattle.std.proofs.lemmas.Bool.{cases_lt}
use Rattle.std.proofs.lemmas.List.{append-nil, length-append}
use Rattle.std.proofs.lemmas.Str.{encode_ascii, inside_one, length-encode, len_utf8_bounds}
use Rattle.std.specs.Prelude.{flat_map, encode_utf8}
use Rattle.term_core.specs.Printing.{escaped}

escaped_byte : (b : ℕ) → 128 ≤ b → escaped b ≡ b ∷ []
escaped_byte b high = grind (arith, common_steps)

escaped_bytes : (bs : List ℕ) → ((k : ℕ) → k < length bs → 128 ≤ get_or bs k 0) → flat_map escaped bs ≡ bs
escaped_bytes [] high = refl
escaped_bytes (b ∷ bs) high = ap₂ (λ (x y : List ℕ). x ++ y) (escaped_byte b (high 0 (omega arith))) (escaped_bytes bs (λ k below. high (suc k) (omega arith)))

-- a character that is its own text between quotes
pub escaped_char : (c : ℕ) → escaped c ≡ c ∷ [] → flat_map escaped (encode_utf8 c) ≡ encode_utf8 c
escaped_char c plain = elim (cases_lt c 128) [
  | inl low ↦ ap (flat_map escaped) (encode_ascii c low) ∙ append-nil (escaped c) ∙ plain ∙ sym (encode_ascii c low)
  | inr far ↦ escaped_bytes (encode_utf8 c) (λ k below. elim (cases_lt (get_or (encode_utf8 c) k 0) 128) [
    | inl low ↦ absurd (omega (arith, inside_one c [] (encode_utf8 c) k (sym (append-nil _)) below low))
    | inr high ↦ high
  ])
]

-- what stands behind a character is shorter
pub behind_shorter : (c : ℕ) (text behind : List ℕ) → text ≡ encode_utf8 c ++ behind → length behind < length text
behind_shorter c text behind e =
    let parts : length text ≡ length (encode_utf8 c) + length behind = ap length e ∙ length-append (encode_utf8 c) behind in
    omega (arith, parts, length-encode c, (len_utf8_bounds c).0)

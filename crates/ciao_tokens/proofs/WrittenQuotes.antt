-- What is written between quotes means the text.
use Rattle.std.proofs.Common.{◌≡◌, ◌<◌, ◌≤◌, ◌⊎◌, inl, inr, ℕ, suc, Bool, true, false, List, [], ◌∷◌, ◌++◌, length, get_or, refl, sym, ap, subst, ◌∙◌, arith}
use Rattle.std.proofs.lemmas.Bool.{and_parts, ne_eqb, eqb-false, cases_lt}
use Rattle.std.proofs.lemmas.List.{append-nil}
use Rattle.std.proofs.lemmas.Grind.{flat_map-append}
use Rattle.std.proofs.lemmas.Str.{IsUtf8-append, IsUtf8-encode, encode_ascii, inside_one}
use Rattle.std.specs.Prelude.{◌==◌, flat_map, codes, encode_utf8, encode_utf8_all, IsUtf8, if◌then◌else◌}
use Rattle.std.specs.Str.{all_scalars}
use Rattle.std.specs.Char.{IsScalar}
use Rattle.term_core.specs.Printing.{escaped}
use Rattle.ciao_tokens.specs.Quotes.{Part, itself, escape, Inside, empty, first}
use Rattle.ciao_tokens.proofs.Ascii.{ascii_utf8}
use Rattle.ciao_tokens.proofs.ByteClasses.{is_eq}

-- bytes that are a part with this meaning, and a text
record Spells (bytes : List ℕ) (c : ℕ) : Type 0 where
  part : Part 39 bytes (c ∷ [])
  utf8 : IsUtf8 bytes

abbrev by_tests : Bool → Bool → Bool → Bool → Bool → ℕ → List ℕ
by_tests b q n t r c = if b then codes "\\\\" else if q then codes "\\'" else if n then codes "\\n" else if t then codes "\\t" else if r then codes "\\r" else c ∷ []

-- a byte above ASCII stands for itself
high_escaped : (c : ℕ) → 128 ≤ c → escaped c ≡ c ∷ []
high_escaped c l = by _ (other 92 (omega arith)) _ (other 39 (omega arith)) _ (other 10 (omega arith)) _ (other 9 (omega arith)) _ (other 13 (omega arith))
  where
    other : (d : ℕ) → d < 128 → (c == d) ≡ false
    other d m = ne_eqb c d (λ e. omega (arith, l, m, e))

    by : (b : Bool) → b ≡ false → (q : Bool) → q ≡ false → (n : Bool) → n ≡ false → (t : Bool) → t ≡ false → (r : Bool) → r ≡ false → by_tests b q n t r c ≡ c ∷ []
    by b e q f n g t h r i = ap (λ x. by_tests x q n t r c) e ∙ ap (λ x. by_tests false x n t r c) f ∙ ap (λ x. by_tests false false x t r c) g ∙ ap (λ x. by_tests false false false x r c) h ∙ ap (λ x. by_tests false false false false x c) i

all_high : (bytes : List ℕ) → ((k : ℕ) → k < length bytes → 128 ≤ get_or bytes k 0) → flat_map escaped bytes ≡ bytes
all_high [] high = refl
all_high (c ∷ cs) high = ap (λ w. w ++ flat_map escaped cs) (high_escaped c (high 0 (omega arith))) ∙ ap (λ w. c ∷ w) (all_high cs (λ k l. high (suc k) (omega (arith, l))))

-- an ASCII character between quotes
low_spells : (c : ℕ) → c < 128 → IsScalar c → Spells (escaped c) c
low_spells c low scalar = by (c == 92) refl (c == 39) refl (c == 10) refl (c == 9) refl (c == 13) refl
  where
    one : (d : ℕ) (bytes : List ℕ) → (c == d) ≡ true → Spells bytes d → Spells bytes c
    one d bytes e s = subst (Spells bytes) (sym (is_eq c d e)) s

    by : (b : Bool) → (c == 92) ≡ b → (q : Bool) → (c == 39) ≡ q → (n : Bool) → (c == 10) ≡ n → (t : Bool) → (c == 9) ≡ t → (r : Bool) → (c == 13) ≡ r → Spells (by_tests b q n t r c) c
    by true e q f n g t h r i = one 92 (92 ∷ 92 ∷ []) e (record { part = escape 92 92 refl refl; utf8 = ascii_utf8 (92 ∷ 92 ∷ []) refl })
    by false e true f n g t h r i = one 39 (92 ∷ 39 ∷ []) f (record { part = escape 39 39 refl refl; utf8 = ascii_utf8 (92 ∷ 39 ∷ []) refl })
    by false e false f true g t h r i = one 10 (92 ∷ 110 ∷ []) g (record { part = escape 110 10 refl refl; utf8 = ascii_utf8 (92 ∷ 110 ∷ []) refl })
    by false e false f false g true h r i = one 9 (92 ∷ 116 ∷ []) h (record { part = escape 116 9 refl refl; utf8 = ascii_utf8 (92 ∷ 116 ∷ []) refl })
    by false e false f false g false h true i = one 13 (92 ∷ 114 ∷ []) i (record { part = escape 114 13 refl refl; utf8 = ascii_utf8 (92 ∷ 114 ∷ []) refl })
    by false e false f false g false h false i = record {
      part = itself c scalar (eqb-false c 39 f) (eqb-false c 92 e) (sym (encode_ascii c low));
      utf8 = subst IsUtf8 (encode_ascii c low) (IsUtf8-encode c scalar);
    }

-- one character between quotes
char_spells : (c : ℕ) → IsScalar c → Spells (flat_map escaped (encode_utf8 c)) c
char_spells c scalar = by (cases_lt c 128)
  where
    high : 128 ≤ c → flat_map escaped (encode_utf8 c) ≡ encode_utf8 c
    high l = all_high (encode_utf8 c) (λ k m. elim (cases_lt (get_or (encode_utf8 c) k 0) 128) [
      | inl h ↦ absurd (omega (arith, l, h, inside_one c [] (encode_utf8 c) k (sym (append-nil (encode_utf8 c))) m h))
      | inr h ↦ h
    ])

    by : (c < 128) ⊎ (128 ≤ c) → Spells (flat_map escaped (encode_utf8 c)) c
    by (inl l) = subst (λ w. Spells w c) (sym (ap (flat_map escaped) (encode_ascii c l) ∙ append-nil (escaped c))) (low_spells c l scalar)
    by (inr l) = subst (λ w. Spells w c) (sym (high l)) (record {
      part = itself c scalar (λ e. omega (arith, l, e)) (λ e. omega (arith, l, e)) refl;
      utf8 = IsUtf8-encode c scalar;
    })

-- the characters between quotes mean themselves
pub record Quotes (text : List ℕ) : Type 0 where
  pub chars : List ℕ
  pub inside : Inside 39 (flat_map escaped text) chars
  pub meant : text ≡ encode_utf8_all chars
  pub utf8 : IsUtf8 (flat_map escaped text)

all_spell : (cs : List ℕ) → all_scalars cs ≡ true → Inside 39 (flat_map escaped (encode_utf8_all cs)) cs × IsUtf8 (flat_map escaped (encode_utf8_all cs))
all_spell [] e = (empty, ascii_utf8 [] refl)
all_spell (c ∷ cs) e =
    let p = and_parts _ (all_scalars cs) e in
    let one = char_spells c p.0 in
    let others = all_spell cs p.1 in
    let parts = flat_map-append escaped (encode_utf8 c) (encode_utf8_all cs) in (
      first (flat_map escaped (encode_utf8 c)) (flat_map escaped (encode_utf8_all cs)) (c ∷ []) cs one.part others.0 parts refl,
      subst IsUtf8 (sym parts) (IsUtf8-append _ _ one.utf8 others.1),
    )

pub quotes : (text : List ℕ) → IsUtf8 text → Quotes text
quotes text u =
    let spelled = all_spell u.0 u.1.0 in record {
      chars = u.0;
      inside = subst (λ w. Inside 39 (flat_map escaped w) u.0) u.1.1 spelled.0;
      meant = sym u.1.1;
      utf8 = subst (λ w. IsUtf8 (flat_map escaped w)) u.1.1 spelled.1;
    }

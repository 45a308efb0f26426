-- What stands between quotes is read part by part, up to where no part comes first.
use Rattle.std.proofs.Common.{arith, ◌≡◌, ◌≢◌, ◌<◌, ◌≤◌, ℕ, zero, suc, List, [], ◌∷◌, ◌++◌, length, drop, refl, ap, sym, ◌∙◌, subst, Bool, true, false}
use Rattle.std.specs.Prelude.{IsUtf8, ◌&&◌, ◌||◌, ◌==◌, nat_le, if◌then◌else◌, Option, Some, None}
use Rattle.std.specs.Char.{is_ascii, is_ascii_hexdigit}
use Rattle.std.proofs.Math.Utf8.{scalar}
use Rattle.std.proofs.lemmas.Bool.{and_parts, and_from, eqb-true, eqb-false, leb-true, le-leb, true≢false}
use Rattle.std.proofs.lemmas.Bool.Decides.{nat_tests}
use Rattle.std.proofs.lemmas.List.{append_assoc, length-append}
use Rattle.ciao_tokens.specs.Quotes.{empty, first, meant_by, value_of}
use Rattle.ciao_tokens.specs.Forms.{starts}
use Rattle.ciao_tokens.specs.BadTokens.{NoPart}
use Rattle.ciao_tokens.specs.PartsRead.{IsCode, ReadsParts}
use Rattle.ciao_tokens.specs.Scanning.{run, behind_run}
use Rattle.ciao_tokens.proofs.Encodings.{utf8_tail, first_char, run_utf8}
use Rattle.ciao_tokens.proofs.OneMeaning.{part_length}
use Rattle.ciao_tokens.proofs.PartLaws.{OnePart, begins_with, nothing_left, one_itself, one_doubled, no_doubled, one_letter, no_one_letter, one_code, not_closed, no_char, no_end, one_feed}

-- an escape's letter is ASCII
letter_low : (l c : ℕ) → meant_by l ≡ Some c → l < 128
letter_low l c m = by (l == 110) refl (l == 116) refl (l == 114) refl ((l == 92 || l == 39) || l == 34) refl m
  where
    clash : None ≡ Some c → ⊥
    clash e = cc

    mark : ((l == 92 || l == 39) || l == 34) ≡ true → l < 128
    mark e = grind (arith, nat_tests)

    by : (n : Bool) → (l == 110) ≡ n → (t : Bool) → (l == 116) ≡ t → (r : Bool) → (l == 114) ≡ r → (k : Bool) → ((l == 92 || l == 39) || l == 34) ≡ k
        → (if n then Some 10 else if t then Some 9 else if r then Some 13 else if k then Some l else None) ≡ Some c → l < 128
    by true e t f r g k h i = omega (arith, eqb-true l 110 e)
    by false e true f r g k h i = omega (arith, eqb-true l 116 f)
    by false e false f true g k h i = omega (arith, eqb-true l 114 g)
    by false e false f false g true h i = mark h
    by false e false f false g false h i = absurd (clash i)

hex_ascii : (c : ℕ) → is_ascii_hexdigit c ≡ true → is_ascii c ≡ true
hex_ascii c e = grind (arith, nat_tests)

-- whether digits are the code of a character
abbrev is_code : List ℕ → Bool
is_code ds = nat_le 1 (length ds) && (nat_le (length ds) 6 && scalar (value_of 16 ds))

coded : (ds : List ℕ) → is_code ds ≡ true → IsCode ds (value_of 16 ds)
coded ds e =
    let l = and_parts (nat_le 1 (length ds)) _ e in
    let h = and_parts (nat_le (length ds) 6) _ l.1 in record { some = leb-true 1 (length ds) l.0; few = leb-true (length ds) 6 h.0; is = refl; scalar = h.1 }

not_coded : (ds : List ℕ) (c : ℕ) → is_code ds ≡ false → IsCode ds c → ⊥
not_coded ds c e is =
    true≢false (sym (and_from (nat_le 1 (length ds)) _ (le-leb 1 (length ds) is.some) (and_from (nat_le (length ds) 6) _ (le-leb (length ds) 6 is.few) (ap scalar (sym is.is) ∙ is.scalar))) ∙ e)

module _ (q : ℕ) (ascii : q < 128) (apart : q ≢ 92) where
  -- a part comes first, or none
  pub data Next (left : List ℕ) : Type 0 where
    one : (meant behind : List ℕ) → OnePart q left meant behind → IsUtf8 behind → Next left
    none : NoPart q left → Next left

  at_code : (r : List ℕ) → IsUtf8 r → Next (92 ∷ 120 ∷ r)
  at_code r u = by (starts (λ d. d == 92) behind) refl (is_code digits) refl
    where
      digits : List ℕ
      digits = run is_ascii_hexdigit r

      behind : List ℕ
      behind = behind_run is_ascii_hexdigit r

      text : IsUtf8 behind
      text = run_utf8 is_ascii_hexdigit r hex_ascii u

      by : (b : Bool) → starts (λ d. d == 92) behind ≡ b → (k : Bool) → is_code digits ≡ k → Next (92 ∷ 120 ∷ r)
      by true e true f =
          one (value_of 16 digits ∷ []) (drop 1 behind) (one_code q (value_of 16 digits) r digits behind (drop 1 behind) refl refl e (coded digits f) refl)
          (utf8_tail 92 (drop 1 behind) (omega arith) (subst IsUtf8 (begins_with 92 behind e) text))
      by true e false f = none (no_char q r digits apart refl (λ c. not_coded digits c f))
      by false e k f = none (not_closed q r behind apart refl e)

  at_letter : (l : ℕ) (r : List ℕ) → IsUtf8 (l ∷ r) → (o : Option ℕ) → meant_by l ≡ o → Next (92 ∷ l ∷ r)
  at_letter l r u (Some c) m = one (c ∷ []) r (one_letter q l c (l ∷ r) r (r, refl) m refl) (utf8_tail l r (letter_low l c m) u)
  at_letter l r u None m = by (l == 10) refl (l == 120) refl
    where
      by : (f : Bool) → (l == 10) ≡ f → (x : Bool) → (l == 120) ≡ x → Next (92 ∷ l ∷ r)
      by true f x e = one [] r (one_feed q (l ∷ r) r r (ap (λ y. y ∷ r) (eqb-true l 10 f)) refl) (utf8_tail l r (omega (arith, eqb-true l 10 f)) u)
      by false f true e = let is = eqb-true l 120 e in subst (λ y. Next (92 ∷ y ∷ r)) (sym is) (at_code r (utf8_tail l r (omega (arith, is)) u))
      by false f false e = none (no_one_letter q l (l ∷ r) apart (r, refl) (eqb-false l 120 e) (eqb-false l 10 f) m)

  at_backslash : (r : List ℕ) → IsUtf8 r → Next (92 ∷ r)
  at_backslash [] u = none (no_end q [] apart refl)
  at_backslash (l ∷ r) u = at_letter l r u (meant_by l) refl

  at_quote : (r : List ℕ) → IsUtf8 r → (b : Bool) → starts (λ c. c == q) r ≡ b → Next (q ∷ r)
  at_quote r u true e = one (q ∷ []) (drop 1 r) (one_doubled q r (drop 1 r) e refl) (utf8_tail q (drop 1 r) ascii (subst IsUtf8 (begins_with q r e) u))
  at_quote r u false e = none (no_doubled q r ascii apart e)

  pub next : (left : List ℕ) → IsUtf8 left → Next left
  next [] u = none (nothing_left q ascii apart [] refl)
  next (c ∷ cs) u = by (c == q) refl (c == 92) refl
    where
      by : (b : Bool) → (c == q) ≡ b → (x : Bool) → (c == 92) ≡ x → Next (c ∷ cs)
      by true b x y = let is = eqb-true c q b in subst (λ x. Next (x ∷ cs)) (sym is) (at_quote cs (utf8_tail c cs (omega (arith, is, ascii)) u) (starts (λ d. d == q) cs) refl)
      by false b true y = let is = eqb-true c 92 y in subst (λ x. Next (x ∷ cs)) (sym is) (at_backslash cs (utf8_tail c cs (omega (arith, is)) u))
      by false b false y = let f = first_char c cs u in one (f.char ∷ []) f.rest (one_itself q f.char (c ∷ cs) f.rest ascii b y f.split f.scalar) f.utf8

  -- all parts that come first
  pub record Parts (bytes : List ℕ) : Type 0 where
    pub meant : List ℕ
    pub left : List ℕ
    pub reads : ReadsParts q bytes meant left
    pub utf8 : IsUtf8 left

  with_part : (bytes meant behind : List ℕ) → OnePart q bytes meant behind → Parts behind → Parts bytes
  with_part bytes meant behind (part, p, e) s = record {
    meant = meant ++ s.meant;
    left = s.left;
    reads = record {
      inside = part ++ s.reads.inside;
      means = first part s.reads.inside meant s.meant p s.reads.means refl refl;
      whole = e ∙ ap (λ x. part ++ x) s.reads.whole ∙ sym (append_assoc part s.reads.inside s.left);
      no_more = s.reads.no_more;
    };
    utf8 = s.utf8;
  }

  parts_from : (bytes : List ℕ) → IsUtf8 bytes → Next bytes → ((behind : List ℕ) → length behind < length bytes → IsUtf8 behind → Parts behind) → Parts bytes
  parts_from bytes u (one meant behind (part, p, e) v) go_on = with_part bytes meant behind (part, p, e) (go_on behind (omega (arith, ap length e, length-append part behind, part_length q ascii apart p)) v)
  parts_from bytes u (none n) go_on = record { meant = []; left = bytes; reads = record { inside = []; means = empty; whole = refl; no_more = n }; utf8 = u }

  parts_within : (n : ℕ) (bytes : List ℕ) → length bytes ≤ n → IsUtf8 bytes → Parts bytes
  parts_within zero bytes l u = parts_from bytes u (next bytes u) (λ behind s v. absurd (omega (arith, l, s)))
  parts_within (suc n) bytes l u = parts_from bytes u (next bytes u) (λ behind s v. parts_within n behind (omega (arith, l, s)) v)

  pub parts : (bytes : List ℕ) → IsUtf8 bytes → Parts bytes
  parts bytes u = parts_within (length bytes) bytes (omega arith) u

-- The parts of what stands between quotes, as the code reads them.
use Rattle.std.proofs.Common.{◌≡◌, ◌≢◌, ◌<◌, ℕ, true, false, List, [], ◌∷◌, ◌++◌, length, drop, refl, sym, ap, subst, ◌∙◌, arith, append_assoc, length-append}
use Rattle.std.proofs.lemmas.Bool.{eq-eqb}
use Rattle.std.proofs.lemmas.Str.{char_from_byte, encode_ascii}
use Rattle.std.specs.Prelude.{◌==◌, Some, None, encode_utf8}
use Rattle.std.specs.List.{list_all}
use Rattle.std.specs.Char.{IsScalar, is_ascii_hexdigit}
use Rattle.ciao_tokens.specs.Quotes.{Part, itself, doubled, escape, code, continued, meant_by}
use Rattle.ciao_tokens.specs.Forms.{starts}
use Rattle.ciao_tokens.specs.PartsRead.{IsCode}
use Rattle.ciao_tokens.specs.BadTokens.{NoPart}
use Rattle.ciao_tokens.specs.Scanning.{run, behind_run}
use Rattle.ciao_tokens.proofs.Bytes.{same_head, same_tail}
use Rattle.ciao_tokens.proofs.ByteClasses.{is_eq}
use Rattle.ciao_tokens.proofs.OneMeaning.{part_length}
use Rattle.ciao_tokens.proofs.Runs.{run_is, behind_is, run_behind, run_passes}

-- this part comes first
abbrev pub OnePart : ℕ → List ℕ → List ℕ → List ℕ → Type 0
OnePart q left meant behind = (bytes : List ℕ) × Part q bytes meant × (left ≡ bytes ++ behind)

-- a text that begins with this byte
pub begins_with : (b : ℕ) (left : List ℕ) → starts (λ c. c == b) left ≡ true → left ≡ b ∷ drop 1 left
begins_with b [] e = cc
begins_with b (c ∷ cs) e = ap (λ x. x ∷ cs) (is_eq c b e)

pub begins_not : (b : ℕ) (left rest : List ℕ) → starts (λ c. c == b) left ≡ false → left ≡ b ∷ rest → ⊥
begins_not b left rest e f = let g : false ≡ true = sym e ∙ ap (starts (λ c. c == b)) f ∙ eq-eqb b b refl in cc

-- an ASCII byte that begins a character is it
first_char : (b c : ℕ) (left behind : List ℕ) → b < 128 → b ∷ left ≡ encode_utf8 c ++ behind → c ≡ b
first_char b c left behind ascii e = char_from_byte (b ∷ left) behind c e ascii (omega arith)

-- where nothing is left no part comes first
pub nothing_left : (q : ℕ) → q < 128 → q ≢ 92 → (left : List ℕ) → left ≡ [] → NoPart q left
nothing_left q ascii apart left none bytes meant behind p e = absurd (omega (arith, part_length q ascii apart p, ap length (sym none ∙ e), length-append bytes behind))

-- a character that is no quote and no backslash
pub one_itself : (q c : ℕ) (left behind : List ℕ) → q < 128 → starts (λ d. d == q) left ≡ false → starts (λ d. d == 92) left ≡ false → left ≡ encode_utf8 c ++ behind → IsScalar c → OnePart q left (c ∷ []) behind
one_itself q c left behind ascii no_quote no_escape whole scalar =
    (encode_utf8 c, itself c scalar (other q ascii no_quote) (other 92 (omega arith) no_escape) refl, whole)
  where
    other : (b : ℕ) → b < 128 → starts (λ d. d == b) left ≡ false → c ≢ b
    other b l e f = begins_not b left behind e (whole ∙ ap (λ x. encode_utf8 x ++ behind) f ∙ ap (λ w. w ++ behind) (encode_ascii b l))

-- the doubled quote
pub one_doubled : (q : ℕ) (left behind : List ℕ) → starts (λ c. c == q) left ≡ true → behind ≡ drop 1 left → OnePart q (q ∷ left) (q ∷ []) behind
one_doubled q left behind e f = (q ∷ q ∷ [], doubled refl, ap (λ w. q ∷ w) (begins_with q left e ∙ ap (λ w. q ∷ w) (sym f)))

pub no_doubled : (q : ℕ) (left : List ℕ) → q < 128 → q ≢ 92 → starts (λ c. c == q) left ≡ false → NoPart q (q ∷ left)
no_doubled q left ascii apart e bytes meant behind (itself c s nq nb f) g = nq (first_char q c left behind ascii (g ∙ ap (λ w. w ++ behind) f))
no_doubled q left ascii apart e bytes meant behind (doubled f) g = begins_not q left behind e (same_tail q q left (q ∷ behind) (g ∙ ap (λ w. w ++ behind) f))
no_doubled q left ascii apart e bytes meant behind (escape letter c m f) g = apart (same_head q 92 left (letter ∷ behind) (g ∙ ap (λ w. w ++ behind) f))
no_doubled q left ascii apart e bytes meant behind (code ds c h l k v s f) g = apart (same_head q 92 left ((120 ∷ ds ++ 92 ∷ []) ++ behind) (g ∙ ap (λ w. w ++ behind) f))
no_doubled q left ascii apart e bytes meant behind (continued f) g = apart (same_head q 92 left (10 ∷ behind) (g ∙ ap (λ w. w ++ behind) f))

-- where no escape goes on no part begins with a backslash
pub record NoEscape (left : List ℕ) : Type 0 where
  pub no_letter : (l c : ℕ) (behind : List ℕ) → meant_by l ≡ Some c → left ≡ l ∷ behind → ⊥
  pub no_code : (ds : List ℕ) (c : ℕ) (behind : List ℕ) → list_all is_ascii_hexdigit ds ≡ true → IsCode ds c → left ≡ 120 ∷ (ds ++ (92 ∷ behind)) → ⊥
  pub no_feed : (behind : List ℕ) → left ≡ 10 ∷ behind → ⊥

pub no_escape : (q : ℕ) (left : List ℕ) → q ≢ 92 → NoEscape left → NoPart q (92 ∷ left)
no_escape q left apart n bytes meant behind (itself c s nq nb f) g = nb (first_char 92 c left behind (omega arith) (g ∙ ap (λ w. w ++ behind) f))
no_escape q left apart n bytes meant behind (doubled f) g = apart (sym (same_head 92 q left (q ∷ behind) (g ∙ ap (λ w. w ++ behind) f)))
no_escape q left apart n bytes meant behind (escape letter c m f) g = n.no_letter letter c behind m (same_tail 92 92 left (letter ∷ behind) (g ∙ ap (λ w. w ++ behind) f))
no_escape q left apart n bytes meant behind (code ds c h l k v s f) g =
    n.no_code ds c behind h (record { some = l; few = k; is = v; scalar = s })
    (same_tail 92 92 left (120 ∷ ((ds ++ 92 ∷ []) ++ behind)) (g ∙ ap (λ w. w ++ behind) f) ∙ ap (λ w. 120 ∷ w) (append_assoc ds (92 ∷ []) behind))
no_escape q left apart n bytes meant behind (continued f) g = n.no_feed behind (same_tail 92 92 left (10 ∷ behind) (g ∙ ap (λ w. w ++ behind) f))

no_meaning : (l c : ℕ) → meant_by l ≡ None → meant_by l ≡ Some c → ⊥
no_meaning l c e f = let g : None ≡ Some c = sym e ∙ f in cc

-- the escape of one letter
pub no_one_letter : (q l : ℕ) (left : List ℕ) → q ≢ 92 → (behind : List ℕ) × (left ≡ l ∷ behind) → l ≢ 120 → l ≢ 10 → meant_by l ≡ None → NoPart q (92 ∷ left)
no_one_letter q l left apart (behind, whole) no_x no_ten none = no_escape q left apart (record {
  no_letter = λ k c r e f. no_meaning l c none (ap meant_by (same_head l k behind r (sym whole ∙ f)) ∙ e);
  no_code = λ ds c r h is f. no_x (same_head l 120 behind (ds ++ (92 ∷ r)) (sym whole ∙ f));
  no_feed = λ r f. no_ten (same_head l 10 behind r (sym whole ∙ f));
})

pub one_letter : (q l c : ℕ) (left behind : List ℕ) → (rest : List ℕ) × (left ≡ l ∷ rest) → meant_by l ≡ Some c → behind ≡ drop 1 left → OnePart q (92 ∷ left) (c ∷ []) behind
one_letter q l c left behind (rest, whole) m e =
    (92 ∷ l ∷ [], escape l c m refl, ap (λ w. 92 ∷ w) whole ∙ ap (λ w. 92 ∷ l ∷ w) (sym (e ∙ ap (drop 1) whole)))

-- the escape by a number
pub one_code : (q c : ℕ) (left digits rest behind : List ℕ) → digits ≡ run is_ascii_hexdigit left → rest ≡ behind_run is_ascii_hexdigit left → starts (λ d. d == 92) rest ≡ true → IsCode digits c → behind ≡ drop 1 rest →
    OnePart q (92 ∷ 120 ∷ left) (c ∷ []) behind
one_code q c left digits rest behind e f g is h = (
  92 ∷ 120 ∷ digits ++ 92 ∷ [],
  code digits c (ap (list_all is_ascii_hexdigit) e ∙ run_passes is_ascii_hexdigit left) is.some is.few is.is is.scalar refl,
  ap (λ w. 92 ∷ 120 ∷ w) (sym (run_behind is_ascii_hexdigit left) ∙ ap (λ w. w ++ behind_run is_ascii_hexdigit left) (sym e) ∙ ap (λ w. digits ++ w) (sym f ∙ begins_with 92 rest g ∙ ap (λ w. 92 ∷ w) (sym h))
      ∙ sym (append_assoc digits (92 ∷ []) behind)),
)

no_number_escape : (q : ℕ) (left : List ℕ) → q ≢ 92 →
    ((ds : List ℕ) (c : ℕ) (behind : List ℕ) → run is_ascii_hexdigit left ≡ ds → behind_run is_ascii_hexdigit left ≡ 92 ∷ behind → IsCode ds c → ⊥) → NoPart q (92 ∷ 120 ∷ left)
no_number_escape q left apart none = no_escape q (120 ∷ left) apart (record {
  no_letter = λ l c behind m e. no_meaning 120 c refl (ap meant_by (same_head 120 l left behind e) ∙ m);
  no_code = λ ds c behind h is e.
      let whole : left ≡ ds ++ (92 ∷ behind) = same_tail 120 120 left (ds ++ (92 ∷ behind)) e in
      none ds c behind (ap (run is_ascii_hexdigit) whole ∙ run_is is_ascii_hexdigit ds (92 ∷ behind) h refl) (ap (behind_run is_ascii_hexdigit) whole ∙ behind_is is_ascii_hexdigit ds (92 ∷ behind) h refl) is;
  no_feed = λ behind e. absurd (omega (arith, same_head 120 10 left behind e));
})

pub not_closed : (q : ℕ) (left rest : List ℕ) → q ≢ 92 → rest ≡ behind_run is_ascii_hexdigit left → starts (λ d. d == 92) rest ≡ false → NoPart q (92 ∷ 120 ∷ left)
not_closed q left rest apart e f = no_number_escape q left apart (λ ds c behind g h is. begins_not 92 rest behind f (e ∙ h))

pub no_char : (q : ℕ) (left digits : List ℕ) → q ≢ 92 → digits ≡ run is_ascii_hexdigit left → ((c : ℕ) → IsCode digits c → ⊥) → NoPart q (92 ∷ 120 ∷ left)
no_char q left digits apart e none = no_number_escape q left apart (λ ds c behind g h is. none c (subst (λ w. IsCode w c) (sym (e ∙ g)) is))

-- the end within an escape
pub no_end : (q : ℕ) (left : List ℕ) → q ≢ 92 → length left ≡ 0 → NoPart q (92 ∷ left)
no_end q left apart none = no_escape q left apart (record {
  no_letter = λ l c behind m e. absurd (omega (arith, none, ap length e));
  no_code = λ ds c behind h is e. absurd (omega (arith, none, ap length e));
  no_feed = λ behind e. absurd (omega (arith, none, ap length e));
})

-- a backslash at the end of a line
pub one_feed : (q : ℕ) (left behind rest : List ℕ) → left ≡ 10 ∷ rest → behind ≡ drop 1 left → OnePart q (92 ∷ left) [] behind
one_feed q left behind rest whole e = (92 ∷ 10 ∷ [], continued refl, ap (λ w. 92 ∷ w) whole ∙ ap (λ w. 92 ∷ 10 ∷ w) (sym (e ∙ ap (drop 1) whole)))

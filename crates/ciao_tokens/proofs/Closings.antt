-- What stands between quotes, read part by part.
use Rattle.std.proofs.Common.{inl, inr, ◌≡◌, ◌≢◌, ◌<◌, ℕ, true, false, List, [], ◌∷◌, ◌++◌, length, drop, refl, sym, ap, subst, ◌∙◌, arith, append_assoc, length-append}
use Rattle.std.proofs.lemmas.List.{append-nil}
use Rattle.ciao_tokens.specs.Quotes.{Part, Inside, empty, first}
use Rattle.ciao_tokens.specs.PartsRead.{ReadsParts}
use Rattle.std.proofs.lemmas.Bool.{false_from_ne_true}
use Rattle.std.specs.Prelude.{◌==◌, not, encode_utf8_all}
use Rattle.ciao_tokens.specs.Forms.{quoted, text, starts}
use Rattle.ciao_tokens.specs.Pieces.{token, IsStuck}
use Rattle.ciao_tokens.specs.BadTokens.{NoPart, IsQuote}
use Rattle.ciao_tokens.specs.declared.classes.Class.TheVariants as class
use Rattle.ciao_tokens.specs.Scanning.{Begins, IsFirst}
use Rattle.ciao_tokens.proofs.Longest.{token_first}
use Rattle.ciao_tokens.proofs.OneMeaning.{part_length}
use Rattle.ciao_tokens.proofs.QuoteLaws.{no_longer}
use Rattle.ciao_tokens.proofs.BadIsStuck.{quote_stuck}
use Rattle.ciao_tokens.proofs.WordLaws.{says, none_longer}
use Rattle.ciao_tokens.proofs.PartLaws.{OnePart, begins_with, begins_not, one_doubled}

-- with one part more at the end
pub one_more : (q : ℕ) (inside cs part meant : List ℕ) → Inside q inside cs → Part q part meant → Inside q (inside ++ part) (cs ++ meant)
one_more q inside cs part meant empty p = first part [] meant [] p empty (sym (append-nil part)) (sym (append-nil meant))
one_more q inside cs part meant (first a rest m ds p i e d) o =
    first a (rest ++ part) m (ds ++ meant) p (one_more q rest ds part meant i o) (ap (λ x. x ++ part) e ∙ append_assoc a rest part) (ap (λ x. x ++ meant) d ∙ append_assoc m ds meant)

-- the parts so far mean these characters, and this is left
pub record HasRead (q : ℕ) (whole cs left : List ℕ) : Type 0 where
  pub inside : List ℕ
  pub means : Inside q inside cs
  pub all : whole ≡ inside ++ left

pub nothing_read : (q : ℕ) (whole cs : List ℕ) → cs ≡ [] → HasRead q whole cs whole
nothing_read q whole cs e = record { inside = []; means = subst (Inside q []) (sym e) empty; all = refl }

pub read_one : (q : ℕ) (whole cs left ds meant behind : List ℕ) → HasRead q whole cs left → OnePart q left meant behind → ds ≡ cs ++ meant → HasRead q whole ds behind
read_one q whole cs left ds meant behind r (part, p, e) d = record {
  inside = r.inside ++ part;
  means = subst (Inside q (r.inside ++ part)) (sym d) (one_more q r.inside cs part meant r.means p);
  all = r.all ∙ ap (λ x. r.inside ++ x) e ∙ sym (append_assoc r.inside part behind);
}

-- what is left behind a part is shorter
pub part_shorter : (q : ℕ) (left meant behind : List ℕ) → q < 128 → q ≢ 92 → OnePart q left meant behind → length behind < length left
part_shorter q left meant behind ascii apart (part, p, e) = omega (arith, part_length q ascii apart p, ap length e, length-append part behind)

-- a quote that is closed is the longest
module _ (q : ℕ) (ascii : q < 128) (apart : q ≢ 92) where
  -- behind the closing quote stands no quote
  no_quote : (left : List ℕ) → NoPart q left → starts (λ c. c == q) left ≡ true → starts (λ c. c == q) (drop 1 left) ≡ false
  no_quote left none e = false_from_ne_true _ (λ f.
      let d = one_doubled q (drop 1 left) (drop 1 (drop 1 left)) f refl in none d.0 (q ∷ []) (drop 1 (drop 1 left)) d.1 (begins_with q left e ∙ d.2))

  no_second : (inside chars behind inside' chars' : List ℕ) (b : ℕ) (more later : List ℕ) → Inside q inside chars → Inside q inside' chars' → starts (λ c. c == q) behind ≡ false → behind ≡ b ∷ (more ++ later) →
      (inside ++ q ∷ []) ++ b ∷ more ≡ inside' ++ q ∷ [] → ⊥
  no_second inside chars behind inside' chars' b more later i i' none e f =
      let l = no_longer q ascii apart i i' (b ∷ (more ++ later)) later
      (sym (append_assoc inside (q ∷ []) (b ∷ (more ++ later))) ∙ sym (append_assoc (inside ++ q ∷ []) (b ∷ more) later) ∙ ap (λ w. w ++ later) f ∙ append_assoc inside' (q ∷ []) later)
      (λ g. let h : false ≡ true = sym none ∙ ap (starts (λ c. c == q)) e ∙ g in cc) in
      omega (arith, l, ap length f, length-append (inside ++ q ∷ []) (b ∷ more), length-append inside (q ∷ []), length-append inside' (q ∷ []))

  whole_item : (cs inside left : List ℕ) → cs ≡ inside ++ left → starts (λ c. c == q) left ≡ true → q ∷ cs ≡ (q ∷ inside ++ q ∷ []) ++ drop 1 left
  whole_item cs inside left e f = ap (λ w. q ∷ w) (e ∙ ap (λ w. inside ++ w) (begins_with q left f) ∙ sym (append_assoc inside (q ∷ []) (drop 1 left)))

closed_name : (cs chars left : List ℕ) → ReadsParts 39 cs chars left → starts (λ c. c == 39) left ≡ true → (n : ℕ) × IsFirst (token n (quoted (encode_utf8_all chars))) (39 ∷ cs) (drop 1 left)
closed_name cs chars left r e =
    let none = no_quote 39 (omega arith) (λ f. omega (arith, f)) left r.no_more e in (
      _,
      token_first (quoted (encode_utf8_all chars)) (39 ∷ r.inside ++ 39 ∷ []) (drop 1 left) (39 ∷ cs) (whole_item 39 (omega arith) (λ f. omega (arith, f)) cs r.inside left r.whole e)
          (r.inside, chars, refl, r.means, refl)
          (none_longer class.Quote 39 (r.inside ++ 39 ∷ []) (drop 1 left) refl
          (λ s b more later behind t. no_second 39 (omega arith) (λ f. omega (arith, f)) r.inside chars (drop 1 left) t.1 t.2 b more later r.means t.5 none behind t.4)
          (λ b more later behind t. t))
          (ap not none),
    )

closed_text : (cs chars left : List ℕ) → ReadsParts 34 cs chars left → starts (λ c. c == 34) left ≡ true → (n : ℕ) × IsFirst (token n (text chars)) (34 ∷ cs) (drop 1 left)
closed_text cs chars left r e =
    let none = no_quote 34 (omega arith) (λ f. omega (arith, f)) left r.no_more e in (
      _,
      token_first (text chars) (34 ∷ r.inside ++ 34 ∷ []) (drop 1 left) (34 ∷ cs) (whole_item 34 (omega arith) (λ f. omega (arith, f)) cs r.inside left r.whole e)
          (r.inside, refl, r.means)
          (none_longer class.DoubleQuote 34 (r.inside ++ 34 ∷ []) (drop 1 left) refl
          (λ s b more later behind t. no_second 34 (omega arith) (λ f. omega (arith, f)) r.inside chars (drop 1 left) t.0 t.1 b more later r.means t.4 none behind t.3)
          (λ b more later behind t. t))
          (ap not none),
    )

open_quote : (q : ℕ) → IsQuote q → (cs chars left : List ℕ) → ReadsParts q cs chars left → starts (λ c. c == q) left ≡ false → IsStuck (q ∷ cs)
open_quote q is cs chars left r e = quote_stuck q is r.inside chars left cs r.means r.no_more (λ t f. begins_not q left t e f) r.whole

-- for the code

pub name_closed : (whole inside chars left word behind : List ℕ) → Begins class.Quote whole → inside ≡ drop 1 whole → ReadsParts 39 inside chars left → starts (λ c. c == 39) left ≡ true →
    word ≡ encode_utf8_all chars → behind ≡ drop 1 left → (n : ℕ) × IsFirst (token n (quoted word)) whole behind
name_closed [] inside chars left word behind b e r f g h = absurd b
name_closed (c ∷ cs) inside chars left word behind b e r f g h =
    subst (λ w. (n : ℕ) × IsFirst (token n (quoted w)) (c ∷ cs) behind) (sym g)
    (subst (λ x. (n : ℕ) × IsFirst (token n (quoted (encode_utf8_all chars))) (c ∷ cs) x) (sym h)
    (subst (λ x. (n : ℕ) × IsFirst (token n (quoted (encode_utf8_all chars))) (x ∷ cs) (drop 1 left)) (sym (says c class.Quote b))
    (closed_name cs chars left (subst (λ w. ReadsParts 39 w chars left) e r) f)))

pub text_closed : (whole inside chars left codes behind : List ℕ) → Begins class.DoubleQuote whole → inside ≡ drop 1 whole → ReadsParts 34 inside chars left → starts (λ c. c == 34) left ≡ true →
    codes ≡ chars → behind ≡ drop 1 left → (n : ℕ) × IsFirst (token n (text codes)) whole behind
text_closed [] inside chars left codes behind b e r f g h = absurd b
text_closed (c ∷ cs) inside chars left codes behind b e r f g h =
    subst (λ w. (n : ℕ) × IsFirst (token n (text w)) (c ∷ cs) behind) (sym g)
    (subst (λ x. (n : ℕ) × IsFirst (token n (text chars)) (c ∷ cs) x) (sym h)
    (subst (λ x. (n : ℕ) × IsFirst (token n (text chars)) (x ∷ cs) (drop 1 left)) (sym (says c class.DoubleQuote b))
    (closed_text cs chars left (subst (λ w. ReadsParts 34 w chars left) e r) f)))

pub name_open : (whole inside chars left : List ℕ) → Begins class.Quote whole → inside ≡ drop 1 whole → ReadsParts 39 inside chars left → starts (λ c. c == 39) left ≡ false → IsStuck whole
name_open [] inside chars left b e r f = absurd b
name_open (c ∷ cs) inside chars left b e r f =
    subst (λ x. IsStuck (x ∷ cs)) (sym (says c class.Quote b)) (open_quote 39 (inl refl) cs chars left (subst (λ w. ReadsParts 39 w chars left) e r) f)

pub text_open : (whole inside chars left : List ℕ) → Begins class.DoubleQuote whole → inside ≡ drop 1 whole → ReadsParts 34 inside chars left → starts (λ c. c == 34) left ≡ false → IsStuck whole
text_open [] inside chars left b e r f = absurd b
text_open (c ∷ cs) inside chars left b e r f =
    subst (λ x. IsStuck (x ∷ cs)) (sym (says c class.DoubleQuote b)) (open_quote 34 (inr refl) cs chars left (subst (λ w. ReadsParts 34 w chars left) e r) f)

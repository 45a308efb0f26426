-- Where what stands between quotes ends, and where it cannot.
use Rattle.std.proofs.Common.{arith, ◌≡◌, ◌≢◌, ◌<◌, ◌≤◌, ℕ, List, ◌∷◌, ◌++◌, length, refl, ap, sym, ◌∙◌, true}
use Rattle.std.specs.Prelude.{◌==◌, get_or}
use Rattle.std.proofs.lemmas.Bool.{eq-eqb}
use Rattle.std.proofs.lemmas.List.{append_assoc, length-append}
use Rattle.ciao_tokens.specs.Quotes.{Part, itself, doubled, escape, code, continued, Inside, empty, first}
use Rattle.ciao_tokens.specs.Forms.{starts}
use Rattle.ciao_tokens.specs.BadTokens.{NoPart}
use Rattle.ciao_tokens.proofs.Bytes.{same_head, same_tail}
use Rattle.ciao_tokens.proofs.OneMeaning.{not_byte, one_part}

module _ (q : ℕ) (ascii : q < 128) (apart : q ≢ 92) where
  -- the quote comes first
  abbrev pub StartsQuote : List ℕ → Type 0
  StartsQuote bytes = starts (λ c. c == q) bytes ≡ true

  -- a part that begins with the quote is the doubled one
  pub is_doubled : {a m : List ℕ} → Part q a m → (x r : List ℕ) → a ++ x ≡ q ∷ r → StartsQuote r
  is_doubled (itself c s nq nb e) x r w = absurd (not_byte q ascii apart c q x ascii nq (ap (λ b. get_or (b ++ x) 0 0) (sym e) ∙ ap (λ b. get_or b 0 0) w))
  is_doubled (doubled e) x r w = ap (starts (λ c. c == q)) (sym (same_tail q q (q ∷ x) r (ap (λ b. b ++ x) (sym e) ∙ w))) ∙ eq-eqb q q refl
  is_doubled (escape l c m e) x r w = absurd (apart (sym (same_head 92 q (l ∷ x) r (ap (λ b. b ++ x) (sym e) ∙ w))))
  is_doubled (code ds c h lo hi v s e) x r w = absurd (apart (sym (same_head 92 q _ r (ap (λ b. b ++ x) (sym e) ∙ w))))
  is_doubled (continued e) x r w = absurd (apart (sym (same_head 92 q (10 ∷ x) r (ap (λ b. b ++ x) (sym e) ∙ w))))

  -- what is closed before another byte than the quote is the longest that is closed
  pub no_longer : {a b m n : List ℕ} → Inside q a m → Inside q b n → (r s : List ℕ) → a ++ (q ∷ r) ≡ b ++ (q ∷ s) → (StartsQuote r → ⊥) → length b ≤ length a
  no_longer empty empty r s w none = omega arith
  no_longer empty (first part rest meant ds p i e d) r s w none = absurd (none (is_doubled p (rest ++ (q ∷ s)) r (sym (w ∙ ap (λ x. x ++ (q ∷ s)) e ∙ append_assoc part rest (q ∷ s)))))
  no_longer (first part rest meant ds p i e d) empty r s w none = omega arith
  no_longer (first part rest meant ds p i e d) (first part' rest' meant' ds' p' i' e' d') r s w none =
      let x = rest ++ (q ∷ r) in
      let y = rest' ++ (q ∷ s) in
      let same : part ++ x ≡ part' ++ y = sym (append_assoc part rest (q ∷ r)) ∙ ap (λ z. z ++ (q ∷ r)) (sym e) ∙ w ∙ ap (λ z. z ++ (q ∷ s)) e' ∙ append_assoc part' rest' (q ∷ s) in
      let behind = (one_part q ascii apart p p' x y same).0 in
      omega (arith, no_longer i i' r s behind none, ap length same, ap length behind, ap length e, ap length e', length-append part x, length-append part' y, length-append part rest, length-append part' rest')

  -- where no part goes on and no quote closes, each closing quote before is one of two
  pub only_doubled : {a b m n : List ℕ} → Inside q a m → Inside q b n → (r s : List ℕ) → a ++ r ≡ b ++ (q ∷ s) → NoPart q r → ((t : List ℕ) → r ≡ q ∷ t → ⊥) → StartsQuote s
  only_doubled empty empty r s w none unclosed = absurd (unclosed s w)
  only_doubled empty (first part rest meant ds p i e d) r s w none unclosed = absurd (none part meant (rest ++ (q ∷ s)) p (w ∙ ap (λ x. x ++ (q ∷ s)) e ∙ append_assoc part rest (q ∷ s)))
  only_doubled (first part rest meant ds p i e d) empty r s w none unclosed = is_doubled p (rest ++ r) s (sym (append_assoc part rest r) ∙ ap (λ z. z ++ r) (sym e) ∙ w)
  only_doubled (first part rest meant ds p i e d) (first part' rest' meant' ds' p' i' e' d') r s w none unclosed =
      let x = rest ++ r in
      let y = rest' ++ (q ∷ s) in
      let same : part ++ x ≡ part' ++ y = sym (append_assoc part rest r) ∙ ap (λ z. z ++ r) (sym e) ∙ w ∙ ap (λ z. z ++ (q ∷ s)) e' ∙ append_assoc part' rest' (q ∷ s) in
      only_doubled i i' r s (one_part q ascii apart p p' x y same).0 none unclosed

-- The first piece of a text from its bytes and those behind them, and where there is none.
use Rattle.std.proofs.Common.{◌≡◌, ◌≢◌, ◌<◌, ◌≤◌, inl, inr, ℕ, zero, suc, true, List, [], ◌∷◌, ◌++◌, length, take, drop, refl, sym, ap, subst, ◌∙◌, arith, length-append}
use Rattle.std.proofs.lemmas.Bool.{cases_order}
use Rattle.std.proofs.lemmas.List.{take-append-drop}
use Rattle.ciao_tokens.specs.Layout.{is_layout}
use Rattle.ciao_tokens.specs.Forms.{Shape, Form, stands}
use Rattle.ciao_tokens.specs.Pieces.{Fits, IsLongest, Piece, layout, token, IsPiece, IsStuck}
use Rattle.ciao_tokens.specs.Scanning.{IsFirst}
use Rattle.ciao_tokens.proofs.Sorts.{no_empty}

-- no layout and no token goes on from these bytes into those behind them
abbrev pub NoLonger : List ℕ → List ℕ → Type 0
NoLonger word behind = (b : ℕ) (more later : List ℕ) → behind ≡ b ∷ (more ++ later) → Fits (word ++ b ∷ more) → ⊥

-- a longer front goes on into what stands behind
record Longer (word behind : List ℕ) (m : ℕ) : Type 0 where
  next : ℕ
  more : List ℕ
  later : List ℕ
  behind_is : behind ≡ next ∷ (more ++ later)
  front_is : take m (word ++ behind) ≡ word ++ next ∷ more

longer : (word behind : List ℕ) (m : ℕ) → length word < m → m ≤ length (word ++ behind) → Longer word behind m
longer [] [] m l h = absurd (omega (arith, l, h))
longer [] (b ∷ bs) zero l h = absurd (omega (arith, l))
longer [] (b ∷ bs) (suc k) l h = record { next = b; more = take k bs; later = drop k bs; behind_is = ap (λ xs. b ∷ xs) (sym (take-append-drop k bs)); front_is = refl }
longer (w ∷ ws) behind zero l h = absurd (omega (arith, l))
longer (w ∷ ws) behind (suc k) l h =
    let r = longer ws behind k (omega (arith, l)) (omega (arith, h)) in
    record { next = r.next; more = r.more; later = r.later; behind_is = r.behind_is; front_is = ap (λ xs. w ∷ xs) r.front_is }

pub is_longest : (word behind : List ℕ) → NoLonger word behind → IsLongest (length word) (word ++ behind)
is_longest word behind none m l h f =
    let r = longer word behind m l h in none r.next r.more r.later r.behind_is (subst Fits r.front_is f)

pub take_word : (word behind : List ℕ) → take (length word) (word ++ behind) ≡ word
take_word [] behind = refl
take_word (w ∷ ws) behind = ap (λ xs. w ∷ xs) (take_word ws behind)

pub drop_word : (word behind : List ℕ) → drop (length word) (word ++ behind) ≡ behind
drop_word [] behind = refl
drop_word (w ∷ ws) behind = drop_word ws behind

pub word_within : (word behind : List ℕ) → length word ≤ length (word ++ behind)
word_within word behind = omega (arith, length-append word behind)

-- a token that may stand there and does not go on is the first piece
token_here : (s : Shape) (word behind : List ℕ) → Form s word → NoLonger word behind → stands s word behind ≡ true → IsFirst (token (length word) s) (word ++ behind) behind
token_here s word behind form none may = record {
  piece = (
    word_within word behind,
    subst (Form s) (sym (take_word word behind)) form,
    is_longest word behind none,
    ap (λ w. stands s w (drop (length word) (word ++ behind))) (take_word word behind) ∙ ap (stands s word) (drop_word word behind) ∙ may,
  );
  rest = sym (drop_word word behind);
}

pub token_first : (s : Shape) (word behind left : List ℕ) → left ≡ word ++ behind → Form s word → NoLonger word behind → stands s word behind ≡ true → IsFirst (token (length word) s) left behind
token_first s word behind left whole form none may = subst (λ t. IsFirst (token (length word) s) t behind) (sym whole) (token_here s word behind form none may)

-- layout that does not go on is the first piece
pub layout_first : (word behind left : List ℕ) → left ≡ word ++ behind → is_layout word ≡ true → NoLonger word behind → IsFirst (layout (length word)) left behind
layout_first word behind left whole is none = subst (λ t. IsFirst (layout (length word)) t behind) (sym whole) (record {
  piece = (word_within word behind, ap is_layout (take_word word behind) ∙ is, is_longest word behind none);
  rest = sym (drop_word word behind);
})

-- nothing that begins with the first byte may stand there
pub stuck_any : (c : ℕ) (cs : List ℕ) →
    ((s : Shape) (xs behind : List ℕ) → cs ≡ xs ++ behind → Form s (c ∷ xs) → stands s (c ∷ xs) behind ≡ true → ⊥) →
    ((xs behind : List ℕ) → cs ≡ xs ++ behind → is_layout (c ∷ xs) ≡ true → ⊥) → IsStuck (c ∷ cs)
stuck_any c cs no_token no_layout = (λ e. cc, none)
  where
    none : (p : Piece) → IsPiece p (c ∷ cs) → ⊥
    none (layout zero) p = let e = p.1 in cc
    none (layout (suc k)) p = no_layout (take k cs) (drop k cs) (sym (take-append-drop k cs)) p.1
    none (token zero s) p = no_empty s p.1
    none (token (suc k) s) p = no_token s (take k cs) (drop k cs) (sym (take-append-drop k cs)) p.1 p.3

-- what fits and does not go on is the only thing that could stand there
pub stuck_front : (word behind left : List ℕ) → left ≡ word ++ behind → left ≢ [] → Fits word → NoLonger word behind →
    ((s : Shape) → Form s word → stands s word behind ≡ true → ⊥) → (is_layout word ≡ true → ⊥) → IsStuck left
stuck_front word behind left whole some fits none no_token no_layout = (some, λ p is. at p (subst (IsPiece p) whole is))
  where
    one_size : (n : ℕ) → n ≤ length (word ++ behind) → IsLongest n (word ++ behind) → Fits (take n (word ++ behind)) → n ≡ length word
    one_size n within longest is = elim (cases_order n (length word)) [
      | inl e ↦ e
      | inr (inl l) ↦ absurd (longest (length word) l (word_within word behind) (subst Fits (sym (take_word word behind)) fits))
      | inr (inr l) ↦ absurd (is_longest word behind none n l within is)
    ]

    at : (p : Piece) → IsPiece p (word ++ behind) → ⊥
    at (layout n) p =
        let e = one_size n p.0 p.2 (inl p.1) in
        no_layout (sym (ap is_layout (ap (λ k. take k (word ++ behind)) e ∙ take_word word behind)) ∙ p.1)
    at (token n s) p =
        let e = one_size n p.0 p.2 (inr (s, p.1)) in
        let t : take n (word ++ behind) ≡ word = ap (λ k. take k (word ++ behind)) e ∙ take_word word behind in
        let d : drop n (word ++ behind) ≡ behind = ap (λ k. drop k (word ++ behind)) e ∙ drop_word word behind in
        no_token s (subst (Form s) t p.1) (sym (ap (λ w. stands s w (drop n (word ++ behind))) t ∙ ap (stands s word) d) ∙ p.3)

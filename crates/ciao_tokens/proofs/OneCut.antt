-- A text has one list of pieces.
use Rattle.std.proofs.Common.{◌≡◌, ◌<◌, ◌≤◌, ◌⊎◌, inl, inr, ℕ, List, [], ◌∷◌, length, take, drop, refl, ap, sym, ◌∙◌, subst, true}
use Rattle.std.proofs.Math.Seq.{take-nil}
use Rattle.std.proofs.lemmas.Bool.{cases_order, true≢false}
use Rattle.ciao_tokens.specs.Layout.{is_layout}
use Rattle.ciao_tokens.specs.Forms.{Shape, Form}
use Rattle.ciao_tokens.specs.Pieces.{Fits, IsLongest, Piece, layout, token, size, IsPiece, CutTo, Cut}
use Rattle.ciao_tokens.specs.Tokens.{IsInRange, AreInRange}
use Rattle.ciao_tokens.proofs.Sorts.{no_empty}
use Rattle.ciao_tokens.proofs.OneForm.{one_shape, no_layout}

pub one_size : (n m : ℕ) (left : List ℕ) → n ≤ length left → m ≤ length left → IsLongest n left → IsLongest m left → Fits (take n left) → Fits (take m left) → n ≡ m
one_size n m left nl ml ln lm fn fm = by (cases_order n m)
  where
    by : (n ≡ m) ⊎ ((n < m) ⊎ (m < n)) → n ≡ m
    by (inl e) = e
    by (inr (inl l)) = absurd (ln m l ml fm)
    by (inr (inr l)) = absurd (lm n l nl fn)

same_token : (n m : ℕ) (s u : Shape) (left : List ℕ) → n ≡ m → Form s (take n left) → Form u (take m left) → token n s ≡ token m u
same_token n m s u left e f g = ap (λ k. token k s) e ∙ ap (token m) (one_shape (take m left) s u (subst (λ k. Form s (take k left)) e f) g)

-- one piece stands at the front
pub one_piece : (p q : Piece) (left : List ℕ) → IsPiece p left → IsPiece q left → p ≡ q
one_piece (layout n) (layout m) left a b = ap layout (one_size n m left a.0 b.0 a.2 b.2 (inl a.1) (inl b.1))
one_piece (layout n) (token m u) left a b =
    let e = one_size n m left a.0 b.0 a.2 b.2 (inl a.1) (inr (u, b.1)) in absurd (no_layout (take m left) u (subst (λ k. is_layout (take k left) ≡ true) e a.1) b.1)
one_piece (token n s) (layout m) left a b =
    let e = one_size n m left a.0 b.0 a.2 b.2 (inr (s, a.1)) (inl b.1) in absurd (no_layout (take n left) s (subst (λ k. is_layout (take k left) ≡ true) (sym e) b.1) a.1)
one_piece (token n s) (token m u) left a b = same_token n m s u left (one_size n m left a.0 b.0 a.2 b.2 (inr (s, a.1)) (inr (u, b.1))) a.1 b.1

-- none stands at the end
pub no_piece : (p : Piece) → IsPiece p [] → ⊥
no_piece (layout n) a = true≢false (sym a.1 ∙ ap is_layout (take-nil n))
no_piece (token n s) a = no_empty s (subst (Form s) (take-nil n) a.1)

pub one_cut : (bytes : List ℕ) (ps qs : List Piece) → Cut ps bytes → Cut qs bytes → ps ≡ qs
one_cut bytes [] [] a b = refl
one_cut bytes [] (q ∷ qs) a b = absurd (no_piece q (subst (IsPiece q) a b.0))
one_cut bytes (p ∷ ps) [] a b = absurd (no_piece p (subst (IsPiece p) b a.0))
one_cut bytes (p ∷ ps) (q ∷ qs) a b =
    let e = one_piece p q bytes a.0 b.0 in
    ap (λ x. x ∷ ps) e ∙ ap (λ xs. q ∷ xs) (one_cut (drop (size q) bytes) ps qs (subst (λ x. Cut ps (drop (size x) bytes)) e a.1) b.1)

-- no piece in range stands at the front
abbrev pub Stops : List ℕ → Type 0
Stops left = (p : Piece) → IsPiece p left → IsInRange p → ⊥

-- pieces in range lead to one place where none goes on
pub one_stop : (l k bytes : List ℕ) (ps qs : List Piece) → Stops l → Stops k → CutTo l ps bytes → CutTo k qs bytes → AreInRange ps → AreInRange qs → (ps ≡ qs) × (l ≡ k)
one_stop l k bytes [] [] s t a b r o = (refl, sym a ∙ b)
one_stop l k bytes [] (q ∷ qs) s t a b r o = absurd (s q (subst (IsPiece q) a b.0) o.0)
one_stop l k bytes (p ∷ ps) [] s t a b r o = absurd (t p (subst (IsPiece p) b a.0) r.0)
one_stop l k bytes (p ∷ ps) (q ∷ qs) s t a b r o =
    let e = one_piece p q bytes a.0 b.0 in
    let i = one_stop l k (drop (size q) bytes) ps qs s t (subst (λ x. CutTo l ps (drop (size x) bytes)) e a.1) b.1 r.1 o.1 in
    (ap (λ x. x ∷ ps) e ∙ ap (λ xs. q ∷ xs) i.0, i.1)

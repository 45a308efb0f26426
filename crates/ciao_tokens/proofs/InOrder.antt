-- The tokens of a text stand in order, in the lines that the line feeds give.
use Rattle.std.proofs.Common.{arith, ◌≡◌, ◌<◌, ◌≤◌, ℕ, List, [], ◌∷◌, ◌++◌, length, take, drop, refl, ap, sym, ◌∙◌, subst, Bool, true, false}
use Rattle.std.specs.Prelude.{◌+◌, ◌==◌, not, if◌then◌else◌}
use Rattle.std.proofs.lemmas.Bool.{and_parts, eqb-true, eq-eqb, not_from_false, not_from_true, false_from_ne_true, true≢false}
use Rattle.std.proofs.lemmas.List.{append_assoc, length-append, length-take-le, take_at, take-append-drop}
use Rattle.ciao_tokens.specs.Forms.{Shape}
use Rattle.ciao_tokens.specs.Pieces.{Piece, layout, token, size, IsPiece, Cut}
use Rattle.ciao_tokens.specs.Tokens.{At, line_feeds, behind, tokens_from, has_mark, without_mark, start_of}
use Rattle.ciao_tokens.specs.Laws.{AreInOrder, InOrder}
use Rattle.ciao_tokens.proofs.EveryText.{some_size}

feeds_of_both : (xs ys : List ℕ) → line_feeds (xs ++ ys) ≡ line_feeds xs + line_feeds ys
feeds_of_both [] ys = omega arith
feeds_of_both (c ∷ cs) ys = by (c == 10) (feeds_of_both cs ys)
  where
    by : (b : Bool) → line_feeds (cs ++ ys) ≡ line_feeds cs + line_feeds ys → (if b then line_feeds (cs ++ ys) + 1 else line_feeds (cs ++ ys)) ≡ (if b then line_feeds cs + 1 else line_feeds cs) + line_feeds ys
    by true e = omega (arith, e)
    by false e = e

-- a place behind some bytes of a text, with the last token before it
record Stand (bytes done left : List ℕ) (at : At) (end : ℕ) : Type 0 where
  whole : bytes ≡ done ++ left
  place : at.place ≡ length done
  line : at.line ≡ line_feeds done + 1
  before : end ≤ at.place
  gap : at.is_behind_layout ≡ not (end == at.place)

not_equal : (n m : ℕ) → n < m → true ≡ not (n == m)
not_equal n m l = sym (not_from_false (n == m) (false_from_ne_true (n == m) (λ e. omega (arith, l, eqb-true n m e))))

equal : (n : ℕ) → false ≡ not (n == n)
equal n = sym (not_from_true (n == n) (eq-eqb n n refl))

fits : (p : Piece) (left : List ℕ) → IsPiece p left → size p ≤ length left
fits (layout n) left a = a.0
fits (token n s) left a = a.0

module _ (bytes done left : List ℕ) (at : At) (end : ℕ) (s : Stand bytes done left at end) (p : Piece) (is : IsPiece p left) where
  abbrev front : List ℕ
  front = take (size p) left

  whole_behind : bytes ≡ (done ++ front) ++ drop (size p) left
  whole_behind = s.whole ∙ ap (λ x. done ++ x) (sym (take-append-drop (size p) left)) ∙ sym (append_assoc done front (drop (size p) left))

  place_behind : at.place + size p ≡ length (done ++ front)
  place_behind = omega (arith, s.place, length-append done front, length-take-le (size p) left (fits p left is))

  line_behind : at.line + line_feeds front ≡ line_feeds (done ++ front) + 1
  line_behind = omega (arith, s.line, feeds_of_both done front)

behind_layout : (bytes done left : List ℕ) (at : At) (end n : ℕ) → Stand bytes done left at end → IsPiece (layout n) left → Stand bytes (done ++ take n left) (drop n left) (behind at (layout n) left) end
behind_layout bytes done left at end n s is = record {
  whole = whole_behind bytes done left at end s (layout n) is;
  place = place_behind bytes done left at end s (layout n) is;
  line = line_behind bytes done left at end s (layout n) is;
  before = omega (arith, s.before);
  gap = not_equal end (at.place + n) (omega (arith, s.before, some_size (layout n) left is));
}

behind_token : (bytes done left : List ℕ) (at : At) (end n : ℕ) (sh : Shape) → Stand bytes done left at end → IsPiece (token n sh) left → Stand bytes (done ++ take n left) (drop n left) (behind at (token n sh) left) (at.place + n)
behind_token bytes done left at end n sh s is = record {
  whole = whole_behind bytes done left at end s (token n sh) is;
  place = place_behind bytes done left at end s (token n sh) is;
  line = line_behind bytes done left at end s (token n sh) is;
  before = omega arith;
  gap = equal (at.place + n);
}

ordered : (names : List (List ℕ)) (bytes done left : List ℕ) (at : At) (end : ℕ) (ps : List Piece) → Stand bytes done left at end → Cut ps left → AreInOrder bytes end (tokens_from names at ps left)
ordered names bytes done left at end [] s c = omega (arith, s.before, s.place, ap length s.whole, length-append done left)
ordered names bytes done left at end (layout n ∷ ps) s c = ordered names bytes (done ++ take n left) (drop n left) (behind at (layout n) left) end ps (behind_layout bytes done left at end n s c.0) c.1
ordered names bytes done left at end (token n sh ∷ ps) s c = (
  s.before,
  omega (arith, some_size (token n sh) left c.0),
  s.gap,
  s.line ∙ ap (λ x. line_feeds x + 1) (sym (ap (take at.place) s.whole ∙ take_at done left at.place (sym s.place))),
  ordered names bytes (done ++ take n left) (drop n left) (behind at (token n sh) left) (at.place + n) ps (behind_token bytes done left at end n sh s c.0) c.1,
)

-- the mark at the start has no line feed
mark_feeds : (bytes : List ℕ) → has_mark bytes ≡ true → (line_feeds (take 3 bytes) ≡ 0) × (length (take 3 bytes) ≡ 3)
mark_feeds [] e = absurd (true≢false (sym e))
mark_feeds (a ∷ []) e = absurd (true≢false (sym e))
mark_feeds (a ∷ b ∷ []) e = absurd (true≢false (sym e))
mark_feeds (a ∷ b ∷ c ∷ cs) e =
    let p = and_parts (a == 0xEF) _ e in
    let q = and_parts (b == 0xBB) _ p.1 in
    let is : a ∷ b ∷ c ∷ [] ≡ 0xEF ∷ 0xBB ∷ 0xBF ∷ [] = ap (λ x. x ∷ b ∷ c ∷ []) (eqb-true a 0xEF p.0) ∙ ap (λ x. 0xEF ∷ x ∷ c ∷ []) (eqb-true b 0xBB q.0) ∙ ap (λ x. 0xEF ∷ 0xBB ∷ x ∷ []) (eqb-true c 0xBF q.1) in
    (ap line_feeds is, refl)

start : (bytes : List ℕ) (b : Bool) → has_mark bytes ≡ b → Stand bytes (if b then take 3 bytes else []) (if b then drop 3 bytes else bytes) (record { line = 1; place = if b then 3 else 0; is_behind_name = false; is_behind_layout = b }) 0
start bytes true e = let m = mark_feeds bytes e in record { whole = sym (take-append-drop 3 bytes); place = sym m.1; line = omega (arith, m.0); before = omega arith; gap = refl }
start bytes false e = record { whole = refl; place = refl; line = refl; before = omega arith; gap = refl }

pub in_order : (bytes : List ℕ) → InOrder bytes
in_order bytes before after ts h =
    subst (AreInOrder bytes 0) (sym h.are) (ordered after bytes (if has_mark bytes then take 3 bytes else []) (without_mark bytes) (start_of bytes) 0 h.pieces (start bytes (has_mark bytes) refl) h.cut)

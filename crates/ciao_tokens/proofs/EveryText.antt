-- Each text has tokens or a fault, and no token begins exactly in the six ways.
use Rattle.std.proofs.Common.{arith, ◌≡◌, ◌≢◌, ◌<◌, ◌≤◌, ◌⊎◌, inl, inr, ℕ, zero, suc, List, [], ◌∷◌, ◌++◌, length, take, drop, refl, ap, sym, ◌∙◌, subst, Bool, true, false}
use Rattle.std.specs.Prelude.{IsUtf8, ◌^◌, ◌+◌, ◌==◌, encode_utf8, if◌then◌else◌}
use Rattle.std.specs.Str.{IsValidUpTo, is_utf8}
use Rattle.std.proofs.Math.Utf8.{encode}
use Rattle.std.proofs.lemmas.Bool.{and_parts, cases_lt, eqb-true, true≢false}
use Rattle.std.proofs.lemmas.List.{length-drop, take_all}
use Rattle.std.proofs.lemmas.Str.{IsUtf8-nil, IsUtf8-from_is_utf8, is_utf8-from_IsUtf8, encode_same}
use Rattle.ciao_tokens.specs.Forms.{name, quoted, variable, number, text, mark, stop}
use Rattle.ciao_tokens.specs.Pieces.{Piece, layout, token, size, IsPiece, CutTo, IsStuck}
use Rattle.ciao_tokens.specs.Tokens.{IsInRange, AreInRange, HasTokens, names_with, tokens_from, start_of, behind_all, line_feeds, has_mark, without_mark}
use Rattle.ciao_tokens.specs.Faults.{IsTooLarge, HasFault}
use Rattle.ciao_tokens.specs.BadTokens.{IsBad}
use Rattle.ciao_tokens.specs.Laws.{EveryText, SixWays}
use Rattle.ciao_tokens.specs.declared.kinds.Token.{Token}
use Rattle.ciao_tokens.specs.declared.kinds.TextFault.{TextFault}
use Rattle.ciao_tokens.specs.declared.kinds.TextFault.TheVariants.{NotUtf8, BadToken, IntRange}
use Rattle.ciao_tokens.proofs.Sorts.{no_empty}
use Rattle.ciao_tokens.proofs.OneCut.{one_piece, no_piece}
use Rattle.ciao_tokens.proofs.BadIsStuck.{bad_is_stuck}
use Rattle.ciao_tokens.proofs.Encodings.{first_char}
use Rattle.ciao_tokens.proofs.Found.{Found, piece, bad}
use Rattle.ciao_tokens.proofs.EveryPlace.{found}

-- what is left of a text is a text

at_place : (left : List ℕ) → left ≢ [] → IsUtf8 left → Found left
at_place [] some u = absurd (some refl)
at_place (c ∷ cs) some u = found c cs u

behind_piece : (p : Piece) (left : List ℕ) → IsPiece p left → IsUtf8 left → IsUtf8 (drop (size p) left)
behind_piece p [] a u = absurd (no_piece p a)
behind_piece p (c ∷ cs) a u = by (found c cs u)
  where
    by : Found (c ∷ cs) → IsUtf8 (drop (size p) (c ∷ cs))
    by (piece q b v) = subst (λ x. IsUtf8 (drop (size x) (c ∷ cs))) (one_piece q p (c ∷ cs) b a) v
    by (bad b) = absurd ((bad_is_stuck (c ∷ cs) b).1 p a)

left_utf8 : (left bytes : List ℕ) (ps : List Piece) → CutTo left ps bytes → IsUtf8 bytes → IsUtf8 left
left_utf8 left bytes [] c u = subst IsUtf8 c u
left_utf8 left bytes (p ∷ ps) c u = left_utf8 left (drop (size p) bytes) ps c.1 (behind_piece p bytes c.0 u)

mark_is : encode 0xFEFF ≡ 0xEF ∷ 0xBB ∷ 0xBF ∷ []
unfolding encode
mark_is = refl

marked : (bytes : List ℕ) → has_mark bytes ≡ true → IsUtf8 bytes → IsUtf8 (drop 3 bytes)
marked [] e u = u
marked (a ∷ []) e u = absurd (true≢false (sym e))
marked (a ∷ b ∷ []) e u = absurd (true≢false (sym e))
marked (a ∷ b ∷ c ∷ cs) e u =
    let p = and_parts (a == 0xEF) _ e in
    let q = and_parts (b == 0xBB) _ p.1 in
    let f = first_char a (b ∷ c ∷ cs) u in
    let is : a ∷ b ∷ c ∷ cs ≡ encode_utf8 0xFEFF ++ cs = ap (λ x. x ∷ b ∷ c ∷ cs) (eqb-true a 0xEF p.0) ∙ ap (λ x. 0xEF ∷ x ∷ c ∷ cs) (eqb-true b 0xBB q.0) ∙ ap (λ x. 0xEF ∷ 0xBB ∷ x ∷ cs) (eqb-true c 0xBF q.1) ∙ ap (λ x. x ++ cs) (sym mark_is) in
    subst IsUtf8 (encode_same f.char 0xFEFF f.rest cs (sym f.split ∙ is)).1 f.utf8

text_utf8 : (bytes : List ℕ) → IsUtf8 bytes → IsUtf8 (without_mark bytes)
text_utf8 bytes u = by (has_mark bytes) refl
  where
    by : (b : Bool) → has_mark bytes ≡ b → IsUtf8 (if b then drop 3 bytes else bytes)
    by true e = marked bytes e u
    by false e = u

-- the six ways

stuck_is_bad : (left : List ℕ) → IsUtf8 left → IsStuck left → IsBad left
stuck_is_bad left u s = by (at_place left s.0 u)
  where
    by : Found left → IsBad left
    by (piece p a v) = absurd (s.1 p a)
    by (bad b) = b

pub six_ways : (bytes : List ℕ) → SixWays bytes
six_ways bytes line = (
  λ f. record { utf8 = f.utf8; pieces = f.pieces; left = f.left; cut = f.cut; range = f.range; wrong = stuck_is_bad f.left (left_utf8 f.left (without_mark bytes) f.pieces f.cut (text_utf8 bytes f.utf8)) f.wrong; line_is = f.line_is },
  λ f. record { utf8 = f.utf8; pieces = f.pieces; left = f.left; cut = f.cut; range = f.range; wrong = bad_is_stuck f.left f.wrong; line_is = f.line_is },
)

-- the pieces of a text

-- the pieces in range lead to the end or to something wrong
record Reached (bytes : List ℕ) : Type 0 where
  pieces : List Piece
  left : List ℕ
  cut : CutTo left pieces bytes
  range : AreInRange pieces
  what : (left ≡ []) ⊎ (IsStuck left ⊎ IsTooLarge left)

in_range : (p : Piece) (left : List ℕ) → IsPiece p left → IsInRange p ⊎ IsTooLarge left
in_range (layout n) left a = inl tt
in_range (token n (name w)) left a = inl tt
in_range (token n (quoted w)) left a = inl tt
in_range (token n (variable w)) left a = inl tt
in_range (token n (number v)) left a = by (cases_lt (2 ^ 63) v)
  where
    by : (2 ^ 63 < v) ⊎ (v ≤ 2 ^ 63) → (v ≤ 2 ^ 63) ⊎ IsTooLarge left
    by (inl l) = inr (record { size = n; value = v; piece = a; large = l })
    by (inr l) = inl l
in_range (token n (text t)) left a = inl tt
in_range (token n (mark m)) left a = inl tt
in_range (token n stop) left a = inl tt

pub some_size : (p : Piece) (left : List ℕ) → IsPiece p left → 1 ≤ size p
some_size (layout zero) left a = absurd (true≢false (sym a.1))
some_size (layout (suc n)) left a = omega arith
some_size (token zero s) left a = absurd (no_empty s a.1)
some_size (token (suc n) s) left a = omega arith

stopped : (left : List ℕ) → (left ≡ []) ⊎ (IsStuck left ⊎ IsTooLarge left) → Reached left
stopped left w = record { pieces = []; left = left; cut = refl; range = tt; what = w }

one_more : (p : Piece) (bytes : List ℕ) → IsPiece p bytes → IsInRange p → Reached (drop (size p) bytes) → Reached bytes
one_more p bytes a r s = record { pieces = p ∷ s.pieces; left = s.left; cut = (a, s.cut); range = (r, s.range); what = s.what }

reach_from : (bytes : List ℕ) → Found bytes → ((p : Piece) → IsPiece p bytes → IsUtf8 (drop (size p) bytes) → Reached (drop (size p) bytes)) → Reached bytes
reach_from bytes (piece p a v) go_on = by (in_range p bytes a)
  where
    by : IsInRange p ⊎ IsTooLarge bytes → Reached bytes
    by (inl r) = one_more p bytes a r (go_on p a v)
    by (inr l) = stopped bytes (inr (inr l))
reach_from bytes (bad b) go_on = stopped bytes (inr (inl (bad_is_stuck bytes b)))

reach_within : (n : ℕ) (bytes : List ℕ) → length bytes ≤ n → IsUtf8 bytes → Reached bytes
reach_within n [] l u = stopped [] (inl refl)
reach_within zero (c ∷ cs) l u = absurd (omega (arith, l))
reach_within (suc n) (c ∷ cs) l u = reach_from (c ∷ cs) (found c cs u) (λ p a v. reach_within n (drop (size p) (c ∷ cs)) (omega (arith, l, some_size p (c ∷ cs) a, length-drop (size p) (c ∷ cs))) v)

-- bytes are UTF-8 up to some place

abbrev UpTo : List ℕ → Type 0
UpTo bytes = (n : ℕ) × IsValidUpTo bytes n

abbrev NoneAbove : List ℕ → ℕ → Type 0
NoneAbove bytes n = (m : ℕ) → n < m → IsUtf8 (take m bytes) → ⊥

one_below : (n : ℕ) (bytes : List ℕ) → suc n < length bytes → NoneAbove bytes (suc n) → (NoneAbove bytes n → UpTo bytes) → UpTo bytes
one_below n bytes l none go_on = by (is_utf8 (take (suc n) bytes)) refl
  where
    none_here : is_utf8 (take (suc n) bytes) ≡ false → NoneAbove bytes n
    none_here e m h u = at (cases_lt (suc n) m)
      where
        at : (suc n < m) ⊎ (m ≤ suc n) → ⊥
        at (inl above) = none m above u
        at (inr within) =
            let same : m ≡ suc n = omega (arith, h, within) in
            true≢false (sym (is_utf8-from_IsUtf8 (take (suc n) bytes) (subst (λ k. IsUtf8 (take k bytes)) same u)) ∙ e)

    by : (b : Bool) → is_utf8 (take (suc n) bytes) ≡ b → UpTo bytes
    by true e = (suc n, record { short = l; front = IsUtf8-from_is_utf8 (take (suc n) bytes) e; longest = none })
    by false e = go_on (none_here e)

up_to : (n : ℕ) (bytes : List ℕ) → n < length bytes → NoneAbove bytes n → UpTo bytes
up_to zero bytes l none = (0, record { short = l; front = IsUtf8-nil; longest = none })
up_to (suc n) bytes l none = one_below n bytes l none (λ more. up_to n bytes (omega (arith, l)) more)

not_utf8 : (bytes : List ℕ) → is_utf8 bytes ≡ false → UpTo bytes
not_utf8 [] e = absurd (true≢false (sym (is_utf8-from_IsUtf8 [] IsUtf8-nil) ∙ e))
not_utf8 (c ∷ cs) e = up_to (length cs) (c ∷ cs) (omega arith) none
  where
    none : NoneAbove (c ∷ cs) (length cs)
    none m h u = true≢false (sym (is_utf8-from_IsUtf8 (c ∷ cs) (subst IsUtf8 (take_all m (c ∷ cs) (omega (arith, h))) u)) ∙ e)

-- tokens or a fault

pub every_text : (bytes : List ℕ) → EveryText bytes
every_text bytes before = at (is_utf8 bytes) refl
  where
    answer : IsUtf8 bytes → Reached (without_mark bytes) → ((after : List (List ℕ)) × (ts : List Token) × HasTokens bytes before after ts) ⊎ ((fault : TextFault) × HasFault bytes fault)
    answer u r = by r.what
      where
        line : ℕ
        line = (behind_all (start_of bytes) r.pieces (without_mark bytes)).line

        by : (r.left ≡ []) ⊎ (IsStuck r.left ⊎ IsTooLarge r.left) → ((after : List (List ℕ)) × (ts : List Token) × HasTokens bytes before after ts) ⊎ ((fault : TextFault) × HasFault bytes fault)
        by (inl e) =
            let after = names_with before r.pieces in
            inl (after, tokens_from after (start_of bytes) r.pieces (without_mark bytes), record { utf8 = u; pieces = r.pieces; cut = subst (λ x. CutTo x r.pieces (without_mark bytes)) e r.cut; range = r.range; named = refl; are = refl })
        by (inr (inl w)) = inr (BadToken line, record { utf8 = u; pieces = r.pieces; left = r.left; cut = r.cut; range = r.range; wrong = w; line_is = refl })
        by (inr (inr w)) = inr (IntRange line, record { utf8 = u; pieces = r.pieces; left = r.left; cut = r.cut; range = r.range; wrong = w; line_is = refl })

    at : (b : Bool) → is_utf8 bytes ≡ b → ((after : List (List ℕ)) × (ts : List Token) × HasTokens bytes before after ts) ⊎ ((fault : TextFault) × HasFault bytes fault)
    at true e = let u = IsUtf8-from_is_utf8 bytes e in answer u (reach_within (length (without_mark bytes)) (without_mark bytes) (omega arith) (text_utf8 bytes u))
    at false e = let n = not_utf8 bytes e in inr (NotUtf8 (line_feeds (take n.0 bytes) + 1), record { place = n.0; valid = n.1; line_is = refl })

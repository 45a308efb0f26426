-- The pieces so far and their tokens, with one piece more, at the end and at a fault.
use Rattle.std.proofs.Common.{◌≡◌, ◌<◌, ◌≤◌, ℕ, zero, suc, ◌+◌, ◌-◌, Bool, true, List, [], ◌∷◌, ◌++◌, length, take, drop, refl, sym, ap, subst, ◌∙◌, arith, append_assoc}
use Rattle.std.proofs.lemmas.List.{length-drop, append-nil}
use Rattle.std.specs.Prelude.{IsUtf8}
use Rattle.term_core.specs.Names.{with_texts}
use Rattle.ciao_tokens.specs.Forms.{Shape, name, quoted, variable, number, text, mark, stop, Form}
use Rattle.ciao_tokens.specs.Layout.{is_layout}
use Rattle.ciao_tokens.specs.Pieces.{Piece, layout, token, size, IsPiece, CutTo, IsStuck}
use Rattle.ciao_tokens.specs.Tokens.{At, behind, behind_all, tokens_from, token_at, kind_of, words, words_of, names_with, HasTokens, IsInRange, AreInRange, without_mark, start_of}
use Rattle.ciao_tokens.specs.Faults.{FirstFault, IsTooLarge, IsFaultOf}
use Rattle.ciao_tokens.specs.declared.kinds.TokenKind.TheVariants as kind
use Rattle.ciao_tokens.specs.declared.kinds.TextFault.{TextFault}
use Rattle.ciao_tokens.specs.declared.kinds.TextFault.TheVariants.{NotUtf8, BadToken, IntRange, NoMemory}
use Rattle.ciao_tokens.specs.TokensRead.{Stand, after, Reads, CannotRead}
use Rattle.ciao_tokens.proofs.Sorts.{no_empty}
use Rattle.ciao_tokens.proofs.NamePlaces.{place_kept, with_more}

-- one piece more

cut_more : (ps : List Piece) (p : Piece) (left rest bytes : List ℕ) → CutTo left ps bytes → IsPiece p left → rest ≡ drop (size p) left → CutTo rest (ps ++ p ∷ []) bytes
cut_more [] p left rest bytes cut is e = (subst (IsPiece p) (sym cut) is, ap (drop (size p)) cut ∙ sym e)
cut_more (q ∷ qs) p left rest bytes cut is e = (cut.0, cut_more qs p left rest (drop (size q) bytes) cut.1 is e)

range_more : (ps : List Piece) (p : Piece) → AreInRange ps → IsInRange p → AreInRange (ps ++ p ∷ [])
range_more [] p r i = (i, tt)
range_more (q ∷ qs) p r i = (r.0, range_more qs p r.1 i)

behind_more : (ps : List Piece) (p : Piece) (at : At) (left bytes : List ℕ) → CutTo left ps bytes → behind_all at (ps ++ p ∷ []) bytes ≡ behind (behind_all at ps bytes) p left
behind_more [] p at left bytes cut = ap (behind at p) cut
behind_more (q ∷ qs) p at left bytes cut = behind_more qs p (behind at q bytes) left (drop (size q) bytes) cut.1

tokens_more : (names : List (List ℕ)) (ps : List Piece) (p : Piece) (at : At) (left bytes : List ℕ) → CutTo left ps bytes →
    tokens_from names at (ps ++ p ∷ []) bytes ≡ tokens_from names at ps bytes ++ tokens_from names (behind_all at ps bytes) (p ∷ []) left
tokens_more names [] p at left bytes cut = ap (tokens_from names at (p ∷ [])) cut
tokens_more names (layout n ∷ qs) p at left bytes cut = tokens_more names qs p (behind at (layout n) bytes) left (drop n bytes) cut.1
tokens_more names (token n s ∷ qs) p at left bytes cut = ap (λ ts. token_at names at n s ∷ ts) (tokens_more names qs p (behind at (token n s) bytes) left (drop n bytes) cut.1)

words_more : (ps : List Piece) (p : Piece) → words (ps ++ p ∷ []) ≡ words ps ++ words (p ∷ [])
words_more [] p = refl
words_more (layout n ∷ qs) p = words_more qs p
words_more (token n s ∷ qs) p = ap (λ ws. words_of s ++ ws) (words_more qs p) ∙ sym (append_assoc (words_of s) (words qs) (words (p ∷ [])))

-- a token has the number that its name has later
kind_kept : (names : List (List ℕ)) (s : Shape) (n : ℕ) (b : Bool) (ws : List (List ℕ)) → kind_of (with_texts (with_texts names (words (token n s ∷ []))) ws) s b ≡ kind_of names s b
kind_kept names (name word) n b ws = ap kind.Name (place_kept names word ws)
kind_kept names (quoted word) n b ws = ap kind.Quoted (place_kept names word ws)
kind_kept names (variable word) n b ws = ap kind.Variable (place_kept names word ws)
kind_kept names (number v) n b ws = refl
kind_kept names (text cs) n b ws = refl
kind_kept names (mark m) n b ws = refl
kind_kept names stop n b ws = refl

-- what a piece adds is what it gives by the names later
added : (names ws : List (List ℕ)) (s : Stand) (p : Piece) (left : List ℕ) → (after names s p left).tokens ≡ s.tokens ++ tokens_from (with_texts (with_texts names (words (p ∷ []))) ws) s.at (p ∷ []) left
added names ws s (layout n) left = sym (append-nil s.tokens)
added names ws s (token n shape) left =
    ap (λ k. s.tokens ++ record { kind = k; line = s.at.line; start = s.at.place; end = s.at.place + n; layout_before = s.at.is_behind_layout } ∷ []) (sym (kind_kept names shape n s.at.is_behind_name ws))

after_at : (names : List (List ℕ)) (s : Stand) (p : Piece) (left : List ℕ) → (after names s p left).at ≡ behind s.at p left
after_at names s (layout n) left = refl
after_at names s (token n shape) left = refl

-- read as far as here
pub record HasRead (bytes : List ℕ) (before : List (List ℕ)) (left : List ℕ) (names : List (List ℕ)) (s : Stand) : Type 0 where
  pub pieces : List Piece
  pub cut : CutTo left pieces (without_mark bytes)
  pub range : AreInRange pieces
  pub named : names ≡ names_with before pieces
  pub place : s.at ≡ behind_all (start_of bytes) pieces (without_mark bytes)
  pub tokens : (ws : List (List ℕ)) → s.tokens ≡ tokens_from (with_texts names ws) (start_of bytes) pieces (without_mark bytes)

-- at the start nothing has been read
pub nothing_read : (bytes left : List ℕ) (names : List (List ℕ)) (s : Stand) → left ≡ without_mark bytes → s ≡ record { tokens = []; at = start_of bytes } → HasRead bytes names left names s
nothing_read bytes left names s e f = record {
  pieces = [];
  cut = sym e;
  range = tt;
  named = refl;
  place = ap (λ x. x.at) f;
  tokens = λ ws. ap (λ x. x.tokens) f;
}

-- with the first piece of what was left
pub read_more : (bytes : List ℕ) (before : List (List ℕ)) (left rest : List ℕ) (names later : List (List ℕ)) (s t : Stand) → HasRead bytes before left names s → Reads left rest names later s t → HasRead bytes before rest later t
read_more bytes before left rest names later s t h r = record {
  pieces = h.pieces ++ r.piece ∷ [];
  cut = cut_more h.pieces r.piece left rest (without_mark bytes) h.cut r.is_first.piece r.is_first.rest;
  range = range_more h.pieces r.piece h.range r.range;
  named =
      r.names ∙ ap (λ n. with_texts n (words (r.piece ∷ []))) h.named
      ∙ sym (with_more before (words h.pieces) (words (r.piece ∷ [])))
      ∙ ap (with_texts before) (sym (words_more h.pieces r.piece));
  place =
      ap (λ x. x.at) r.is ∙ after_at names s r.piece left ∙ ap (λ a. behind a r.piece left) h.place
      ∙ sym (behind_more h.pieces r.piece (start_of bytes) left (without_mark bytes) h.cut);
  tokens = λ ws.
      let all = with_texts later ws in
      let same : with_texts names (words (r.piece ∷ []) ++ ws) ≡ all = with_more names (words (r.piece ∷ [])) ws ∙ ap (λ n. with_texts n ws) (sym r.names) in
      ap (λ x. x.tokens) r.is
      ∙ added names ws s r.piece left
      ∙ ap (λ n. s.tokens ++ tokens_from (with_texts n ws) s.at (r.piece ∷ []) left) (sym r.names)
      ∙ ap (λ ts. ts ++ tokens_from all s.at (r.piece ∷ []) left) (h.tokens (words (r.piece ∷ []) ++ ws) ∙ ap (λ n. tokens_from n (start_of bytes) h.pieces (without_mark bytes)) same)
      ∙ ap (λ a. tokens_from all (start_of bytes) h.pieces (without_mark bytes) ++ tokens_from all a (r.piece ∷ []) left) h.place
      ∙ sym (tokens_more all h.pieces r.piece (start_of bytes) left (without_mark bytes) h.cut);
}

-- where nothing is left, the tokens are there
pub all_read : (bytes : List ℕ) (before : List (List ℕ)) (left : List ℕ) (names : List (List ℕ)) (s : Stand) → IsUtf8 bytes → HasRead bytes before left names s → length left ≡ 0 → HasTokens bytes before names s.tokens
all_read bytes before left names s utf8 h none = record {
  utf8 = utf8;
  pieces = h.pieces;
  cut = subst (λ l. CutTo l h.pieces (without_mark bytes)) (empty left none) h.cut;
  range = h.range;
  named = h.named;
  are = h.tokens [];
}
  where
    empty : (w : List ℕ) → length w ≡ 0 → w ≡ []
    empty [] e = refl
    empty (c ∷ cs) e = absurd (omega (arith, e))

-- what cannot be read is the first fault
first_fault : (Wrong : List ℕ → Type 0) (bytes : List ℕ) (before : List (List ℕ)) (left : List ℕ) (names : List (List ℕ)) (s : Stand) (line : ℕ) → IsUtf8 bytes → HasRead bytes before left names s → line ≡ s.at.line → Wrong left → FirstFault Wrong bytes line
first_fault Wrong bytes before left names s line utf8 h e wrong = record {
  utf8 = utf8;
  pieces = h.pieces;
  left = left;
  cut = h.cut;
  range = h.range;
  wrong = wrong;
  line_is = e ∙ ap (λ a. a.line) h.place;
}

pub fault_found : (bytes : List ℕ) (before : List (List ℕ)) (left : List ℕ) (names : List (List ℕ)) (s : Stand) (f : TextFault) → IsUtf8 bytes → HasRead bytes before left names s → CannotRead left s.at.line f → IsFaultOf bytes f
fault_found bytes before left names s (NotUtf8 at) utf8 h c = absurd c
fault_found bytes before left names s (BadToken at) utf8 h c = first_fault IsStuck bytes before left names s at utf8 h c.0 c.1
fault_found bytes before left names s (IntRange at) utf8 h c = first_fault IsTooLarge bytes before left names s at utf8 h c.0 c.1
fault_found bytes before left names s NoMemory utf8 h c = tt

-- a piece has some bytes
pub shorter : (left rest : List ℕ) (names later : List (List ℕ)) (s t : Stand) → Reads left rest names later s t → length rest < length left
shorter left rest names later s t r = by r.piece r.is_first.piece r.is_first.rest
  where
    some : (w : List ℕ) (n : ℕ) → n ≤ length w → (n ≡ 0 → ⊥) → rest ≡ drop n w → length rest < length w
    some w n within not_none e = omega (arith, within, positive n not_none, ap length e ∙ length-drop n w)
      where
        positive : (n : ℕ) → (n ≡ 0 → ⊥) → 0 < n
        positive zero f = absurd (f refl)
        positive (suc n) f = omega arith

    by : (p : Piece) → IsPiece p left → rest ≡ drop (size p) left → length rest < length left
    by (layout n) i e = some left n i.0 (λ z. no_layout (subst (λ k. is_layout (take k left) ≡ true) z i.1)) e
      where
        no_layout : is_layout [] ≡ true → ⊥
        no_layout e = cc
    by (token n s) i e = some left n i.0 (λ z. no_empty s (subst (λ k. Form s (take k left)) z i.1)) e

-- where the scanner stands then
pub stands_at : (bytes : List ℕ) (before : List (List ℕ)) (left rest : List ℕ) (names later : List (List ℕ)) (s : ℕ → Stand) (t : ℕ → Stand) (all : ℕ) → length left ≤ all →
    HasRead bytes before left names (s (all - length left)) → Reads left rest names later (s (all - length left)) (t ((all - length left) + (length left - length rest))) → HasRead bytes before rest later (t (all - length rest))
stands_at bytes before left rest names later s t all within h r =
    let l = shorter left rest names later _ _ r in
    let e : (all - length left) + (length left - length rest) ≡ all - length rest = omega (arith, l, within) in
    subst (λ n. HasRead bytes before rest later (t n)) e (read_more bytes before left rest names later _ _ h r)

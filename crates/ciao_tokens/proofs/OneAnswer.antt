-- A text has one list of tokens, or one fault.
use Rattle.std.proofs.Common.{arith, ◌≡◌, ◌<◌, ◌⊎◌, inl, inr, ℕ, List, [], length, take, ap, sym, ◌∙◌, subst}
use Rattle.std.specs.Prelude.{◌+◌, IsUtf8}
use Rattle.std.specs.Str.{IsValidUpTo}
use Rattle.std.proofs.Math.Seq.{take-length}
use Rattle.std.proofs.lemmas.Bool.{cases_order}
use Rattle.ciao_tokens.specs.Pieces.{token, IsPiece, IsStuck}
use Rattle.ciao_tokens.specs.Forms.{number}
use Rattle.ciao_tokens.specs.Tokens.{IsInRange, HasTokens, names_with, tokens_from, line_feeds, start_of, behind_all, without_mark}
use Rattle.ciao_tokens.specs.Faults.{FirstFault, IsTooLarge}
use Rattle.ciao_tokens.specs.Laws.{OneList, NoFault, OneFault}
use Rattle.ciao_tokens.specs.declared.kinds.Token.{Token}
use Rattle.ciao_tokens.specs.declared.kinds.TextFault.TheVariants.{NotUtf8, BadToken, IntRange, NoMemory}
use Rattle.ciao_tokens.proofs.OneCut.{Stops, one_piece, no_piece, one_stop}

-- the end stops, and so does each fault

ends : Stops []
ends p a r = no_piece p a

stuck : (left : List ℕ) → IsStuck left → Stops left
stuck left w p a r = w.1 p a

large : (left : List ℕ) → IsTooLarge left → Stops left
large left w p a r = absurd (omega (arith, w.large, subst IsInRange (one_piece p (token w.size (number w.value)) left a w.piece) r))

pub one_list : (bytes : List ℕ) → OneList bytes
one_list bytes before after later ts us a b =
    let same = (one_stop [] [] (without_mark bytes) a.pieces b.pieces ends ends a.cut b.cut a.range b.range).0 in
    let names : after ≡ later = a.named ∙ ap (names_with before) same ∙ sym b.named in
    (a.are ∙ ap (λ n. tokens_from n (start_of bytes) a.pieces (without_mark bytes)) names ∙ ap (λ ps. tokens_from later (start_of bytes) ps (without_mark bytes)) same ∙ sym b.are, names)

-- bytes are UTF-8 or not, up to one place

not_both : (bytes : List ℕ) (n : ℕ) → IsUtf8 bytes → IsValidUpTo bytes n → ⊥
not_both bytes n u v = v.longest (length bytes) v.short (subst IsUtf8 (sym (take-length bytes)) u)

one_place : (bytes : List ℕ) (n m : ℕ) → IsValidUpTo bytes n → IsValidUpTo bytes m → n ≡ m
one_place bytes n m a b = by (cases_order n m)
  where
    by : (n ≡ m) ⊎ ((n < m) ⊎ (m < n)) → n ≡ m
    by (inl e) = e
    by (inr (inl l)) = absurd (a.longest m l b.front)
    by (inr (inr l)) = absurd (b.longest n l a.front)

-- two faults stand at one place

module _ (Wrong Amiss : List ℕ → Type 0) (stops : (left : List ℕ) → Wrong left → Stops left) (halts : (left : List ℕ) → Amiss left → Stops left) where
  one_fault_at : (bytes : List ℕ) (n m : ℕ) (f : FirstFault Wrong bytes n) (g : FirstFault Amiss bytes m) → (n ≡ m) × (f.left ≡ g.left)
  one_fault_at bytes n m f g =
      let same = one_stop f.left g.left (without_mark bytes) f.pieces g.pieces (stops f.left f.wrong) (halts g.left g.wrong) f.cut g.cut f.range g.range in
      (f.line_is ∙ ap (λ ps. (behind_all (start_of bytes) ps (without_mark bytes)).line) same.0 ∙ sym g.line_is, same.1)

not_stuck : (left : List ℕ) → IsStuck left → IsTooLarge left → ⊥
not_stuck left s l = s.1 (token l.size (number l.value)) l.piece

pub one_fault : (bytes : List ℕ) → OneFault bytes
one_fault bytes (NotUtf8 n) (NotUtf8 m) f g = ap NotUtf8 (f.line_is ∙ ap (λ k. line_feeds (take k bytes) + 1) (one_place bytes f.place g.place f.valid g.valid) ∙ sym g.line_is)
one_fault bytes (NotUtf8 n) (BadToken m) f g = absurd (not_both bytes f.place g.utf8 f.valid)
one_fault bytes (NotUtf8 n) (IntRange m) f g = absurd (not_both bytes f.place g.utf8 f.valid)
one_fault bytes (NotUtf8 n) NoMemory f g = absurd g
one_fault bytes (BadToken n) (NotUtf8 m) f g = absurd (not_both bytes g.place f.utf8 g.valid)
one_fault bytes (BadToken n) (BadToken m) f g = ap BadToken (one_fault_at IsStuck IsStuck stuck stuck bytes n m f g).0
one_fault bytes (BadToken n) (IntRange m) f g = absurd (not_stuck g.left (subst IsStuck (one_fault_at IsStuck IsTooLarge stuck large bytes n m f g).1 f.wrong) g.wrong)
one_fault bytes (BadToken n) NoMemory f g = absurd g
one_fault bytes (IntRange n) (NotUtf8 m) f g = absurd (not_both bytes g.place f.utf8 g.valid)
one_fault bytes (IntRange n) (BadToken m) f g = absurd (not_stuck g.left g.wrong (subst IsTooLarge (one_fault_at IsTooLarge IsStuck large stuck bytes n m f g).1 f.wrong))
one_fault bytes (IntRange n) (IntRange m) f g = ap IntRange (one_fault_at IsTooLarge IsTooLarge large large bytes n m f g).0
one_fault bytes (IntRange n) NoMemory f g = absurd g
one_fault bytes NoMemory g f h = absurd f

-- a text with tokens is cut to its end, where nothing is wrong

nothing_left : (Wrong : List ℕ → Type 0) (stops : (left : List ℕ) → Wrong left → Stops left) (bytes : List ℕ) (before after : List (List ℕ)) (ts : List Token) (n : ℕ)
    → HasTokens bytes before after ts → (f : FirstFault Wrong bytes n) → f.left ≡ []
nothing_left Wrong stops bytes before after ts n h f = (one_stop f.left [] (without_mark bytes) f.pieces h.pieces (stops f.left f.wrong) ends f.cut h.cut f.range h.range).1

pub no_fault : (bytes : List ℕ) → NoFault bytes
no_fault bytes before after ts (NotUtf8 n) h f = not_both bytes f.place h.utf8 f.valid
no_fault bytes before after ts (BadToken n) h f = f.wrong.0 (nothing_left IsStuck stuck bytes before after ts n h f)
no_fault bytes before after ts (IntRange n) h f =
    no_piece (token f.wrong.size (number f.wrong.value)) (subst (IsPiece (token f.wrong.size (number f.wrong.value))) (nothing_left IsTooLarge large bytes before after ts n h f) f.wrong.piece)
no_fault bytes before after ts NoMemory h f = absurd f

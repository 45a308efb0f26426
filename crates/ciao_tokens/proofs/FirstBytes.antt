-- What tokens and layout are, by the class of their first byte.
use Rattle.std.proofs.Common.{◌≡◌, ◌⊎◌, inl, inr, ℕ, true, List, [], ◌∷◌, ◌++◌, refl, sym, ap, subst, ◌∙◌, ◌&&◌}
use Rattle.std.proofs.lemmas.Bool.{and_parts, or_cases}
use Rattle.std.specs.Prelude.{◌==◌, ◌||◌, not}
use Rattle.std.specs.List.{list_all}
use Rattle.std.specs.Char.{is_ascii_uppercase}
use Rattle.term_core.specs.Characters.{is_symbol, is_word_part, is_name, is_lower_word, is_symbol_run, is_solo}
use Rattle.ciao_tokens.specs.Layout.{is_layout, is_space, is_blank, is_line_comment, is_block_comment}
use Rattle.ciao_tokens.specs.Forms.{Shape, name, quoted, variable, number, text, mark, stop, Mark, paren, close_paren, bracket, close_bracket, curly, close_curly, comma, bar, byte_of, Form, IsNumber, decimal, hexadecimal, character}
use Rattle.ciao_tokens.specs.Quotes.{Inside}
use Rattle.ciao_tokens.specs.declared.classes.Class.{Class}
use Rattle.ciao_tokens.specs.declared.classes.Class.TheVariants as class
use Rattle.ciao_tokens.specs.Classes.{class_of}
use Rattle.ciao_tokens.proofs.Bytes.{same_head, same_tail}
use Rattle.ciao_tokens.proofs.ByteClasses.{is_eq, class_lower, class_upper, class_digit, class_symbol}

-- a token that begins with a byte of this class, and the bytes behind it
abbrev pub TokenBy : Class → Shape → ℕ → List ℕ → Type 0
TokenBy class.Lower s c cs = (s ≡ name (c ∷ cs)) × (list_all is_word_part cs ≡ true)
TokenBy class.Upper s c cs = (s ≡ variable (c ∷ cs)) × (list_all is_word_part cs ≡ true)
TokenBy class.Digit s c cs = (n : ℕ) × (s ≡ number n) × IsNumber (c ∷ cs) n
TokenBy class.Symbol s c cs = ((s ≡ name (c ∷ cs)) × (is_symbol_run (c ∷ cs) ≡ true)) ⊎ ((s ≡ stop) × (cs ≡ []))
TokenBy class.Blank s c cs = ⊥
TokenBy class.Sign s c cs = cs ≡ []
TokenBy class.Solo s c cs = cs ≡ []
TokenBy class.Percent s c cs = ⊥
TokenBy class.Quote s c cs = (word : List ℕ) × (inside : List ℕ) × (meant : List ℕ) × (s ≡ quoted word) × (cs ≡ inside ++ 39 ∷ []) × Inside 39 inside meant
TokenBy class.DoubleQuote s c cs = (inside : List ℕ) × (meant : List ℕ) × (s ≡ text meant) × (cs ≡ inside ++ 34 ∷ []) × Inside 34 inside meant
TokenBy class.Other s c cs = ⊥

-- layout that begins with a byte of this class, and the bytes behind it
abbrev pub LayoutBy : Class → ℕ → List ℕ → Type 0
LayoutBy class.Symbol c cs = is_block_comment (c ∷ cs) ≡ true
LayoutBy class.Blank c cs = cs ≡ []
LayoutBy class.Percent c cs = list_all (λ d. not (d == 10)) cs ≡ true
LayoutBy class.Lower c cs = ⊥
LayoutBy class.Upper c cs = ⊥
LayoutBy class.Digit c cs = ⊥
LayoutBy class.Sign c cs = ⊥
LayoutBy class.Solo c cs = ⊥
LayoutBy class.Quote c cs = ⊥
LayoutBy class.DoubleQuote c cs = ⊥
LayoutBy class.Other c cs = ⊥

-- a token by the class that its first byte has
by_class : (s : Shape) (c : ℕ) (cs : List ℕ) (k : Class) → class_of c ≡ k → TokenBy k s c cs → TokenBy (class_of c) s c cs
by_class s c cs k e t = subst (λ x. TokenBy x s c cs) (sym e) t

mark_class : (m : Mark) → class_of (byte_of m) ≡ class.Sign
mark_class paren = refl
mark_class close_paren = refl
mark_class bracket = refl
mark_class close_bracket = refl
mark_class curly = refl
mark_class close_curly = refl
mark_class comma = refl
mark_class bar = refl

number_class : (c : ℕ) (cs : List ℕ) (n : ℕ) → IsNumber (c ∷ cs) n → class_of c ≡ class.Digit
number_class c cs n (decimal d l e) = class_digit c (and_parts _ _ d).0
number_class c cs n (hexadecimal ds h l e g) = ap class_of (same_head c 48 cs (120 ∷ ds) e)
number_class c cs n (character part q e) = ap class_of (same_head c 48 cs (39 ∷ part) e)

solo_by : (c : ℕ) (cs : List ℕ) → is_solo (c ∷ cs) ≡ true → (class_of c ≡ class.Solo) × (cs ≡ [])
solo_by c [] e = (elim (or_cases (c == 33) (c == 59) e) [ inl g ↦ ap class_of (is_eq c 33 g) | inr g ↦ ap class_of (is_eq c 59 g) ], refl)
solo_by c (d ∷ ds) e = cc

name_by : (c : ℕ) (cs : List ℕ) → is_name (c ∷ cs) ≡ true → TokenBy (class_of c) (name (c ∷ cs)) c cs
name_by c cs e = by (or_cases (is_lower_word (c ∷ cs)) _ e)
  where
    rest : (is_symbol_run (c ∷ cs) ≡ true) ⊎ (is_solo (c ∷ cs) ≡ true) → TokenBy (class_of c) (name (c ∷ cs)) c cs
    rest (inl g) = by_class _ c cs class.Symbol (class_symbol c (and_parts (is_symbol c) _ (and_parts (list_all is_symbol (c ∷ cs)) _ g).0).0) (inl (refl, g))
    rest (inr g) = let s = solo_by c cs g in by_class _ c cs class.Solo s.0 s.1

    by : (is_lower_word (c ∷ cs) ≡ true) ⊎ ((is_symbol_run (c ∷ cs) || is_solo (c ∷ cs)) ≡ true) → TokenBy (class_of c) (name (c ∷ cs)) c cs
    by (inl g) = let p = and_parts _ _ g in by_class _ c cs class.Lower (class_lower c p.0) (refl, p.1)
    by (inr g) = rest (or_cases (is_symbol_run (c ∷ cs)) _ g)

-- a token, by the class of its first byte
pub token_by : (s : Shape) (c : ℕ) (cs : List ℕ) → Form s (c ∷ cs) → TokenBy (class_of c) s c cs
token_by (name w) c cs f = subst (λ x. TokenBy (class_of c) (name x) c cs) f.0 (name_by c cs f.1)
token_by (quoted w) c cs f =
    by_class (quoted w) c cs class.Quote (ap class_of (same_head c 39 cs (f.0 ++ 39 ∷ []) f.2)) (w, f.0, f.1, refl, same_tail c 39 cs (f.0 ++ 39 ∷ []) f.2, f.3)
token_by (variable w) c cs f =
    let p = and_parts (is_ascii_uppercase c || c == 95) _ f.1 in by_class (variable w) c cs class.Upper (class_upper c p.0) (ap variable (sym f.0), p.1)
token_by (number n) c cs f = by_class (number n) c cs class.Digit (number_class c cs n f) (n, refl, f)
token_by (text t) c cs f =
    by_class (text t) c cs class.DoubleQuote (ap class_of (same_head c 34 cs (f.0 ++ 34 ∷ []) f.1)) (f.0, t, refl, same_tail c 34 cs (f.0 ++ 34 ∷ []) f.1, f.2)
token_by (mark m) c cs f = by_class (mark m) c cs class.Sign (ap class_of (same_head c (byte_of m) cs [] f) ∙ mark_class m) (same_tail c (byte_of m) cs [] f)
token_by stop c cs f = by_class stop c cs class.Symbol (ap class_of (same_head c 46 cs [] f)) (inr (refl, same_tail c 46 cs [] f))

layout_at : (c : ℕ) (cs : List ℕ) (k : Class) → class_of c ≡ k → LayoutBy k c cs → LayoutBy (class_of c) c cs
layout_at c cs k e t = subst (λ x. LayoutBy x c cs) (sym e) t

space_by : (c : ℕ) (cs : List ℕ) → is_space (c ∷ cs) ≡ true → (class_of c ≡ class.Blank) × (cs ≡ [])
space_by c [] e = (blank_class c e, refl)
  where
    blank_class : (c : ℕ) → is_blank c ≡ true → class_of c ≡ class.Blank
    blank_class c e = elim (or_cases (c == 32 || c == 9) (c == 10 || c == 13) e) [
      | inl g ↦ elim (or_cases (c == 32) (c == 9) g) [ inl h ↦ ap class_of (is_eq c 32 h) | inr h ↦ ap class_of (is_eq c 9 h) ]
      | inr g ↦ elim (or_cases (c == 10) (c == 13) g) [ inl h ↦ ap class_of (is_eq c 10 h) | inr h ↦ ap class_of (is_eq c 13 h) ]
    ]
space_by c (d ∷ ds) e = cc

block_class : (c : ℕ) (cs : List ℕ) → is_block_comment (c ∷ cs) ≡ true → class_of c ≡ class.Symbol
block_class c [] e = cc
block_class c (d ∷ ds) e = ap class_of (is_eq c 47 (and_parts (c == 47) (d == 42) (and_parts (c == 47 && d == 42) _ e).0).0)

-- layout, by the class of its first byte
pub layout_by : (c : ℕ) (cs : List ℕ) → is_layout (c ∷ cs) ≡ true → LayoutBy (class_of c) c cs
layout_by c cs e = by (or_cases (is_space (c ∷ cs)) _ e)
  where
    rest : (is_line_comment (c ∷ cs) ≡ true) ⊎ (is_block_comment (c ∷ cs) ≡ true) → LayoutBy (class_of c) c cs
    rest (inl g) = let p = and_parts (c == 37) _ g in layout_at c cs class.Percent (ap class_of (is_eq c 37 p.0)) p.1
    rest (inr g) = layout_at c cs class.Symbol (block_class c cs g) g

    by : (is_space (c ∷ cs) ≡ true) ⊎ ((is_line_comment (c ∷ cs) || is_block_comment (c ∷ cs)) ≡ true) → LayoutBy (class_of c) c cs
    by (inl g) = let s = space_by c cs g in layout_at c cs class.Blank s.0 s.1
    by (inr g) = rest (or_cases (is_line_comment (c ∷ cs)) _ g)

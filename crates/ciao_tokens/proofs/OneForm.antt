-- Bytes are one token, and no layout besides.
use Rattle.std.proofs.Common.{arith, ◌≡◌, ◌⊎◌, inl, inr, ℕ, List, [], ◌∷◌, refl, ap, sym, ◌∙◌, subst, true, false}
use Rattle.std.specs.Prelude.{◌&&◌, ◌||◌, ◌==◌}
use Rattle.std.proofs.lemmas.Bool.{and_parts, eqb-true, or_cases, true≢false}
use Rattle.term_core.specs.Characters.{is_name, is_symbol_run}
use Rattle.ciao_tokens.specs.Layout.{is_layout, is_space, is_line_comment, is_block_comment, closes_comment}
use Rattle.ciao_tokens.specs.Forms.{Shape, name, quoted, variable, number, text, mark, stop, Form, byte_of}
use Rattle.ciao_tokens.proofs.Bytes.{same_head}
use Rattle.ciao_tokens.proofs.Sorts.{any_is, no_empty, sort_of, sort_byte, form_sort, same_mark}
use Rattle.ciao_tokens.proofs.OneMeaning.{one_quoted, one_number, one_text}

no_point : (bytes : List ℕ) → is_name bytes ≡ true → bytes ≡ 46 ∷ [] → ⊥
no_point bytes e g = true≢false (sym (sym (ap is_name g) ∙ e))

same_sort : (bytes : List ℕ) (s u : Shape) → sort_of s ≡ sort_of u → Form s bytes → Form u bytes → s ≡ u
same_sort bytes (name w) (name v) e f g = ap name (sym f.0 ∙ g.0)
same_sort bytes (name w) (quoted v) e f g = absurd (omega (arith, e))
same_sort bytes (name w) (variable v) e f g = absurd (omega (arith, e))
same_sort bytes (name w) (number i) e f g = absurd (omega (arith, e))
same_sort bytes (name w) (text ds) e f g = absurd (omega (arith, e))
same_sort bytes (name w) (mark k) e f g = absurd (omega (arith, e))
same_sort bytes (name w) stop e f g = absurd (no_point bytes f.1 g)
same_sort bytes (quoted w) (name v) e f g = absurd (omega (arith, e))
same_sort bytes (quoted w) (quoted v) e f g = ap quoted (one_quoted bytes w v f g)
same_sort bytes (quoted w) (variable v) e f g = absurd (omega (arith, e))
same_sort bytes (quoted w) (number i) e f g = absurd (omega (arith, e))
same_sort bytes (quoted w) (text ds) e f g = absurd (omega (arith, e))
same_sort bytes (quoted w) (mark k) e f g = absurd (omega (arith, e))
same_sort bytes (quoted w) stop e f g = absurd (omega (arith, e))
same_sort bytes (variable w) (name v) e f g = absurd (omega (arith, e))
same_sort bytes (variable w) (quoted v) e f g = absurd (omega (arith, e))
same_sort bytes (variable w) (variable v) e f g = ap variable (sym f.0 ∙ g.0)
same_sort bytes (variable w) (number i) e f g = absurd (omega (arith, e))
same_sort bytes (variable w) (text ds) e f g = absurd (omega (arith, e))
same_sort bytes (variable w) (mark k) e f g = absurd (omega (arith, e))
same_sort bytes (variable w) stop e f g = absurd (omega (arith, e))
same_sort bytes (number n) (name v) e f g = absurd (omega (arith, e))
same_sort bytes (number n) (quoted v) e f g = absurd (omega (arith, e))
same_sort bytes (number n) (variable v) e f g = absurd (omega (arith, e))
same_sort bytes (number n) (number i) e f g = ap number (one_number bytes n i f g)
same_sort bytes (number n) (text ds) e f g = absurd (omega (arith, e))
same_sort bytes (number n) (mark k) e f g = absurd (omega (arith, e))
same_sort bytes (number n) stop e f g = absurd (omega (arith, e))
same_sort bytes (text cs) (name v) e f g = absurd (omega (arith, e))
same_sort bytes (text cs) (quoted v) e f g = absurd (omega (arith, e))
same_sort bytes (text cs) (variable v) e f g = absurd (omega (arith, e))
same_sort bytes (text cs) (number i) e f g = absurd (omega (arith, e))
same_sort bytes (text cs) (text ds) e f g = ap text (one_text bytes cs ds f g)
same_sort bytes (text cs) (mark k) e f g = absurd (omega (arith, e))
same_sort bytes (text cs) stop e f g = absurd (omega (arith, e))
same_sort bytes (mark m) (name v) e f g = absurd (omega (arith, e))
same_sort bytes (mark m) (quoted v) e f g = absurd (omega (arith, e))
same_sort bytes (mark m) (variable v) e f g = absurd (omega (arith, e))
same_sort bytes (mark m) (number i) e f g = absurd (omega (arith, e))
same_sort bytes (mark m) (text ds) e f g = absurd (omega (arith, e))
same_sort bytes (mark m) (mark k) e f g = ap mark (same_mark m k (same_head (byte_of m) (byte_of k) [] [] (sym f ∙ g)))
same_sort bytes (mark m) stop e f g = absurd (omega (arith, e))
same_sort bytes stop (name v) e f g = absurd (no_point bytes g.1 f)
same_sort bytes stop (quoted v) e f g = absurd (omega (arith, e))
same_sort bytes stop (variable v) e f g = absurd (omega (arith, e))
same_sort bytes stop (number i) e f g = absurd (omega (arith, e))
same_sort bytes stop (text ds) e f g = absurd (omega (arith, e))
same_sort bytes stop (mark k) e f g = absurd (omega (arith, e))
same_sort bytes stop stop e f g = refl

pub one_shape : (bytes : List ℕ) (s u : Shape) → Form s bytes → Form u bytes → s ≡ u
one_shape [] s u f g = absurd (no_empty s f)
one_shape (c ∷ cs) s u f g = same_sort (c ∷ cs) s u (sym (form_sort s c cs f) ∙ form_sort u c cs g) f g

no_slash_name : (ds : List ℕ) → is_name (47 ∷ 42 ∷ ds) ≡ true → ⊥
no_slash_name ds e = by (or_cases (is_symbol_run (47 ∷ 42 ∷ ds)) false e)
  where
    by : (is_symbol_run (47 ∷ 42 ∷ ds) ≡ true) ⊎ (false ≡ true) → ⊥
    by (inl g) = true≢false (sym (and_parts _ _ g).1)
    by (inr g) = true≢false (sym g)

pub no_slash : (s : Shape) (ds : List ℕ) → Form s (47 ∷ 42 ∷ ds) → ⊥
no_slash s ds f = by s (sym (form_sort s 47 (42 ∷ ds) f)) f
  where
    by : (u : Shape) → sort_of u ≡ 0 → Form u (47 ∷ 42 ∷ ds) → ⊥
    by (name w) e g = no_slash_name ds g.1
    by (quoted w) e g = absurd (omega (arith, e))
    by (variable w) e g = absurd (omega (arith, e))
    by (number n) e g = absurd (omega (arith, e))
    by (text t) e g = absurd (omega (arith, e))
    by (mark m) e g = absurd (omega (arith, e))
    by stop e g = absurd (omega (arith, same_head 47 46 (42 ∷ ds) [] g))

-- layout begins with a blank, `%` or `/`
pub no_layout : (bytes : List ℕ) (s : Shape) → is_layout bytes ≡ true → Form s bytes → ⊥
no_layout [] s e f = no_empty s f
no_layout (c ∷ cs) s e f = by (or_cases _ _ e)
  where
    apart : (k : ℕ) → sort_of s ≡ k → k ≡ 6 → ⊥
    apart k g h = below s (g ∙ h)
      where
        below : (u : Shape) → sort_of u ≡ 6 → ⊥
        below (name w) d = absurd (omega (arith, d))
        below (quoted w) d = absurd (omega (arith, d))
        below (variable w) d = absurd (omega (arith, d))
        below (number n) d = absurd (omega (arith, d))
        below (text t) d = absurd (omega (arith, d))
        below (mark m) d = absurd (omega (arith, d))
        below stop d = absurd (omega (arith, d))

    six : sort_byte c ≡ 6 → ⊥
    six g = apart (sort_byte c) (sym (form_sort s c cs f)) g

    space : (cs : List ℕ) → is_space (c ∷ cs) ≡ true → sort_byte c ≡ 6
    space [] g = eqb-true _ _ (any_is (λ d. sort_byte d == 6) c (32 ∷ 9 ∷ 10 ∷ 13 ∷ []) refl (grind (arith, g)))
    space (d ∷ ds) g = absurd (true≢false (sym g))

    block : (ds : List ℕ) (u : Shape) → is_block_comment (c ∷ ds) ≡ true → Form u (c ∷ ds) → ⊥
    block [] u g h = true≢false (sym g)
    block (d ∷ ds) u g h = slash u (subst (λ x. Form u (x ∷ d ∷ ds)) (eqb-true c 47 first) h) (eqb-true d 42 second)
      where
        opened : (c == 47 && d == 42) ≡ true
        opened = (and_parts (c == 47 && d == 42) (closes_comment ds) g).0

        first : (c == 47) ≡ true
        first = (and_parts (c == 47) (d == 42) opened).0

        second : (d == 42) ≡ true
        second = (and_parts (c == 47) (d == 42) opened).1

        slash : (v : Shape) → Form v (47 ∷ d ∷ ds) → d ≡ 42 → ⊥
        slash v k e' = no_slash v ds (subst (λ x. Form v (47 ∷ x ∷ ds)) e' k)

    rest : (is_line_comment (c ∷ cs) ≡ true) ⊎ (is_block_comment (c ∷ cs) ≡ true) → ⊥
    rest (inl g) = six (ap sort_byte (eqb-true c 37 (and_parts _ _ g).0))
    rest (inr g) = block cs s g f

    by : (is_space (c ∷ cs) ≡ true) ⊎ ((is_line_comment (c ∷ cs) || is_block_comment (c ∷ cs)) ≡ true) → ⊥
    by (inl g) = six (space cs g)
    by (inr g) = rest (or_cases _ _ g)

-- The mark of UTF-8.
use Rattle.std.proofs.Common.{◌≡◌, ℕ, true, List, [], ◌∷◌, refl, sym, ap, subst, ◌∙◌, arith}
use Rattle.std.proofs.lemmas.Bool.{and_parts}
use Rattle.std.proofs.lemmas.Str.{IsCharBoundary-from_take, IsUtf8-encode}
use Rattle.std.specs.Prelude.{IsUtf8, ◌==◌}
use lib.Utf8.{encode}
use Rattle.std.specs.Str.{IsCharBoundary}
use Rattle.ciao_tokens.specs.Tokens.{has_mark}
use Rattle.ciao_tokens.proofs.ByteClasses.{is_eq}

-- the mark is a character
mark_char : IsUtf8 (0xEF ∷ 0xBB ∷ 0xBF ∷ [])
unfolding encode
mark_char = IsUtf8-encode 0xFEFF refl

-- a character begins behind the mark
pub mark_boundary : (bytes : List ℕ) → IsUtf8 bytes → has_mark bytes ≡ true → IsCharBoundary bytes 3
mark_boundary [] utf8 e = cc
mark_boundary (a ∷ []) utf8 e = cc
mark_boundary (a ∷ b ∷ []) utf8 e = cc
mark_boundary (a ∷ b ∷ c ∷ cs) utf8 e =
    let p = and_parts (a == 0xEF) _ e in
    let q = and_parts (b == 0xBB) _ p.1 in
    IsCharBoundary-from_take (a ∷ b ∷ c ∷ cs) 3 utf8 (omega arith)
    (subst IsUtf8 (sym (ap (λ x. x ∷ b ∷ c ∷ []) (is_eq a 0xEF p.0) ∙ ap (λ x. 0xEF ∷ x ∷ c ∷ []) (is_eq b 0xBB q.0) ∙ ap (λ x. 0xEF ∷ 0xBB ∷ x ∷ []) (is_eq c 0xBF q.1))) mark_char)

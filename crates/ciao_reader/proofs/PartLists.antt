-- Lists of parts, made from the last one on.
use Rattle.std.proofs.Common.{arith, ◌≡◌, ◌<◌, ◌≤◌, ℕ, suc, ◌-◌, List, [], ◌∷◌, ◌++◌, length, take, get_or, refl, ap, sym, ◌∙◌}
use Rattle.std.specs.Prelude.{pos}
use Rattle.std.proofs.Math.Seq.{take-suc}
use Rattle.term_core.specs.declared.fixed.TheConstants.{CELL}
use Rattle.term_core.specs.declared.terms.Term as term
use Rattle.ciao_reader.specs.Parts.{leaf, infix_part, list_part, codes_part}
use Rattle.ciao_reader.specs.declared.parts.Part.{Part}

pub list_behind : (ps : List Part) (p tail : Part) → list_part (ps ++ p ∷ []) tail ≡ list_part ps (infix_part CELL p tail)
list_behind [] p tail = refl
list_behind (q ∷ ps) p tail = ap (infix_part CELL q) (list_behind ps p tail)

pub codes_behind : (cs : List ℕ) (c : ℕ) (tail : Part) → codes_part (cs ++ c ∷ []) tail ≡ codes_part cs (infix_part CELL (leaf (term.Int (pos c))) tail)
codes_behind [] c tail = refl
codes_behind (d ∷ cs) c tail = ap (infix_part CELL (leaf (term.Int (pos d)))) (codes_behind cs c tail)

-- the list with one more code in front
pub codes_more : (cs : List ℕ) (at : ℕ) (one list more : Part) → 0 < at → at ≤ length cs → one ≡ leaf (term.Int (pos (get_or cs (at - 1) 0))) → more ≡ infix_part CELL one list
    → codes_part (take (at - 1) cs) more ≡ codes_part (take at cs) list
codes_more cs at one list more l m e f =
    let now : at ≡ suc (at - 1) = omega (arith, l) in
    ap (codes_part (take (at - 1) cs)) (f ∙ ap (λ p. infix_part CELL p list) e) ∙ sym (codes_behind (take (at - 1) cs) (get_or cs (at - 1) 0) list)
    ∙ ap (λ xs. codes_part xs list) (sym (take-suc cs (at - 1) 0 (omega (arith, l, m)))) ∙ ap (λ n. codes_part (take n cs) list) (sym now)

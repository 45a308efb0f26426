-- The conjuncts of what stands on a stack of terms, the top last.
use Rattle.std.proofs.Common.{◌≡◌, ℕ, ◌+◌, ◌<◌, List, [], ◌∷◌, ◌++◌, map, refl, ap, sym, ◌∙◌, arith}
use Rattle.std.specs.Prelude.{None}
use Rattle.std.proofs.lemmas.List.{append_assoc}
use Rattle.term_core.specs.declared.fixed.TheConstants.{COMMA}
use Rattle.term_core.specs.declared.terms.Term.{Term, out-Term}
use Rattle.term_core.specs.declared.terms.Term as term
use Rattle.term_core.specs.Shapes.{pair_of}
use Rattle.term_core.specs.Sizes.{size, size_step}
use Rattle.term_core.proofs.Sizes.{size_pos}
use Rattle.term_core.proofs.TermFolds.{fold-Node}
use Rattle.term_core.specs.Operands.{conjuncts}
use Rattle.term_core.proofs.OperandLaws.{conjuncts_alone, conjuncts_two}

-- what the terms of a stack join, from the top
abbrev pub stack_conjuncts : List Term → List Term
stack_conjuncts [] = []
stack_conjuncts (t ∷ ts) = stack_conjuncts ts ++ conjuncts t

-- how large the terms of a stack are together
abbrev pub stack_size : List Term → ℕ
stack_size [] = 0
stack_size (t ∷ ts) = size t + stack_size ts

with_nothing : {A : Type 0} (xs : List A) → xs ≡ xs ++ []
with_nothing [] = refl
with_nothing (x ∷ xs) = ap (λ ys. x ∷ ys) (with_nothing xs)

size_two : (f : ℕ) (l r : Term) → size (term.Node f (l ∷ r ∷ [])) ≡ (size l + (size r + 0)) + 1
size_two f l r = fold-Node ℕ size_step f (l ∷ r ∷ [])

-- the same of references, seen as what they lead to
module _ {R : Type 0} (seen : R → Term) where
  stack_push : (ps : List R) (x : R) → stack_conjuncts (map seen (ps ++ x ∷ [])) ≡ conjuncts (seen x) ++ stack_conjuncts (map seen ps)
  stack_push [] x = with_nothing (conjuncts (seen x))
  stack_push (p ∷ ps) x = ap (λ ts. ts ++ conjuncts (seen p)) (stack_push ps x) ∙ append_assoc (conjuncts (seen x)) (stack_conjuncts (map seen ps)) (conjuncts (seen p))

  size_push : (ps : List R) (x : R) → stack_size (map seen (ps ++ x ∷ [])) ≡ size (seen x) + stack_size (map seen ps)
  size_push [] x = refl
  size_push (p ∷ ps) x = omega (arith, size_push ps x)

  map_push : (xs : List R) (x : R) → map seen (xs ++ x ∷ []) ≡ map seen xs ++ seen x ∷ []
  map_push [] x = refl
  map_push (y ∷ ys) x = ap (λ ts. seen y ∷ ts) (map_push ys x)

  module _ (pending rest : List R) (x : R) (top : pending ≡ rest ++ x ∷ []) where
    -- a term that is no conjunction goes to the items
    pub item_turn : (terms more : List R) (all : List Term) → more ≡ terms ++ x ∷ [] → pair_of COMMA (out-Term (seen x)) ≡ None → map seen terms ++ stack_conjuncts (map seen pending) ≡ all
        → map seen more ++ stack_conjuncts (map seen rest) ≡ all
    item_turn terms more all pushed alone whole =
        ap (λ ts. map seen ts ++ stack_conjuncts (map seen rest)) pushed
        ∙ ap (λ ts. ts ++ stack_conjuncts (map seen rest)) (map_push terms x)
        ∙ append_assoc (map seen terms) (seen x ∷ []) (stack_conjuncts (map seen rest))
        ∙ ap (λ ts. map seen terms ++ (ts ++ stack_conjuncts (map seen rest))) (sym (conjuncts_alone (seen x) alone))
        ∙ ap (λ ts. map seen terms ++ ts) (sym (ap (λ ps. stack_conjuncts (map seen ps)) top ∙ stack_push rest x))
        ∙ whole

    pub item_smaller : stack_size (map seen rest) < stack_size (map seen pending)
    item_smaller =
        let e : stack_size (map seen pending) ≡ size (seen x) + stack_size (map seen rest) = ap (λ ps. stack_size (map seen ps)) top ∙ size_push rest x in
        omega (arith, e, size_pos (seen x))

    -- the sides of a conjunction take its place
    module _ (l r : R) (one two : List R) (right : one ≡ rest ++ r ∷ []) (left : two ≡ one ++ l ∷ []) (is : seen x ≡ term.Node COMMA (seen l ∷ seen r ∷ [])) where
      pub sides_turn : (terms : List R) (all : List Term) → map seen terms ++ stack_conjuncts (map seen pending) ≡ all → map seen terms ++ stack_conjuncts (map seen two) ≡ all
      sides_turn terms all whole =
          ap (λ ts. map seen terms ++ ts)
          (ap (λ ps. stack_conjuncts (map seen ps)) left ∙ stack_push one l
          ∙ ap (λ ps. conjuncts (seen l) ++ stack_conjuncts (map seen ps)) right
          ∙ ap (λ ts. conjuncts (seen l) ++ ts) (stack_push rest r)
          ∙ sym (append_assoc (conjuncts (seen l)) (conjuncts (seen r)) (stack_conjuncts (map seen rest)))
          ∙ ap (λ ts. ts ++ stack_conjuncts (map seen rest)) (sym (conjuncts_two (seen x) (seen l) (seen r) is))
          ∙ sym (ap (λ ps. stack_conjuncts (map seen ps)) top ∙ stack_push rest x))
          ∙ whole

      pub sides_smaller : stack_size (map seen two) < stack_size (map seen pending)
      sides_smaller =
          let e : stack_size (map seen pending) ≡ size (seen x) + stack_size (map seen rest) = ap (λ ps. stack_size (map seen ps)) top ∙ size_push rest x in
          let f : stack_size (map seen two) ≡ size (seen l) + stack_size (map seen one) = ap (λ ps. stack_size (map seen ps)) left ∙ size_push one l in
          let g : stack_size (map seen one) ≡ size (seen r) + stack_size (map seen rest) = ap (λ ps. stack_size (map seen ps)) right ∙ size_push rest r in
          let h : size (seen x) ≡ (size (seen l) + (size (seen r) + 0)) + 1 = ap size is ∙ size_two COMMA (seen l) (seen r) in
          omega (arith, e, f, g, h)

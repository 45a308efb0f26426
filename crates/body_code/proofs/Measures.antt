-- How large terms and their parts are: for measures alone.
use Rattle.std.proofs.Common.{◌≡◌, ◌≤◌, ◌<◌, ◌+◌, ℕ, zero, suc, List, [], ◌∷◌, length, get_or, ap, sym, ◌∙◌, arith}
use Rattle.term_core.specs.declared.terms.Term.{Term, Node}
use Rattle.term_core.specs.Sizes.{size, size_all, size_step}
use Rattle.term_core.proofs.TermFolds.{fold_at_node}

-- a compound counts one more than its parts
pub size_node : (f : ℕ) (t : Term) (ts us : List Term) → t ≡ Node f ts → us ≡ ts → size t ≡ size_all us + 1
size_node f t ts us e same = fold_at_node ℕ size_step t f ts e ∙ ap (λ xs. size_all xs + 1) (sym same)

pub size_pair : (f : ℕ) (t a b : Term) → t ≡ Node f (a ∷ b ∷ []) → size t ≡ (size a + size b) + 1
size_pair f t a b e = let whole : size t ≡ (size a + (size b + 0)) + 1 = fold_at_node ℕ size_step t f (a ∷ b ∷ []) e in omega (arith, whole)

pub size_at : (i : ℕ) (ts : List Term) (t : Term) → i < length ts → t ≡ get_or ts i t → size t ≤ size_all ts
size_at i [] t lt e = absurd (omega (arith, lt))
size_at zero (u ∷ ts) t lt e = omega (arith, ap size e)
size_at (suc i) (u ∷ ts) t lt e = omega (arith, size_at i ts t (omega (arith, lt)) e)

-- two parts of a list of two
pub size_two : (ts : List Term) (a b : Term) → length ts ≡ 2 → a ≡ get_or ts 0 a → b ≡ get_or ts 1 b → size_all ts ≡ size a + size b
size_two [] a b l p q = absurd (omega (arith, l))
size_two (t ∷ []) a b l p q = absurd (omega (arith, l))
size_two (t ∷ u ∷ []) a b l p q = omega (arith, ap size p, ap size q)
size_two (t ∷ u ∷ v ∷ ts) a b l p q = absurd (omega (arith, l))

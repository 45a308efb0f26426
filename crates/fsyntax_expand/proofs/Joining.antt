-- Goals that are joined by commas.
use Rattle.std.proofs.Common.{◌≡◌, List, [], ◌∷◌, ◌++◌, refl, ap}
use Rattle.std.specs.Prelude.{length, slice_set}
use Rattle.term_core.specs.declared.fixed.TheConstants.{COMMA, NECK}
use Rattle.term_core.specs.declared.terms.Term.{Term}
use Rattle.dcg_expand.specs.Expansion.{pair}
use Rattle.fsyntax_expand.specs.Expansion.{before, conjunction, clause}

-- the last goal joined to what stands behind all
pub before_append : (gs : List Term) (g last : Term) → before (gs ++ g ∷ []) last ≡ before gs (pair COMMA g last)
before_append [] g last = refl
before_append (h ∷ gs) g last = ap (pair COMMA h) (before_append gs g last)

conjunction-append : (g : Term) (gs : List Term) (last : Term) → conjunction g (gs ++ last ∷ []) ≡ before (g ∷ gs) last
conjunction-append g [] last = refl
conjunction-append g (h ∷ gs) last = ap (pair COMMA g) (conjunction-append h gs last)

-- a clause with a last goal
pub clause_append : (head : Term) (gs : List Term) (last : Term) → clause head (gs ++ last ∷ []) ≡ pair NECK head (before gs last)
clause_append head [] last = refl
clause_append head (g ∷ gs) last = ap (pair NECK head) (conjunction-append g gs last)

-- what is put in the place of the last item
pub set_last : {A : Type 0} (xs : List A) (x y : A) → slice_set (xs ++ x ∷ []) (length xs) y ≡ xs ++ y ∷ []
set_last [] x y = refl
set_last (z ∷ xs) x y = ap (λ zs. z ∷ zs) (set_last xs x y)

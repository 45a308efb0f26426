-- Terms that are taken apart and put together down their last arguments.
use Rattle.std.proofs.Common.{◌≡◌, ℕ, ◌-◌, List, [], ◌∷◌, ◌++◌, length, refl, ap, sym, ◌∙◌, length-append, arith}
use Rattle.std.specs.Prelude.{slice_set}
use Rattle.term_core.specs.declared.fixed.TheConstants.{NIL}
use Rattle.term_core.specs.declared.terms.Term.{Term}
use Rattle.term_core.specs.declared.terms.Term as term
use Rattle.unit_scopes.specs.Copies.{closed, closed_all}
use Rattle.unit_scopes.specs.declared.copies.Open.{Open}

-- what is put in the place of the last item
pub set_last : {A : Type 0} (xs : List A) (x y : A) → slice_set (xs ++ x ∷ []) (length xs) y ≡ xs ++ y ∷ []
set_last [] x y = refl
set_last (z ∷ zs) x y = ap (λ ws. z ∷ ws) (set_last zs x y)

-- the same place by the length of all
pub set_behind : {A : Type 0} (xs : List A) (x y : A) → slice_set (xs ++ x ∷ []) (length (xs ++ x ∷ []) - 1) y ≡ xs ++ y ∷ []
set_behind xs x y =
    let same : length (xs ++ x ∷ []) - 1 ≡ length xs = omega (arith, length-append xs (x ∷ [])) in
    ap (λ n. slice_set (xs ++ x ∷ []) n y) same ∙ set_last xs x y

-- a compound that is opened and closed again
pub closed_opened : (outer : Open) (name : ℕ) (front : List Term) (last whole : Term) → outer ≡ record { name = name; parts = front ++ term.Atom NIL ∷ [] } → whole ≡ term.Node name (front ++ last ∷ []) → closed outer last ≡ whole
closed_opened outer name front last whole e made =
    ap (λ o. closed o last) e ∙ ap (term.Node name) (set_behind front (term.Atom NIL) last) ∙ sym made

-- one compound more in the last place
pub closed_all_append : (compounds : List Open) (outer : Open) (t : Term) → closed_all (compounds ++ outer ∷ []) t ≡ closed_all compounds (closed outer t)
closed_all_append [] outer t = refl
closed_all_append (o ∷ os) outer t = ap (closed o) (closed_all_append os outer t)

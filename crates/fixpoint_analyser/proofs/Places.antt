-- What stands in a list, by its place.
use Rattle.std.proofs.Common.{◌≡◌, ℕ, zero, suc, ◌<◌, ◌≤◌, List, [], ◌∷◌, ◌++◌, length, map, take, drop, get_or, refl, ap, sym, subst, arith}
use Rattle.std.proofs.lemmas.List.{take_at}
use Rattle.std.proofs.lemmas.Option.{none-some, same_Some}
use Rattle.std.specs.Prelude.{slice_get, slice_index_or, Some, Contains}
use Rattle.std.specs.List.{AllByRecursion}
use Rattle.prog_data.specs.declared.programs.Pred.{Pred}
use Rattle.prog_data.specs.Goals.{no_pred}

pub got_contains : {A : Type 0} (xs : List A) (i : ℕ) (x : A) → slice_get xs i ≡ Some x → Contains xs x
got_contains [] i x e = absurd (none-some x e)
got_contains (y ∷ xs) zero x e = (0, omega arith, same_Some y x e)
got_contains (y ∷ xs) (suc i) x e = let c = got_contains xs i x e in (suc c.0, (let lt = c.1 in omega (arith, lt)), c.2)

pub got_at : {A : Type 0} (xs : List A) (k : ℕ) (x : A) → k < length xs → slice_index_or xs k x ≡ x → slice_get xs k ≡ Some x
got_at [] k x lt e = absurd (omega (arith, lt))
got_at (y ∷ xs) zero x lt e = ap Some e
got_at (y ∷ xs) (suc k) x lt e = got_at xs k x (omega (arith, lt)) e

pub got_within : {A : Type 0} (xs : List A) (i : ℕ) (x : A) → slice_get xs i ≡ Some x → i < length xs
got_within [] i x e = absurd (none-some x e)
got_within (y ∷ xs) zero x e = omega arith
got_within (y ∷ xs) (suc i) x e = let lt = got_within xs i x e in omega (arith, lt)

-- below the length something stands
pub got_there : {A : Type 0} (xs : List A) (k : ℕ) → k < length xs → (x : A) × (slice_get xs k ≡ Some x)
got_there [] k lt = absurd (omega (arith, lt))
got_there (y ∷ xs) zero lt = (y, refl)
got_there (y ∷ xs) (suc k) lt = got_there xs k (omega (arith, lt))

-- what is read in its place is what stands there
pub read_got : {A : Type 0} (xs : List A) (k : ℕ) (x : A) → k < length xs → x ≡ get_or xs k x → slice_get xs k ≡ Some x
read_got xs k x lt e = got_at xs k x lt (sym e)

-- what is true of all is true of what is read
pub all_read : {A B : Type 0} (P : B → Type 0) (f : A → B) (xs : List A) (k : ℕ) (x : A) → k < length xs → x ≡ get_or xs k x → AllByRecursion P (map f xs) → P (f x)
all_read P f [] k x lt e h = absurd (omega (arith, lt))
all_read P f (y ∷ xs) zero x lt e h = subst (λ z. P (f z)) (sym e) h.0
all_read P f (y ∷ xs) (suc k) x lt e h = all_read P f xs k x (omega (arith, lt)) e h.1

pub pred_read : (preds : List Pred) (p : ℕ) (x : Pred) → p < length preds → x ≡ get_or preds p x → slice_index_or preds p no_pred ≡ x
pred_read [] p x lt e = absurd (omega (arith, lt))
pred_read (y ∷ preds) zero x lt e = sym e
pred_read (y ∷ preds) (suc p) x lt e = pred_read preds p x (omega (arith, lt)) e

-- where no predicate is
pub past_pred : (preds : List Pred) (p : ℕ) → length preds ≤ p → slice_index_or preds p no_pred ≡ no_pred
past_pred [] p le = refl
past_pred (x ∷ preds) zero le = absurd (omega (arith, le))
past_pred (x ∷ preds) (suc p) le = past_pred preds p (omega (arith, le))

-- what a list has, once a slice of all of it was written
pub written_back : {A : Type 0} (new old : List A) (n : ℕ) → n ≡ length new → take n (new ++ drop (length new) old) ≡ new
written_back new old n e = take_at new (drop (length new) old) n (sym e)

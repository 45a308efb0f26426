-- Numbers as a set.
use Rattle.std.proofs.Common.{◌≡◌, ℕ, Bool, true, false, List, [], ◌∷◌, ◌++◌, refl, ap, sym, ◌∙◌, subst}
use Rattle.std.specs.Prelude.{◌||◌, cond, nat_eq}
use Rattle.std.specs.List.{list_any}
use Rattle.std.proofs.lemmas.Bool.{eqb-true}
use Rattle.indexmap.specs.IndexSet.{insert_key}

pub or_false : (a : Bool) → (a || false) ≡ a
or_false true = refl
or_false false = refl

-- a test that comes behind others, before them
pub or_turn : (a b c : Bool) → ((a || b) || c) ≡ (b || (a || c))
or_turn true true c = refl
or_turn true false c = refl
or_turn false true c = refl
or_turn false false c = refl

last_first : (p : ℕ → Bool) (ks : List ℕ) (v : ℕ) → list_any p (ks ++ v ∷ []) ≡ (p v || list_any p ks)
last_first p [] v = refl
last_first p (k ∷ ks) v = ap (λ b. p k || b) (last_first p ks v) ∙ swap (p k) (p v) (list_any p ks)
  where
    swap : (a b c : Bool) → (a || (b || c)) ≡ (b || (a || c))
    swap true true c = refl
    swap true false c = refl
    swap false true c = refl
    swap false false c = refl

-- the numbers of a set with one more
pub inserted : (ks new : List ℕ) (v : ℕ) → new ≡ insert_key nat_eq ks v → (n : ℕ) → list_any (nat_eq n) new ≡ (nat_eq n v || list_any (nat_eq n) ks)
inserted ks new v is n = ap (list_any (nat_eq n)) is ∙ by (list_any (nat_eq v) ks) refl
  where
    here : (b : Bool) → nat_eq n v ≡ b → list_any (nat_eq v) ks ≡ true → list_any (nat_eq n) ks ≡ (b || list_any (nat_eq n) ks)
    here true same has = subst (λ k. list_any (nat_eq k) ks ≡ true) (sym (eqb-true n v same)) has
    here false same has = refl

    by : (b : Bool) → list_any (nat_eq v) ks ≡ b → list_any (nat_eq n) (cond b ks (ks ++ v ∷ [])) ≡ (nat_eq n v || list_any (nat_eq n) ks)
    by true has = here (nat_eq n v) refl has
    by false has = last_first (nat_eq n) ks v

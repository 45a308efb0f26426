-- Of the troubles of one assertion's names the first is told.
use Rattle.std.proofs.Common.{◌≡◌, ◌⊎◌, inl, inr, ℕ, zero, suc, ◌<◌, nat_lt, Bool, true, false, List, [], ◌∷◌, ◌++◌, length, slice_index_or, refl, ap, sym, ◌∙◌, ◌↔◌, arith}
use Rattle.std.specs.Prelude.{cond, Contains, Option, Some, None}
use Rattle.term_core.proofs.OperandLaws.{none_part, some_part}
use Rattle.prog_data.specs.declared.grammars.Seen.{Seen}
use Rattle.assertion_read.specs.declared.assertions.Assertion.{Assertion}
use Rattle.assertion_normal.specs.declared.troubles.Trouble.{Trouble}
use Rattle.assertion_normal.specs.declared.troubles.Trouble.TheVariants as what
use Rattle.assertion_normal.specs.Settling.{counts}
use Rattle.assertion_normal.specs.Troubles.{rank, worse, worst_from, own_troubles, own_trouble, trouble_of}
use Rattle.assertion_normal.specs.Laws.{HasTrouble, OwnTroubleIsTold}

-- an item is one of a list
abbrev Has : {A : Type 0} → List A → A → Type 0
Has [] x = ⊥
Has (y ∷ ys) x = (y ≡ x) ⊎ Has ys x

contains : {A : Type 0} (xs : List A) (x : A) → Has xs x → Contains xs x
contains [] x h = absurd h
contains (y ∷ ys) x (inl e) = (0, omega arith, e)
contains (y ∷ ys) x (inr h) =
    let rest = contains ys x h in
    let lt : rest.0 < length ys = rest.1 in
    let more : suc rest.0 < suc (length ys) = omega (arith, lt) in
    (suc rest.0, more, rest.2)

has : {A : Type 0} (xs : List A) (x : A) (k : ℕ) → k < length xs → slice_index_or xs k x ≡ x → Has xs x
has [] x k lt e = let no : k < 0 = lt in absurd (omega (arith, no))
has (y ∷ ys) x zero lt e = inl e
has (y ∷ ys) x (suc k) lt e = let more : suc k < suc (length ys) = lt in inr (has ys x k (omega (arith, more)) e)

abbrev unknown : Option Trouble
unknown = Some what.Unknown

abbrev several : Option Trouble
several = Some what.Several

unlike : (◌≡◌ {A = Option Trouble} unknown several) → ⊥
unlike e = let ranks : 0 ≡ 1 = ap rank (some_part what.Unknown what.Several e) in absurd (omega (arith, ranks))

-- what comes out is one of those that went in
either : (a b : Option Trouble) (t : Trouble) → worse a b ≡ Some t → (a ≡ Some t) ⊎ (b ≡ Some t)
either None b t e = inr e
either (Some a) None t e = inl e
either (Some a) (Some b) t e = by (nat_lt (rank b) (rank a)) e
  where
    by : (c : Bool) → cond c (Some b) (Some a) ≡ Some t → (◌≡◌ {A = Option Trouble} (Some a) (Some t)) ⊎ (◌≡◌ {A = Option Trouble} (Some b) (Some t))
    by true e' = inr e'
    by false e' = inl e'

found_among : (t : Trouble) (found : Option Trouble) (ts : List (Option Trouble)) → worst_from found ts ≡ Some t → (found ≡ Some t) ⊎ Has ts (Some t)
found_among t found [] e = inl e
found_among t found (o ∷ os) e = by (found_among t (worse found o) os e)
  where
    one : (found ≡ Some t) ⊎ (o ≡ Some t) → (found ≡ Some t) ⊎ Has (o ∷ os) (Some t)
    one (inl f) = inl f
    one (inr f) = inr (inl f)

    by : (worse found o ≡ Some t) ⊎ Has os (Some t) → (found ≡ Some t) ⊎ Has (o ∷ os) (Some t)
    by (inl f) = one (either found o t f)
    by (inr h) = inr (inr h)

-- a name that means nothing comes first
stays_unknown : (ts : List (Option Trouble)) → worst_from unknown ts ≡ unknown
stays_unknown [] = refl
stays_unknown (None ∷ ts) = stays_unknown ts
stays_unknown (Some what.Unknown ∷ ts) = stays_unknown ts
stays_unknown (Some what.Several ∷ ts) = stays_unknown ts

before_all : (found : Option Trouble) → worse found unknown ≡ unknown
before_all None = refl
before_all (Some what.Unknown) = refl
before_all (Some what.Several) = refl

unknown_first : (found : Option Trouble) (ts : List (Option Trouble)) → Has ts unknown → worst_from found ts ≡ unknown
unknown_first found [] h = absurd h
unknown_first found (t ∷ ts) (inl e) = ap (λ o. worst_from (worse found o) ts) e ∙ ap (λ o. worst_from o ts) (before_all found) ∙ stays_unknown ts
unknown_first found (t ∷ ts) (inr h) = unknown_first (worse found t) ts h

-- then one that means several types
stays_several : (ts : List (Option Trouble)) → (Has ts unknown → ⊥) → worst_from several ts ≡ several
stays_several [] n = refl
stays_several (None ∷ ts) n = stays_several ts (λ h. n (inr h))
stays_several (Some what.Unknown ∷ ts) n = absurd (n (inl refl))
stays_several (Some what.Several ∷ ts) n = stays_several ts (λ h. n (inr h))

several_first : (ts : List (Option Trouble)) → Has ts several → (Has ts unknown → ⊥) → worst_from None ts ≡ several
several_first [] h n = absurd h
several_first (None ∷ ts) (inl e) n = absurd (none_part what.Several e)
several_first (None ∷ ts) (inr h) n = several_first ts h (λ k. n (inr k))
several_first (Some what.Unknown ∷ ts) h n = absurd (n (inl refl))
several_first (Some what.Several ∷ ts) h n = stays_several ts (λ k. n (inr k))

-- of an assertion
module _ (names : List (List ℕ)) (seen : List Seen) (a : Assertion) where
  told_by : (t : Trouble) → trouble_of names seen a ≡ Some t → (counts a.mark ≡ true) × (own_trouble names seen a ≡ Some t)
  told_by t e = by (counts a.mark) refl e
    where
      by : (b : Bool) → counts a.mark ≡ b → cond b (own_trouble names seen a) None ≡ Some t → (counts a.mark ≡ true) × (own_trouble names seen a ≡ Some t)
      by true i e' = (i, e')
      by false i e' = absurd (none_part t e')

  is_told : (t : Trouble) → counts a.mark ≡ true → own_trouble names seen a ≡ Some t → trouble_of names seen a ≡ Some t
  is_told t i e = ap (λ b. cond b (own_trouble names seen a) None) i ∙ e

  one_has : (t : Trouble) → own_trouble names seen a ≡ Some t → Contains (own_troubles names seen a) (Some t)
  one_has t e = by (found_among t None (own_troubles names seen a) e)
    where
      by : (◌≡◌ {A = Option Trouble} None (Some t)) ⊎ Has (own_troubles names seen a) (Some t) → Contains (own_troubles names seen a) (Some t)
      by (inl f) = absurd (none_part t f)
      by (inr h) = contains (own_troubles names seen a) (Some t) h

  has_one : (t : Trouble) → Contains (own_troubles names seen a) (Some t) → Has (own_troubles names seen a) (Some t)
  has_one t h = has (own_troubles names seen a) (Some t) h.0 h.1 h.2

  own_unknown : Contains (own_troubles names seen a) unknown → own_trouble names seen a ≡ unknown
  own_unknown h = unknown_first None (own_troubles names seen a) (has_one what.Unknown h)

  own_several : Contains (own_troubles names seen a) several → (Contains (own_troubles names seen a) unknown → ⊥) → own_trouble names seen a ≡ several
  own_several h n = several_first (own_troubles names seen a) (has_one what.Several h) (λ k. n (contains (own_troubles names seen a) unknown k))

  unknown_told : (trouble_of names seen a ≡ unknown) ↔ HasTrouble names seen a what.Unknown
  unknown_told = ((λ e. let told = told_by what.Unknown e in (told.0, one_has what.Unknown told.1)), (λ h. is_told what.Unknown h.0 (own_unknown h.1)))

  several_told : (trouble_of names seen a ≡ several) ↔ (HasTrouble names seen a what.Several × (HasTrouble names seen a what.Unknown → ⊥))
  several_told = (
    (λ e. let told = told_by what.Several e in ((told.0, one_has what.Several told.1), (λ h. unlike (sym (own_unknown h.1) ∙ told.1)))),
    (λ h. is_told what.Several h.0.0 (own_several h.0.1 (λ k. h.1 (h.0.0, k)))),
  )

pub own_trouble_told : OwnTroubleIsTold
own_trouble_told = record { unknown = λ names seen a. unknown_told names seen a; several = λ names seen a. several_told names seen a }

-- the code, which goes over the three lists one after the other
worst_append : (found : Option Trouble) (xs ys : List (Option Trouble)) → worst_from found (xs ++ ys) ≡ worst_from (worst_from found xs) ys
worst_append found [] ys = refl
worst_append found (x ∷ xs) ys = worst_append (worse found x) xs ys

pub worst_in_turn : (found : Option Trouble) (xs ys zs : List (Option Trouble)) → worst_from (worst_from (worst_from found xs) ys) zs ≡ worst_from found (xs ++ (ys ++ zs))
worst_in_turn found xs ys zs = sym (worst_append (worst_from found xs) ys zs) ∙ sym (worst_append found xs (ys ++ zs))

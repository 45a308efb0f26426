-- Tests that hold together, and tests of lists.
use Rattle.std.proofs.Common.{◌≡◌, Bool, true, false, ◌&&◌, ◌||◌, List, [], ◌∷◌, refl, ap, sym, ◌∙◌}
use Rattle.std.proofs.lemmas.Bool.{and_from}
use Rattle.std.specs.Prelude.{not}
use Rattle.std.specs.List.{list_any, list_all}
use Rattle.prog_data.specs.declared.grammars.Rule.{Rule}
use Rattle.prog_data.proofs.Leaves.{In, here, later, any_in, in_any}
use Rattle.name_order.specs.Fixpoints.{Within}
use Rattle.name_order.specs.Held.{SameLeaves}

pub and_left : (a b : Bool) → (a && b) ≡ true → a ≡ true
and_left true b e = refl
and_left false b e = e

pub and_right : (a b : Bool) → (a && b) ≡ true → b ≡ true
and_right true b e = e
and_right false b e = cc

pub all_mono : {A : Type 0} (p q : A → Bool) → Within p q → (xs : List A) → list_all p xs ≡ true → list_all q xs ≡ true
all_mono p q w [] e = refl
all_mono p q w (x ∷ xs) e = and_from (q x) (list_all q xs) (w x (and_left _ _ e)) (all_mono p q w xs (and_right (p x) _ e))

pub any_mono : {A : Type 0} (p q : A → Bool) → Within p q → (xs : List A) → list_any p xs ≡ true → list_any q xs ≡ true
any_mono p q w xs e = let m = any_in p xs e in in_any q xs m.1 (w m.0 m.2)

pub all_in : {A : Type 0} {x : A} (p : A → Bool) (xs : List A) → list_all p xs ≡ true → In x xs → p x ≡ true
all_in p [] e i = elim i [ ]
all_in p (x ∷ xs) e here = and_left _ _ e
all_in p (y ∷ xs) e (later i) = all_in p xs (and_right (p y) _ e) i

pub all_given : {A : Type 0} (p : A → Bool) (xs : List A) → ((x : A) → In x xs → p x ≡ true) → list_all p xs ≡ true
all_given p [] h = refl
all_given p (x ∷ xs) h = and_from (p x) (list_all p xs) (h x here) (all_given p xs (λ y i. h y (later i)))

all_by_any : (p : Rule → Bool) (xs : List Rule) → list_all p xs ≡ not (list_any (λ x. not (p x)) xs)
all_by_any p [] = refl
all_by_any p (x ∷ xs) = either (p x) (all_by_any p xs)
  where
    either : (b : Bool) → list_all p xs ≡ not (list_any (λ x. not (p x)) xs) → (b && list_all p xs) ≡ not (not b || list_any (λ x. not (p x)) xs)
    either true e = e
    either false e = refl

-- leaves that are the same for each test are so for tests that all of them pass
pub same_all : (xs ys : List Rule) → SameLeaves xs ys → (p : Rule → Bool) → list_all p xs ≡ list_all p ys
same_all xs ys same p = all_by_any p xs ∙ ap not (same (λ x. not (p x))) ∙ sym (all_by_any p ys)

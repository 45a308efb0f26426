-- What is in range of a grammar is in range of each larger one.
use Rattle.std.proofs.Common.{◌≡◌, ℕ, ◌≤◌, Bool, true, List, [], ◌∷◌, refl}
use Rattle.std.specs.List.{list_all}
use Rattle.std.proofs.lemmas.Bool.{and_parts, and_from}
use Rattle.prog_data.specs.declared.conditions.Prop.{Prop}
use Rattle.prog_data.specs.declared.conditions.CondKind.{CondKind}
use Rattle.prog_data.specs.declared.conditions.CondKind.TheVariants.{Calls, Success, Comp}
use Rattle.prog_data.specs.Ranges.{is_prop_of, is_kind_of}
use Rattle.assertion_normal.specs.Laws.{RangesGrow}
use Rattle.assertion_normal.proofs.AskedLaws.{prop_more}

all_more : {A : Type 0} (p q : A → Bool) → ((x : A) → p x ≡ true → q x ≡ true) → (xs : List A) → list_all p xs ≡ true → list_all q xs ≡ true
all_more p q holds [] e = refl
all_more p q holds (x ∷ xs) e = let both = and_parts (p x) (list_all p xs) e in and_from (q x) (list_all q xs) (holds x both.0) (all_more p q holds xs both.1)

module _ (arity size more : ℕ) (le : size ≤ more) where
  props_more : (props : List Prop) → list_all (is_prop_of arity size) props ≡ true → list_all (is_prop_of arity more) props ≡ true
  props_more props e = all_more (is_prop_of arity size) (is_prop_of arity more) (λ p i. prop_more arity size more p le i) props e

  kind_more : (kind : CondKind) → is_kind_of arity size kind ≡ true → is_kind_of arity more kind ≡ true
  kind_more (Calls disjuncts) e = all_more (list_all (is_prop_of arity size)) (list_all (is_prop_of arity more)) props_more disjuncts e
  kind_more (Success pre post) e =
      let both = and_parts (list_all (is_prop_of arity size) pre) (list_all (is_prop_of arity size) post) e in
      and_from (list_all (is_prop_of arity more) pre) (list_all (is_prop_of arity more) post) (props_more pre both.0) (props_more post both.1)
  kind_more (Comp pre property) e = props_more pre e

pub ranges_grow : RangesGrow
ranges_grow arity size more le = (kind_more arity size more le, props_more arity size more le)

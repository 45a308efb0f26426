-- What is found in an index is what the directives name.
use Rattle.std.proofs.Common.{◌≡◌, ℕ, Bool, true, false, ◌&&◌, ◌||◌, ◌==◌, List, [], ◌∷◌, ◌++◌, Option, None, Some, refl, ap, sym, subst, ◌∙◌, cond, true≢false, arith}
use Rattle.std.specs.Prelude.{nat_eq}
use Rattle.std.specs.List.{list_any}
use Rattle.std.specs.Option.{option_map_or}
use Rattle.std.proofs.lemmas.Bool.{and_parts, eqb-true}
use Rattle.std.proofs.lemmas.Bool.Decides.{nat_tests}
use Rattle.std.proofs.lemmas.List.Folds.{list_any-append}
use Rattle.ciao_modules.specs.declared.units.Export.{Export}
use Rattle.ciao_modules.specs.declared.units.Import.{Import}
use Rattle.body_code.specs.declared.faults.Indicator.{Indicator}
use Rattle.unit_scopes.specs.Indicators.{same_indicator, is_among, with_indicator}
use Rattle.unit_scopes.specs.Imports.{exported, is_named_in, lets_in}
use Rattle.unit_scopes.specs.Sources.{same_wanted, wanted_of, named_behind, Imported, with_wanted, wanted_behind, with_only, imports_behind, lets}
use Rattle.unit_scopes.specs.declared.indexes.Wanted.{Wanted}

-- what is the same

pub same_is : (p q : Indicator) → same_indicator p q ≡ true → p ≡ q
same_is p q e =
    let both = and_parts (p.name == q.name) (p.arity == q.arity) e in
    let name = eqb-true p.name q.name both.0 in
    let arity = eqb-true p.arity q.arity both.1 in
    λ i. record { name = name i; arity = arity i }

pub same_wanted_is : (a b : Wanted) → same_wanted a b ≡ true → a ≡ b
same_wanted_is a b e =
    let both = and_parts (a.unit == b.unit) ((a.name == b.name) && (a.arity == b.arity)) e in
    let rest = and_parts (a.name == b.name) (a.arity == b.arity) both.1 in
    let unit = eqb-true a.unit b.unit both.0 in
    let name = eqb-true a.name b.name rest.0 in
    let arity = eqb-true a.arity b.arity rest.1 in
    λ i. record { unit = unit i; name = name i; arity = arity i }

-- one more, where it is new

module _ {A : Type 0} (same : A → A → Bool) (is : (x y : A) → same x y ≡ true → x ≡ y) (test : A → Bool) where
  -- what is there passes with it
  had : (xs : List A) (y : A) → list_any (same y) xs ≡ true → test y ≡ true → list_any test xs ≡ true
  had [] y e passes = absurd (true≢false (sym e))
  had (x ∷ xs) y e passes = by (same y x) refl e (λ there. had xs y there passes)
    where
      later : (b : Bool) → list_any test xs ≡ true → (b || list_any test xs) ≡ true
      later true found = refl
      later false found = found

      by : (b : Bool) → same y x ≡ b → (b || list_any (same y) xs) ≡ true → (list_any (same y) xs ≡ true → list_any test xs ≡ true) → (test x || list_any test xs) ≡ true
      by true here there rest = ap (λ b. b || list_any test xs) (sym (ap test (is y x here)) ∙ passes)
      by false other there rest = later (test x) (rest there)

  pub any_added : (xs : List A) (y : A) → list_any test (cond (list_any (same y) xs) xs (xs ++ y ∷ [])) ≡ (list_any test xs || test y)
  any_added xs y = by (list_any (same y) xs) refl
    where
      same_or : (c : Bool) → c ≡ (c || false)
      same_or true = refl
      same_or false = refl

      known : (b : Bool) → test y ≡ b → list_any (same y) xs ≡ true → list_any test xs ≡ (list_any test xs || b)
      known true passes e = had xs y e passes ∙ sym (ap (λ c. c || true) (had xs y e passes))
      known false fails e = same_or (list_any test xs)

      last : list_any test (xs ++ y ∷ []) ≡ (list_any test xs || test y)
      last = list_any-append test xs (y ∷ []) ∙ ap (λ c. list_any test xs || c) (sym (same_or (test y)))

      by : (b : Bool) → list_any (same y) xs ≡ b → list_any test (cond b xs (xs ++ y ∷ [])) ≡ (list_any test xs || test y)
      by true e = known (test y) refl e
      by false e = last

pub or_again : (a b c : Bool) → ((a || b) || c) ≡ (a || (b || c))
or_again true b c = refl
or_again false b c = refl

pub or_nothing : (a : Bool) → a ≡ (a || false)
or_nothing true = refl
or_nothing false = refl

-- exports

pub named_is : (p : Indicator) (ps : List Indicator) (es : List Export) → is_among p (named_behind ps es) ≡ (is_among p ps || is_named_in es p)
named_is p ps [] = or_nothing (is_among p ps)
named_is p ps (e ∷ es) =
    named_is p (with_indicator ps (exported e)) es
    ∙ ap (λ b. b || is_named_in es p) (any_added same_indicator same_is (same_indicator p) ps (exported e))
    ∙ or_again (is_among p ps) (same_indicator p (exported e)) (is_named_in es p)

-- imports

module _ (at : ℕ) (p : Indicator) where
  -- what a list names
  wanted_is : (ws : List Wanted) (unit : ℕ) (es : List Export)
      → list_any (same_wanted (wanted_of at p)) (wanted_behind ws unit es) ≡ (list_any (same_wanted (wanted_of at p)) ws || ((unit == at) && is_named_in es p))
  wanted_is ws unit [] = or_nothing (list_any (same_wanted (wanted_of at p)) ws) ∙ ap (λ b. list_any (same_wanted (wanted_of at p)) ws || b) (nothing (unit == at))
    where
      nothing : (b : Bool) → false ≡ (b && false)
      nothing true = refl
      nothing false = refl
  wanted_is ws unit (e ∷ es) =
      wanted_is (with_wanted ws (wanted_of unit (exported e))) unit es
      ∙ ap (λ b. b || ((unit == at) && is_named_in es p)) (any_added same_wanted same_wanted_is (same_wanted (wanted_of at p)) ws (wanted_of unit (exported e)))
      ∙ or_again (list_any (same_wanted (wanted_of at p)) ws) (same_wanted (wanted_of at p) (wanted_of unit (exported e))) ((unit == at) && is_named_in es p)
      ∙ ap (λ b. list_any (same_wanted (wanted_of at p)) ws || b) (parts (unit == at) (at == unit) (turned at unit) (same_indicator p (exported e)) (is_named_in es p))
    where
      turned : (n m : ℕ) → (n == m) ≡ (m == n)
      turned n m = grind (arith, nat_tests)

      parts : (b c : Bool) → c ≡ b → (d rest : Bool) → ((c && d) || (b && rest)) ≡ (b && (d || rest))
      parts true true e d rest = refl
      parts false false e d rest = refl
      parts true false e d rest = absurd (true≢false (sym e))
      parts false true e d rest = absurd (true≢false e)

  -- what one import lets in
  lets_one : (i : Imported) (unit : ℕ) (only : Option (List Export))
      → lets (with_only i unit only) at p ≡ (lets i at p || ((unit == at) && option_map_or (λ es. is_named_in es p) only true))
  lets_one i unit None =
      ap (λ b. b || list_any (same_wanted (wanted_of at p)) i.wanted) (any_added nat_eq eqb-true (nat_eq at) i.whole unit)
      ∙ moved (list_any (nat_eq at) i.whole) (nat_eq at unit) (unit == at) (turned at unit) (list_any (same_wanted (wanted_of at p)) i.wanted)
    where
      turned : (n m : ℕ) → nat_eq n m ≡ (m == n)
      turned n m = grind (arith, nat_tests)

      moved : (a b c : Bool) → b ≡ c → (d : Bool) → ((a || b) || d) ≡ ((a || d) || (c && true))
      moved true b c e d = refl
      moved false true true e true = refl
      moved false true true e false = refl
      moved false false false e true = refl
      moved false false false e false = refl
      moved false true false e d = absurd (true≢false e)
      moved false false true e d = absurd (true≢false (sym e))
  lets_one i unit (Some es) =
      ap (λ b. list_any (nat_eq at) i.whole || b) (wanted_is i.wanted unit es)
      ∙ sym (or_again (list_any (nat_eq at) i.whole) (list_any (same_wanted (wanted_of at p)) i.wanted) ((unit == at) && is_named_in es p))

  pub lets_is : (i : Imported) (xs : List Import) → lets (imports_behind i xs) at p ≡ (lets i at p || list_any (lets_in at p) xs)
  lets_is i [] = or_nothing (lets i at p)
  lets_is i (x ∷ xs) =
      lets_is (with_only i x.unit x.only) xs
      ∙ ap (λ b. b || list_any (lets_in at p) xs) (lets_one i x.unit x.only)
      ∙ or_again (lets i at p) (lets_in at p x) (list_any (lets_in at p) xs)

-- Of several problems the one that comes first.
use Rattle.std.proofs.Common.{◌≡◌, ◌≤◌, ℕ, suc, Bool, true, false, List, [], ◌∷◌, refl, ap, sym, ◌∙◌, subst, arith}
use Rattle.std.proofs.lemmas.Bool.Decides.{nat_tests}
use Rattle.std.proofs.lemmas.Option.{same_Some, none-some}
use Rattle.std.specs.Prelude.{cond, nat_lt, Contains, Option, Some, None, IfSome}
use Rattle.std.specs.List.{AllByRecursion}
use Rattle.body_code.specs.declared.faults.Problem.{Problem}
use Rattle.body_code.specs.Problems.{rank, sooner, first_of}
use Rattle.body_code.specs.Laws.{IsFirst, FirstIsFound, BodiesAreOfParts}
use Rattle.body_code.proofs.Themselves.{at_variable, at_number, at_atom, at_compound}

less : (n m : ℕ) → nat_lt n m ≡ true → n ≤ m
less n m e = grind (arith, nat_tests)

not_less : (n m : ℕ) → nat_lt n m ≡ false → m ≤ n
not_less n m e = grind (arith, nat_tests)

-- two problems of which none is first are none
none_both : (p q : Option Problem) → sooner p q ≡ None → (p ≡ None) × (q ≡ None)
none_both None q e = (refl, e)
none_both (Some a) None e = absurd (none-some _ (sym e))
none_both (Some a) (Some b) e = by (nat_lt (rank b) (rank a)) e
  where
    by : (t : Bool) → cond t (Some b) (Some a) ≡ None → (Some a ≡ None) × (Some b ≡ None)
    by true e' = absurd (none-some _ (sym e'))
    by false e' = absurd (none-some _ (sym e'))

all_none : (ps : List (Option Problem)) → first_of ps ≡ None → AllByRecursion (λ p. p ≡ None) ps
all_none [] e = tt
all_none (p ∷ ps) e = let both = none_both p (first_of ps) e in (both.0, all_none ps both.1)

none_first : (ps : List (Option Problem)) → AllByRecursion (λ p. p ≡ None) ps → first_of ps ≡ None
none_first [] h = refl
none_first (p ∷ ps) h = ap (λ q. sooner q (first_of ps)) h.0 ∙ none_first ps h.1

abbrev NotBefore : Problem → Option Problem → Type 0
NotBefore p q = IfSome q (λ r. rank p ≤ rank r)

none_later : (p : Problem) (ps : List (Option Problem)) → AllByRecursion (λ q. q ≡ None) ps → AllByRecursion (NotBefore p) ps
none_later p [] h = tt
none_later p (q ∷ ps) h = (subst (NotBefore p) (sym h.0) tt, none_later p ps h.1)

sooner_yet : (p r : Problem) (ps : List (Option Problem)) → rank p ≤ rank r → AllByRecursion (NotBefore r) ps → AllByRecursion (NotBefore p) ps
sooner_yet p r [] le h = tt
sooner_yet p r (None ∷ ps) le h = (tt, sooner_yet p r ps le h.1)
sooner_yet p r (Some q ∷ ps) le h = let more : rank r ≤ rank q = h.0 in (omega (arith, le, more), sooner_yet p r ps le h.1)

behind : (q : Option Problem) (ps : List (Option Problem)) (p : Problem) → Contains ps (Some p) → Contains (q ∷ ps) (Some p)
behind q ps p c = (suc c.0, omega (arith, c.1), c.2)

at_front : (ps : List (Option Problem)) (p : Problem) → Contains (Some p ∷ ps) (Some p)
at_front ps p = (0, omega arith, refl)

first_one : (ps : List (Option Problem)) (p : Problem) → first_of ps ≡ Some p → IsFirst ps p
first_one [] p e = absurd (none-some _ e)
first_one (q ∷ qs) p e = by q (first_of qs) refl (first_one qs) e
  where
    two : (a b : Problem) (t : Bool) → nat_lt (rank b) (rank a) ≡ t → IsFirst qs b → cond t (Some b) (Some a) ≡ Some p → IsFirst (Some a ∷ qs) p
    two a b true less_is found e' =
        subst (IsFirst (Some a ∷ qs)) (same_Some _ _ e')
        (record { among = behind (Some a) qs b found.among; first = (less (rank b) (rank a) less_is, found.first) })
    two a b false less_is found e' =
        subst (IsFirst (Some a ∷ qs)) (same_Some _ _ e')
        (record { among = at_front qs a; first = (omega arith, sooner_yet a b qs (not_less (rank b) (rank a) less_is) found.first) })

    by : (o r : Option Problem) → first_of qs ≡ r → ((b : Problem) → first_of qs ≡ Some b → IsFirst qs b) → sooner o r ≡ Some p → IsFirst (o ∷ qs) p
    by None r i found e' = let is = found p (i ∙ e') in record { among = behind None qs p is.among; first = (tt, is.first) }
    by (Some a) None i found e' =
        subst (IsFirst (Some a ∷ qs)) (same_Some _ _ e')
        (record { among = at_front qs a; first = (omega arith, none_later a qs (all_none qs i)) })
    by (Some a) (Some b) i found e' = two a b (nat_lt (rank b) (rank a)) refl (found b i) e'

pub first_is_found : FirstIsFound
first_is_found = record { none = λ ps. (all_none ps, none_first ps); some = first_one }

pub bodies_are_of_parts : BodiesAreOfParts
bodies_are_of_parts = record { variables = at_variable; numbers = at_number; atoms = at_atom; compounds = at_compound }

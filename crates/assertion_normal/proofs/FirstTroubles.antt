-- The first trouble is that of an assertion, and no other comes before it.
use Rattle.std.proofs.Common.{◌≡◌, ◌⊎◌, inl, inr, ℕ, suc, ◌+◌, ◌<◌, ◌≤◌, ◌==◌, nat_lt, Bool, true, false, List, [], ◌∷◌, map, length, refl, ap, sym, ◌∙◌, true≢false, arith}
use Rattle.std.specs.Prelude.{◌&&◌, ◌||◌, cond, Contains, Option, Some, None}
use Rattle.std.specs.List.{AllByRecursion}
use Rattle.std.proofs.lemmas.Bool.Decides.{nat_tests}
use Rattle.term_core.proofs.OperandLaws.{none_part, some_part, eqb-eq}
use Rattle.prog_data.specs.declared.grammars.Seen.{Seen}
use Rattle.assertion_read.specs.declared.assertions.Assertion.{Assertion}
use Rattle.assertion_normal.specs.declared.troubles.Trouble.{Trouble}
use Rattle.assertion_normal.specs.declared.troubles.Trouble.TheVariants as what
use Rattle.assertion_normal.specs.declared.troubles.Troubled.{Troubled}
use Rattle.assertion_normal.specs.Troubles.{rank, at_line, is_before, sooner, least_from, troubled, least_trouble}
use Rattle.assertion_normal.specs.Laws.{IsFirstTrouble}

-- the order of troubles is that of a number: twice the line, and the rank

abbrev pub weight : Troubled → ℕ
weight t = t.line + t.line + rank t.trouble

rank_small : (t : Trouble) → rank t ≤ 1
rank_small what.Unknown = omega arith
rank_small what.Several = omega arith

same_trouble : (a b : Trouble) → rank a ≡ rank b → a ≡ b
same_trouble what.Unknown what.Unknown e = refl
same_trouble what.Unknown what.Several e = let no : 0 ≡ 1 = e in absurd (omega (arith, no))
same_trouble what.Several what.Unknown e = let no : 1 ≡ 0 = e in absurd (omega (arith, no))
same_trouble what.Several what.Several e = refl

pub same_troubled : (a b : Troubled) → weight a ≤ weight b → weight b ≤ weight a → a ≡ b
same_troubled a b le more =
    let first : rank a.trouble ≤ 1 = rank_small a.trouble in
    let second : rank b.trouble ≤ 1 = rank_small b.trouble in
    let one : a.line + a.line + rank a.trouble ≤ b.line + b.line + rank b.trouble = le in
    let other : b.line + b.line + rank b.trouble ≤ a.line + a.line + rank a.trouble = more in
    let lines : a.line ≡ b.line = omega (arith, first, second, one, other) in
    let ranks : rank a.trouble ≡ rank b.trouble = omega (arith, lines, one, other) in
    ap (λ line. at_line line a.trouble) lines ∙ ap (at_line b.line) (same_trouble a.trouble b.trouble ranks)

less : (a b : ℕ) → nat_lt a b ≡ true → a < b
less a b e = grind (arith, nat_tests, e)

not_less : (a b : ℕ) → nat_lt a b ≡ false → b ≤ a
not_less a b e = grind (arith, nat_tests, e)

apart : (a b : ℕ) → (a == b) ≡ false → b ≤ a → b < a
apart a b e le = grind (arith, nat_tests, e, le)

module _ (x t : Troubled) where
  pub later : is_before x t ≡ false → weight t ≤ weight x
  later e = by (nat_lt x.line t.line) (x.line == t.line) (nat_lt (rank x.trouble) (rank t.trouble)) refl refl refl e
    where
      by : (b c d : Bool) → nat_lt x.line t.line ≡ b → (x.line == t.line) ≡ c → nat_lt (rank x.trouble) (rank t.trouble) ≡ d → (b || (c && d)) ≡ false → weight t ≤ weight x
      by true c d i j k e' = absurd (true≢false e')
      by false true true i j k e' = absurd (true≢false e')
      by false true false i j k e' =
          let same : x.line ≡ t.line = eqb-eq x.line t.line j in
          let le : rank t.trouble ≤ rank x.trouble = not_less (rank x.trouble) (rank t.trouble) k in
          omega (arith, same, le)
      by false false d i j k e' =
          let lt : t.line < x.line = apart x.line t.line j (not_less x.line t.line i) in
          let small : rank t.trouble ≤ 1 = rank_small t.trouble in
          omega (arith, lt, small)

  earlier : is_before x t ≡ true → weight x ≤ weight t
  earlier e = by (nat_lt x.line t.line) (x.line == t.line) (nat_lt (rank x.trouble) (rank t.trouble)) refl refl refl e
    where
      by : (b c d : Bool) → nat_lt x.line t.line ≡ b → (x.line == t.line) ≡ c → nat_lt (rank x.trouble) (rank t.trouble) ≡ d → (b || (c && d)) ≡ true → weight x ≤ weight t
      by true c d i j k e' =
          let lt : x.line < t.line = less x.line t.line i in
          let small : rank x.trouble ≤ 1 = rank_small x.trouble in
          omega (arith, lt, small)
      by false true true i j k e' =
          let same : x.line ≡ t.line = eqb-eq x.line t.line j in
          let lt : rank x.trouble < rank t.trouble = less (rank x.trouble) (rank t.trouble) k in
          omega (arith, same, lt)
      by false true false i j k e' = absurd (true≢false (sym e'))
      by false false d i j k e' = absurd (true≢false (sym e'))

  not_before : weight t ≤ weight x → is_before x t ≡ false
  not_before le = by (nat_lt x.line t.line) (x.line == t.line) (nat_lt (rank x.trouble) (rank t.trouble)) refl refl refl
    where
      by : (b c d : Bool) → nat_lt x.line t.line ≡ b → (x.line == t.line) ≡ c → nat_lt (rank x.trouble) (rank t.trouble) ≡ d → (b || (c && d)) ≡ false
      by true c d i j k =
          let lt : x.line < t.line = less x.line t.line i in
          let small : rank x.trouble ≤ 1 = rank_small x.trouble in
          let more : t.line + t.line + rank t.trouble ≤ x.line + x.line + rank x.trouble = le in
          absurd (omega (arith, lt, small, more))
      by false true true i j k =
          let same : x.line ≡ t.line = eqb-eq x.line t.line j in
          let lt : rank x.trouble < rank t.trouble = less (rank x.trouble) (rank t.trouble) k in
          let more : t.line + t.line + rank t.trouble ≤ x.line + x.line + rank x.trouble = le in
          absurd (omega (arith, same, lt, more))
      by false true false i j k = refl
      by false false d i j k = refl

-- a trouble weighs no more than another, if that is there
abbrev AtMost : Troubled → Option Troubled → Type 0
AtMost t o = (u : Troubled) → o ≡ Some u → weight t ≤ weight u

itself : (t : Troubled) (o : Option Troubled) → o ≡ Some t → AtMost t o
itself t o e u f = let same : weight t ≡ weight u = ap weight (some_part t u (sym e ∙ f)) in omega (arith, same)

-- one of two is picked
pick : (a b : Option Troubled) (c : Troubled) → sooner a b ≡ Some c → AtMost c a × AtMost c b × ((a ≡ Some c) ⊎ (b ≡ Some c))
pick None b c e = ((λ u f. absurd (none_part u f)), itself c b e, inr e)
pick (Some a) None c e = (itself c (Some a) e, (λ u f. absurd (none_part u f)), inl e)
pick (Some a) (Some b) c e = by (is_before b a) refl e
  where
    by : (t : Bool) → is_before b a ≡ t → cond t (Some b) (Some a) ≡ Some c → AtMost c (Some a) × AtMost c (Some b) × ((◌≡◌ {A = Option Troubled} (Some a) (Some c)) ⊎ (◌≡◌ {A = Option Troubled} (Some b) (Some c)))
    by true i e' =
        let le : weight b ≤ weight a = earlier b a i in
        let same : weight b ≡ weight c = ap weight (some_part b c e') in
        ((λ u f. let other : weight a ≡ weight u = ap weight (some_part a u f) in omega (arith, le, same, other)), itself c (Some b) e', inr e')
    by false i e' =
        let le : weight a ≤ weight b = later b a i in
        let same : weight a ≡ weight c = ap weight (some_part a c e') in
        (itself c (Some a) e', (λ u f. let other : weight b ≡ weight u = ap weight (some_part b u f) in omega (arith, le, same, other)), inl e')

-- a trouble is one of some
abbrev IsOneOf : List (Option Troubled) → Troubled → Type 0
IsOneOf [] t = ⊥
IsOneOf (o ∷ os) t = (o ≡ Some t) ⊎ IsOneOf os t

behind : (a b : Option Troubled) (t : Troubled) → AtMost t (sooner a b) → AtMost t a × AtMost t b
behind None b t h = ((λ u f. absurd (none_part u f)), h)
behind (Some a) None t h = (h, (λ u f. absurd (none_part u f)))
behind (Some a) (Some b) t h = by (is_before b a) refl h
  where
    by : (c : Bool) → is_before b a ≡ c → AtMost t (cond c (Some b) (Some a)) → AtMost t (Some a) × AtMost t (Some b)
    by true i h' =
        let low : weight t ≤ weight b = h' b refl in
        let le : weight b ≤ weight a = earlier b a i in
        ((λ u f. let other : weight a ≡ weight u = ap weight (some_part a u f) in omega (arith, low, le, other)), h')
    by false i h' =
        let low : weight t ≤ weight a = h' a refl in
        let le : weight a ≤ weight b = later b a i in
        (h', (λ u f. let other : weight b ≡ weight u = ap weight (some_part b u f) in omega (arith, low, le, other)))

which : (found o : Option Troubled) (os : List (Option Troubled)) (t : Troubled) → (sooner found o ≡ Some t) ⊎ IsOneOf os t → (found ≡ Some t) ⊎ IsOneOf (o ∷ os) t
which found o os t (inr h) = inr (inr h)
which found o os t (inl e) = by (pick found o t e).2
  where
    by : (found ≡ Some t) ⊎ (o ≡ Some t) → (found ≡ Some t) ⊎ IsOneOf (o ∷ os) t
    by (inl f) = inl f
    by (inr f) = inr (inl f)

first_from : (found : Option Troubled) (os : List (Option Troubled)) (t : Troubled) → least_from found os ≡ Some t → AtMost t found × AllByRecursion (AtMost t) os × ((found ≡ Some t) ⊎ IsOneOf os t)
first_from found [] t e = (itself t found e, tt, inl e)
first_from found (o ∷ os) t e =
    let rest = first_from (sooner found o) os t e in
    let both = behind found o t rest.0 in
    (both.0, (both.1, rest.1), which found o os t rest.2)

-- of assertions
module _ (names : List (List ℕ)) (seen : List Seen) (t : Troubled) where
  each_later : (list : List Assertion) → AllByRecursion (AtMost t) (map (troubled names seen) list) → AllByRecursion (λ a. (u : Troubled) → troubled names seen a ≡ Some u → is_before u t ≡ false) list
  each_later [] h = tt
  each_later (a ∷ as') h = ((λ u e. not_before u t (h.0 u e)), each_later as' h.1)

  record Found (list : List Assertion) : Type 0 where
    assertion : Assertion
    among : Contains list assertion
    trouble : troubled names seen assertion ≡ Some t

  found_in : (list : List Assertion) → IsOneOf (map (troubled names seen) list) t → Found list
  found_in [] h = absurd h
  found_in (a ∷ as') (inl e) = record { assertion = a; among = (0, omega arith, refl); trouble = e }
  found_in (a ∷ as') (inr h) =
      let f = found_in as' h in
      let lt : f.among.0 < length as' = f.among.1 in
      let more : suc f.among.0 < suc (length as') = omega (arith, lt) in
      record { assertion = f.assertion; among = (suc f.among.0, more, f.among.2); trouble = f.trouble }

  pub first_is : (list : List Assertion) → least_trouble names seen list ≡ Some t → IsFirstTrouble names seen list t
  first_is list e =
      let all = first_from None (map (troubled names seen) list) t e in
      let own = found_in list (by all.2) in
      record { assertion = own.assertion; among = own.among; trouble = own.trouble; first = each_later list all.1 }
    where
      by : (◌≡◌ {A = Option Troubled} None (Some t)) ⊎ IsOneOf (map (troubled names seen) list) t → IsOneOf (map (troubled names seen) list) t
      by (inl f) = absurd (none_part t f)
      by (inr h) = h

-- Numbers that stand once, as a set.
use Rattle.std.proofs.Common.{◌≡◌, ℕ, Bool, true, false, List, [], ◌∷◌, ◌++◌, refl, ap, sym, ◌∙◌}
use Rattle.std.specs.Prelude.{◌&&◌, ◌||◌, not, cond, nat_eq, is_some, MatchOption, Option, Some, None}
use Rattle.std.specs.List.{list_any}
use Rattle.std.proofs.lemmas.Bool.{and_parts, and_from, not-true, false≢true, eqb-true, eq-eqb}
use Rattle.std.proofs.lemmas.List.{append_assoc}
use Rattle.indexmap.specs.IndexSet.{insert_key}
use Rattle.regtype_grammar.specs.TypeClauses.{are_once, are_among}

-- a new number comes behind the others
pub added : (ks new : List ℕ) (v : ℕ) → new ≡ insert_key nat_eq ks v → list_any (nat_eq v) ks ≡ false → new ≡ ks ++ v ∷ []
added ks new v e i = e ∙ ap (λ b. cond b ks (ks ++ v ∷ [])) i

-- numbers are equal both ways
swapped : (a b : ℕ) → nat_eq a b ≡ true → nat_eq b a ≡ true
swapped a b e = let same = eqb-true a b e in eq-eqb b a (sym same)

apart : (a b : ℕ) → nat_eq a b ≡ false → nat_eq b a ≡ false
apart a b e = by (nat_eq b a) refl
  where
    by : (t : Bool) → nat_eq b a ≡ t → nat_eq b a ≡ false
    by false i = i
    by true i = absurd (false≢true (sym e ∙ swapped b a i))

in_middle : (p : ℕ → Bool) (xs : List ℕ) (v : ℕ) (rest : List ℕ) → p v ≡ true → list_any p (xs ++ v ∷ rest) ≡ true
in_middle p [] v rest e = ap (λ b. b || list_any p rest) e
in_middle p (x ∷ xs) v rest e = by (p x) (in_middle p xs v rest e)
  where
    by : (b : Bool) → list_any p (xs ++ v ∷ rest) ≡ true → (b || list_any p (xs ++ v ∷ rest)) ≡ true
    by true later = refl
    by false later = later

and_false : (b : Bool) → (b && false) ≡ false
and_false true = refl
and_false false = refl

-- a number that is one of those before stands twice
pub twice : (ks : List ℕ) (v : ℕ) (rest : List ℕ) → list_any (nat_eq v) ks ≡ true → are_once (ks ++ v ∷ rest) ≡ false
twice [] v rest e = absurd (false≢true e)
twice (k ∷ ks) v rest e = by (nat_eq v k) refl e (twice ks v rest)
  where
    by : (b : Bool) → nat_eq v k ≡ b → (b || list_any (nat_eq v) ks) ≡ true → (list_any (nat_eq v) ks ≡ true → are_once (ks ++ v ∷ rest) ≡ false) → (not (list_any (nat_eq k) (ks ++ v ∷ rest)) && are_once (ks ++ v ∷ rest)) ≡ false
    by true i e later = ap (λ b. not b && are_once (ks ++ v ∷ rest)) (in_middle (nat_eq k) ks v rest (swapped v k i))
    by false i e later = ap (λ b. not (list_any (nat_eq k) (ks ++ v ∷ rest)) && b) (later e) ∙ and_false (not (list_any (nat_eq k) (ks ++ v ∷ rest)))

not_last : (p : ℕ → Bool) (xs : List ℕ) (v : ℕ) → list_any p xs ≡ false → p v ≡ false → list_any p (xs ++ v ∷ []) ≡ false
not_last p [] v e f = ap (λ b. b || false) f
not_last p (x ∷ xs) v e f = by (p x) e (λ h. not_last p xs v h f)
  where
    by : (b : Bool) → (b || list_any p xs) ≡ false → (list_any p xs ≡ false → list_any p (xs ++ v ∷ []) ≡ false) → (b || list_any p (xs ++ v ∷ [])) ≡ false
    by true h later = h
    by false h later = later h

neither : (a b : Bool) → (a || b) ≡ false → (a ≡ false) × (b ≡ false)
neither true b e = absurd (false≢true (sym e))
neither false b e = (refl, e)

-- with a new number behind, the numbers stand once still
pub once_more : (ks : List ℕ) (v : ℕ) → are_once ks ≡ true → list_any (nat_eq v) ks ≡ false → are_once (ks ++ v ∷ []) ≡ true
once_more [] v h e = refl
once_more (k ∷ ks) v h e =
    let both = and_parts (not (list_any (nat_eq k) ks)) (are_once ks) h in
    let none = neither (nat_eq v k) (list_any (nat_eq v) ks) e in
    and_from (not (list_any (nat_eq k) (ks ++ v ∷ []))) (are_once (ks ++ v ∷ [])) (ap not (not_last (nat_eq k) ks v (not-true (list_any (nat_eq k) ks) both.0) (apart v k none.0))) (once_more ks v both.1 none.1)

pub set_turn : (ks new : List ℕ) (v : ℕ) (rest : List ℕ) → new ≡ ks ++ v ∷ [] → new ++ rest ≡ ks ++ (v ∷ rest)
set_turn ks new v rest e = ap (λ xs. xs ++ rest) e ∙ append_assoc ks (v ∷ []) rest

-- the test of an argument's variables and those of literals, by the set of the first
pub by_set : {S : Type 0} (keys : S → List ℕ) (o : Option S) (vs bs ws cs : List ℕ) (test : Bool) → ws ≡ vs → cs ≡ bs → MatchOption o (are_once ws ≡ false) (λ s. (keys s ≡ ws) × (are_once ws ≡ true))
    → MatchOption o (test ≡ false) (λ s. test ≡ (are_among (keys s) cs && are_once cs)) → test ≡ (are_once vs && (are_among vs bs && are_once bs))
by_set keys None vs bs ws cs test e f none failed = failed ∙ sym (ap (λ b. b && (are_among vs bs && are_once bs)) (ap are_once (sym e) ∙ none))
by_set keys (Some s) vs bs ws cs test e f some t =
    t ∙ ap (λ xs. are_among xs cs && are_once cs) (some.0 ∙ e) ∙ ap (λ ys. are_among vs ys && are_once ys) f ∙ ap (λ b. b && (are_among vs bs && are_once bs)) (sym (ap are_once (sym e) ∙ some.1))

pub some_once : {S : Type 0} (keys : S → List ℕ) (o : Option S) (ws : List ℕ) (test : Bool) → test ≡ is_some o → MatchOption o (are_once ws ≡ false) (λ s. (keys s ≡ ws) × (are_once ws ≡ true)) → test ≡ are_once ws
some_once keys None ws test e none = e ∙ sym none
some_once keys (Some s) ws test e some = e ∙ sym some.1

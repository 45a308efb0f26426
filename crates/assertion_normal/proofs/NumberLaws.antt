-- Conditions are numbered one after the other, and claims have the numbers of conditions.
use Rattle.std.proofs.Common.{◌≡◌, ℕ, zero, suc, ◌+◌, ◌<◌, ◌≤◌, Bool, true, false, List, [], ◌∷◌, ◌++◌, map, length, drop, refl, ap, sym, ◌∙◌, subst, arith}
use Rattle.std.specs.Prelude.{cond, Option, Some, None}
use Rattle.std.specs.List.{AllByRecursion}
use Rattle.std.proofs.lemmas.List.{length-append}
use Rattle.prog_data.specs.declared.conditions.Prop.{Prop}
use Rattle.prog_data.specs.declared.conditions.Cond.{Cond}
use Rattle.prog_data.specs.declared.conditions.CondKind.{CondKind}
use Rattle.prog_data.specs.declared.conditions.CondKind.TheVariants.{Comp}
use Rattle.prog_data.specs.declared.programs.Keyword.{Keyword}
use Rattle.prog_data.specs.declared.programs.Keyword.TheVariants as keyword
use Rattle.prog_data.specs.Conditions.{is_calls}
use Rattle.assertion_normal.specs.declared.settling.Settled.{Settled}
use Rattle.assertion_normal.specs.Conditions.{adds_disjunct, disjuncts, success_kinds, comp_kinds, own_kinds_by, own_kinds, numbers_from, shared_numbers, numbered, calls_conditions, conditions_from, behind_calls, claims_by, claims_from, entries_by, entries_of}
use Rattle.assertion_normal.specs.Laws.{IsConditionOf, IsClaimOf, ConditionsAreNumbered}
use Rattle.assertion_normal.proofs.EachLaws.{each_append, each_map, each_of, each_more}
use Rattle.assertion_normal.proofs.TurnLaws.{length_numbered}

-- conditions have the numbers from one on
abbrev Run : ℕ → List Cond → Type 0
Run n [] = Unit {0}
Run n (c ∷ cs) = (c.id ≡ n) × Run (suc n) cs

run_append : (n : ℕ) (xs ys : List Cond) → Run n xs → Run (length xs + n) ys → Run n (xs ++ ys)
run_append n [] ys h k = let same : 0 + n ≡ n = omega arith in subst (λ m. Run m ys) same k
run_append n (x ∷ xs) ys h k = let same : suc (length xs) + n ≡ length xs + suc n = omega arith in (h.0, run_append (suc n) xs ys h.1 (subst (λ m. Run m ys) same k))

run_numbers : (n : ℕ) (cs : List Cond) → Run n cs → map (λ c. c.id) cs ≡ numbers_from n (length cs)
run_numbers n [] h = refl
run_numbers n (c ∷ cs) h = ap (λ m. m ∷ map (λ d. d.id) cs) h.0 ∙ ap (λ ms. n ∷ ms) (run_numbers (suc n) cs h.1)

-- numbers within bounds
within : (lo hi n count : ℕ) → lo ≤ n → count + n ≤ hi → AllByRecursion (λ k. (lo ≤ k) × (k < hi)) (numbers_from n count)
within lo hi n zero le most = tt
within lo hi n (suc count) le most =
    let all : suc count + n ≤ hi = most in
    ((le, omega (arith, all)), within lo hi (suc n) count (omega (arith, le)) (omega (arith, all)))

abbrev IsOther : CondKind → Type 0
IsOther kind = is_calls (Some kind) ≡ false

success_other : (pre : List Prop) (post : Option (List Prop)) → AllByRecursion IsOther (success_kinds pre post)
success_other pre None = tt
success_other pre (Some post) = (refl, tt)

own_other : (s : Settled) (word : Option Keyword) → AllByRecursion IsOther (own_kinds_by s word)
own_other s None = tt
own_other s (Some keyword.Calls) = tt
own_other s (Some keyword.Success) = success_other s.pre s.post
own_other s (Some keyword.Comp) = each_map IsOther (λ p. Comp s.pre p) s.comp (each_of (λ p. IsOther (Comp s.pre p)) (λ p. refl) s.comp)
own_other s (Some keyword.Pred) =
    each_append IsOther (success_kinds s.pre s.post) (comp_kinds s.pre s.comp) (success_other s.pre s.post) (each_map IsOther (λ p. Comp s.pre p) s.comp (each_of (λ p. IsOther (Comp s.pre p)) (λ p. refl) s.comp))

-- an assertion that adds a disjunct is one of those that do
abbrev IsShared : ℕ → Settled → Type 0
IsShared count s = adds_disjunct s.keyword ≡ true → 0 < count

shared_more : (n m : ℕ) (list : List Settled) → n ≤ m → AllByRecursion (IsShared n) list → AllByRecursion (IsShared m) list
shared_more n m list le h = each_more (IsShared n) (IsShared m) (λ s f e. let some : 0 < n = f e in omega (arith, le, some)) list h

shared_in : (list : List Settled) → AllByRecursion (IsShared (length (disjuncts list))) list
shared_in [] = tt
shared_in (s ∷ ss) = by (adds_disjunct s.keyword) refl (shared_in ss)
  where
    by : (b : Bool) → adds_disjunct s.keyword ≡ b → AllByRecursion (IsShared (length (disjuncts ss))) ss
        → AllByRecursion (IsShared (length (cond b (s ∷ disjuncts ss) (disjuncts ss)))) (s ∷ ss)
    by true i rest = ((λ e. omega arith), shared_more (length (disjuncts ss)) (suc (length (disjuncts ss))) ss (omega arith) rest)
    by false i rest = ((λ e. let no : true ≡ false = sym e ∙ i in cc), rest)

module _ (file pred : ℕ) where
  numbered_run : (number line : ℕ) (kinds : List CondKind) → Run number (numbered file pred number line kinds)
  numbered_run number line [] = tt
  numbered_run number line (kind ∷ kinds) = (refl, numbered_run (suc number) line kinds)

  from_run : (number : ℕ) (list : List Settled) → Run number (conditions_from file pred number list)
  from_run number [] = tt
  from_run number (s ∷ ss) =
      run_append number (numbered file pred number s.line (own_kinds s)) (conditions_from file pred (length (own_kinds s) + number) ss) (numbered_run number s.line (own_kinds s))
      (subst (λ n. Run (n + number) (conditions_from file pred (length (own_kinds s) + number) ss)) (sym (length_numbered file pred number s.line (own_kinds s))) (from_run (length (own_kinds s) + number) ss))

  calls_run : (number : ℕ) (ds : List Settled) → Run number (calls_conditions file pred number ds)
  calls_run number [] = tt
  calls_run number (s ∷ ss) = (refl, tt)

  numbered_of : (number line : ℕ) (kinds : List CondKind) → AllByRecursion (IsConditionOf file pred) (numbered file pred number line kinds)
  numbered_of number line [] = tt
  numbered_of number line (kind ∷ kinds) = (record { file = refl; pred = refl }, numbered_of (suc number) line kinds)

  from_of : (number : ℕ) (list : List Settled) → AllByRecursion (IsConditionOf file pred) (conditions_from file pred number list)
  from_of number [] = tt
  from_of number (s ∷ ss) =
      each_append (IsConditionOf file pred) (numbered file pred number s.line (own_kinds s)) (conditions_from file pred (length (own_kinds s) + number) ss) (numbered_of number s.line (own_kinds s)) (from_of (length (own_kinds s) + number) ss)

  calls_of : (number : ℕ) (ds : List Settled) → AllByRecursion (IsConditionOf file pred) (calls_conditions file pred number ds)
  calls_of number [] = tt
  calls_of number (s ∷ ss) = (record { file = refl; pred = refl }, tt)

  abbrev IsNoCalls : Cond → Type 0
  IsNoCalls c = is_calls (Some c.kind) ≡ false

  numbered_other : (number line : ℕ) (kinds : List CondKind) → AllByRecursion IsOther kinds → AllByRecursion IsNoCalls (numbered file pred number line kinds)
  numbered_other number line [] h = tt
  numbered_other number line (kind ∷ kinds) h = (h.0, numbered_other (suc number) line kinds h.1)

  from_other : (number : ℕ) (list : List Settled) → AllByRecursion IsNoCalls (conditions_from file pred number list)
  from_other number [] = tt
  from_other number (s ∷ ss) =
      each_append IsNoCalls (numbered file pred number s.line (own_kinds s)) (conditions_from file pred (length (own_kinds s) + number) ss) (numbered_other number s.line (own_kinds s) (own_other s s.keyword)) (from_other (length (own_kinds s) + number) ss)

  behind_first : (cs : List Cond) → AllByRecursion IsNoCalls cs → AllByRecursion IsNoCalls (drop 1 cs)
  behind_first [] h = tt
  behind_first (c ∷ cs) h = h.1

  calls_first : (number : ℕ) (ds : List Settled) (others : List Cond) → AllByRecursion IsNoCalls others → AllByRecursion IsNoCalls (drop 1 (calls_conditions file pred number ds ++ others))
  calls_first number [] others h = behind_first others h
  calls_first number (s ∷ ss) others h = h

  calls_there : (number : ℕ) (ds : List Settled) → 0 < length ds → 0 < length (calls_conditions file pred number ds)
  calls_there number [] lt = lt
  calls_there number (s ∷ ss) lt = omega arith

  shared_within : (first last : ℕ) (word : Keyword) → (adds_disjunct (Some word) ≡ true → first < last) → AllByRecursion (λ n. (first ≤ n) × (n < last)) (shared_numbers first (adds_disjunct (Some word)))
  shared_within first last word lt = by (adds_disjunct (Some word)) lt
    where
      by : (b : Bool) → (b ≡ true → first < last) → AllByRecursion (λ n. (first ≤ n) × (n < last)) (shared_numbers first b)
      by true f = ((omega arith, f refl), tt)
      by false f = tt

  claim_in : (first last number count line : ℕ) (word : Option Keyword) → (adds_disjunct word ≡ true → first < last) → first ≤ number → count + number ≤ last
      → AllByRecursion (IsClaimOf file pred first last) (claims_by file pred first number count line word)
  claim_in first last number count line None lt le most = tt
  claim_in first last number count line (Some word) lt le most =
      (record { file = refl; pred = refl; numbers = each_append (λ n. (first ≤ n) × (n < last)) (shared_numbers first (adds_disjunct (Some word))) (numbers_from number count) (shared_within first last word lt) (within first last number count le most) }, tt)

  claims_in : (first last number : ℕ) (list : List Settled) → AllByRecursion (λ s. adds_disjunct s.keyword ≡ true → first < last) list → first ≤ number → length (conditions_from file pred number list) + number ≤ last
      → AllByRecursion (IsClaimOf file pred first last) (claims_from file pred first number list)
  claims_in first last number [] h le most = tt
  claims_in first last number (s ∷ ss) h le most =
      let own = own_kinds s in
      let rest = conditions_from file pred (length own + number) ss in
      let parts : length (numbered file pred number s.line own ++ rest) ≡ length (numbered file pred number s.line own) + length rest = length-append (numbered file pred number s.line own) rest in
      let count : length (numbered file pred number s.line own) ≡ length own = length_numbered file pred number s.line own in
      let all : length (numbered file pred number s.line own ++ rest) + number ≤ last = most in
      each_append (IsClaimOf file pred first last) (claims_by file pred first number (length own) s.line s.keyword) (claims_from file pred first (length own + number) ss)
      (claim_in first last number (length own) s.line s.keyword h.0 le (omega (arith, parts, count, all)))
      (claims_in first last (length own + number) ss h.1 (omega (arith, le)) (omega (arith, parts, count, all)))

  entry_of : (pre : List Prop) (word : Option Keyword) → AllByRecursion (λ e. e.pred ≡ pred) (entries_by pred pre word)
  entry_of pre None = (refl, tt)
  entry_of pre (Some word) = tt

  entries_in : (list : List Settled) → AllByRecursion (λ e. e.pred ≡ pred) (entries_of pred list)
  entries_in [] = tt
  entries_in (s ∷ ss) = each_append (λ e. e.pred ≡ pred) (entries_by pred s.pre s.keyword) (entries_of pred ss) (entry_of s.pre s.keyword) (entries_in ss)

pub conditions_numbered : ConditionsAreNumbered
conditions_numbered file pred first list =
    let ds = disjuncts list in
    let calls = calls_conditions file pred first ds in
    let number = behind_calls file pred first list in
    let others = conditions_from file pred number list in
    let last = length (calls ++ others) + first in
    let parts : length (calls ++ others) ≡ length calls + length others = length-append calls others in
    let start : number ≡ length calls + first = refl in
    let shared : AllByRecursion (λ s. adds_disjunct s.keyword ≡ true → first < last) list =
    each_more (IsShared (length ds)) (λ s. adds_disjunct s.keyword ≡ true → first < last)
    (λ s f e. let there : 0 < length calls = calls_there file pred first ds (f e) in let lt : first < length (calls ++ others) + first = omega (arith, parts, there) in lt) list (shared_in list) in
    let low : first ≤ number = omega (arith, start) in
    let high : length others + number ≤ length (calls ++ others) + first = omega (arith, parts, start) in
    record {
      numbers = run_numbers first (calls ++ others) (run_append first calls others (calls_run file pred first ds) (from_run file pred number list));
      conds = each_append (IsConditionOf file pred) calls others (calls_of file pred first ds) (from_of file pred number list);
      calls_first = calls_first file pred first ds others (from_other file pred number list);
      claims = claims_in file pred first last number list shared low high;
      entries = entries_in file pred list;
    }

-- The conditions of a program have their own numbers, and are those of its predicates.
use Rattle.std.proofs.Common.{◌≡◌, ℕ, zero, suc, ◌+◌, ◌<◌, Bool, true, false, List, [], ◌∷◌, ◌++◌, map, length, drop, refl, ap, sym, ◌∙◌, subst, append-nil, arith}
use Rattle.std.specs.Prelude.{filter, slice_get, not, ◌==◌, Some, option_map}
use Rattle.std.specs.List.{list_all, AllByRecursion}
use Rattle.std.proofs.lemmas.Bool.Decides.{nat_tests}
use Rattle.std.proofs.lemmas.List.{drop-map}
use Rattle.term_core.proofs.OperandLaws.{none_part, some_part}
use Rattle.prog_data.specs.declared.conditions.Cond.{Cond}
use Rattle.prog_data.specs.declared.programs.Program.{Program}
use Rattle.prog_data.specs.Conditions.{kind_of, is_calls}
use Rattle.prog_data.specs.Goals.{pred_of}
use Rattle.prog_data.specs.Ranges.{is_kind_of}
use Rattle.assertion_normal.specs.Conditions.{numbers_from}
use Rattle.assertion_normal.specs.Laws.{IsConditionOf}
use Rattle.assertion_normal.specs.declared.outcomes.Normal.{Normal}
use Rattle.program_link.specs.Programs.{conditions}
use Rattle.program_link.specs.declared.drafts.Draft.{Draft}
use Rattle.program_link.proofs.ProgramBodies.{HasArities}
use Rattle.program_link.proofs.ProgramLists.{each_append, each_parts, each_map, each_test, each_more, each_both, filter_append, filter_all, filter_none, Stand}
use Rattle.program_link.proofs.ProgramNormals.{AreNormals}

-- numbers

-- conditions have numbers that follow on one another
abbrev pub FollowOn : ℕ → List Cond → Type 0
FollowOn n [] = Unit {0}
FollowOn n (c ∷ cs) = (c.id ≡ n) × FollowOn (suc n) cs

first_same : (a b : ℕ) (ns ms : List ℕ) → a ∷ ns ≡ b ∷ ms → a ≡ b
first_same a b ns ms e = cc

rest_same : (a b : ℕ) (ns ms : List ℕ) → a ∷ ns ≡ b ∷ ms → ns ≡ ms
rest_same a b ns ms e = cc

follow_from : (n : ℕ) (cs : List Cond) → map (λ c. c.id) cs ≡ numbers_from n (length cs) → FollowOn n cs
follow_from n [] e = tt
follow_from n (c ∷ cs) e =
    let numbers = numbers_from (suc n) (length cs) in
    let ids = map (λ c. c.id) cs in
    (first_same c.id n ids numbers e, follow_from (suc n) cs (rest_same c.id n ids numbers e))

follow_append : (n : ℕ) (xs ys : List Cond) (m : ℕ) → m ≡ length xs + n → FollowOn n xs → FollowOn m ys → FollowOn n (xs ++ ys)
follow_append n [] ys m e h k = let is : m ≡ 0 + n = e in let same : m ≡ n = omega (arith, is) in subst (λ j. FollowOn j ys) same k
follow_append n (x ∷ xs) ys m e h k = let is : m ≡ suc (length xs) + n = e in (h.0, follow_append (suc n) xs ys m (omega (arith, is)) h.1 k)

pub id_at : (n : ℕ) (cs : List Cond) (k : ℕ) (c : Cond) → FollowOn n cs → slice_get cs k ≡ Some c → c.id ≡ k + n
id_at n [] k c h e = absurd (none_part c e)
id_at n (y ∷ ys) zero c h e = let is : c.id ≡ n = sym (ap (λ x. x.id) (some_part y c e)) ∙ h.0 in omega (arith, is)
id_at n (y ∷ ys) (suc k) c h e = let is : c.id ≡ k + suc n = id_at (suc n) ys k c h.1 e in omega (arith, is)

-- each is found by its number
abbrev pub IsFound : List Cond → Cond → Type 0
IsFound all c = slice_get all c.id ≡ Some c

pub found_all : (all : List Cond) (n : ℕ) (cs : List Cond) → Stand all n cs → FollowOn n cs → AllByRecursion (IsFound all) cs
found_all all n [] s h = tt
found_all all n (c ∷ cs) s h = (subst (λ k. slice_get all k ≡ Some c) (sym h.0) s.0, found_all all (suc n) cs s.1 h.1)

-- what is so of all conditions is so of those of one predicate
pub of_one : (P : Cond → Type 0) (ms : List Normal) (k : ℕ) (m : Normal) → AllByRecursion P (conditions ms) → slice_get ms k ≡ Some m → AllByRecursion P m.conds
of_one P [] k m h e = absurd (none_part m e)
of_one P (x ∷ xs) zero m h e = subst (λ y. AllByRecursion P y.conds) (some_part x m e) (each_parts P x.conds (conditions xs) h).0
of_one P (x ∷ xs) (suc k) m h e = of_one P xs k m (each_parts P x.conds (conditions xs) h).1 e

is_equal : (a n : ℕ) → a ≡ n → (a == n) ≡ true
is_equal a n e = grind (arith, nat_tests)

is_other : (a n p : ℕ) → a ≡ n → p < n → (a == p) ≡ false
is_other a n p e lt = grind (arith, nat_tests)

is_less_other : (a n p : ℕ) → a ≡ n → n < p → (a == p) ≡ false
is_less_other a n p e lt = grind (arith, nat_tests)

module _ (names size : ℕ) where
  pub conditions_follow : (number first : ℕ) (ds : List Draft) (ms : List Normal) → AreNormals names size number first ds ms → FollowOn first (conditions ms)
  conditions_follow number first [] [] h = tt
  conditions_follow number first [] (m ∷ ms) h = absurd h
  conditions_follow number first (d ∷ ds) [] h = absurd h
  conditions_follow number first (d ∷ ds) (m ∷ ms) h =
      follow_append first m.conds (conditions ms) (length m.conds + first) refl (follow_from first m.conds h.0.owned.numbers) (conditions_follow (suc number) (length m.conds + first) ds ms h.1)

  -- those of a predicate

  others_none : (p number first : ℕ) (ds : List Draft) (ms : List Normal) → p < number → AreNormals names size number first ds ms → AllByRecursion (λ c. (c.pred == p) ≡ false) (conditions ms)
  others_none p number first [] [] lt h = tt
  others_none p number first [] (m ∷ ms) lt h = absurd h
  others_none p number first (d ∷ ds) [] lt h = absurd h
  others_none p number first (d ∷ ds) (m ∷ ms) lt h =
      each_append (λ c. (c.pred == p) ≡ false) m.conds (conditions ms)
      (each_more (IsConditionOf h.0.file number) (λ c. (c.pred == p) ≡ false) (λ c is. is_other c.pred number p is.pred lt) m.conds h.0.owned.conds)
      (others_none p (suc number) (length m.conds + first) ds ms (omega (arith, lt)) h.1)

  pub own_only : (p number first : ℕ) (ds : List Draft) (ms : List Normal) (k : ℕ) (m : Normal) → p ≡ k + number → AreNormals names size number first ds ms → slice_get ms k ≡ Some m → filter (λ c. c.pred == p) (conditions ms) ≡ m.conds
  own_only p number first ds [] k m i h e = absurd (none_part m e)
  own_only p number first [] (x ∷ xs) k m i h e = absurd h
  own_only p number first (d ∷ ds) (x ∷ xs) zero m i h e =
      let test : Cond → Bool = λ c. c.pred == p in
      let is : p ≡ 0 + number = i in
      let same : number ≡ p = omega (arith, is) in
      filter_append test x.conds (conditions xs)
      ∙ ap (λ zs. zs ++ filter test (conditions xs)) (filter_all test x.conds (each_more (IsConditionOf h.0.file number) (λ c. test c ≡ true) (λ c of. is_equal c.pred p (of.pred ∙ same)) x.conds h.0.owned.conds))
      ∙ ap (λ zs. x.conds ++ zs) (filter_none test (conditions xs) (others_none p (suc number) (length x.conds + first) ds xs (omega (arith, is)) h.1))
      ∙ append-nil x.conds
      ∙ ap (λ y. y.conds) (some_part x m e)
  own_only p number first (d ∷ ds) (x ∷ xs) (suc k) m i h e =
      let test : Cond → Bool = λ c. c.pred == p in
      let is : p ≡ suc k + number = i in
      filter_append test x.conds (conditions xs)
      ∙ ap (λ zs. zs ++ filter test (conditions xs)) (filter_none test x.conds (each_more (IsConditionOf h.0.file number) (λ c. test c ≡ false) (λ c of. is_less_other c.pred number p of.pred (omega (arith, is))) x.conds h.0.owned.conds))
      ∙ own_only p (suc number) (length x.conds + first) ds xs k m (omega (arith, is)) h.1 e

-- only the first of a predicate is one on calls

each_drop : {A : Type 0} (P : A → Type 0) (n : ℕ) (xs : List A) → AllByRecursion P xs → AllByRecursion P (drop n xs)
each_drop P zero xs h = h
each_drop P (suc n) [] h = tt
each_drop P (suc n) (x ∷ xs) h = each_drop P n xs h.1

pub calls_first : (program : Program) (conds : List Cond) (numbers : List ℕ) → numbers ≡ map (λ c. c.id) conds → AllByRecursion (IsFound program.conds) conds → AllByRecursion (λ c. is_calls (Some c.kind) ≡ false) (drop 1 conds)
    → list_all (λ c. not (is_calls (kind_of program c))) (drop 1 numbers) ≡ true
calls_first program conds numbers e found none =
    let test : ℕ → Bool = λ n. not (is_calls (kind_of program n)) in
    let each = each_both (IsFound program.conds) (λ c. is_calls (Some c.kind) ≡ false) (drop 1 conds) (each_drop (IsFound program.conds) 1 conds found) none in
    ap (λ ns. list_all test (drop 1 ns)) e
    ∙ ap (list_all test) (drop-map (λ c. c.id) 1 conds)
    ∙ each_test test (map (λ c. c.id) (drop 1 conds))
    (each_map (λ n. test n ≡ true) (λ c. c.id) (drop 1 conds)
    (each_more (λ c. IsFound program.conds c × (is_calls (Some c.kind) ≡ false)) (λ c. test c.id ≡ true) (λ c held. ap (λ o. not (is_calls (option_map (λ cond. cond.kind) o))) held.0 ∙ ap not held.1) (drop 1 conds) each))

-- ranges

-- a condition of a predicate of a program, at a place in a file whose name is below a number
abbrev pub CondIn : Program → ℕ → Cond → Type 0
CondIn program names c = (c.pred < length program.preds) × (c.place.file < names) × (is_kind_of (pred_of program c.pred).arity (length program.grammar.rules) c.kind ≡ true)

module _ (program : Program) (names : ℕ) (all : List Draft) (has : HasArities all program) where
  cond_in : (number file : ℕ) (d : Draft) (c : Cond) → file < names → slice_get all number ≡ Some d → IsConditionOf file number c → is_kind_of d.indicator.arity (length program.grammar.rules) c.kind ≡ true → CondIn program names c
  cond_in number file d c named at of kind =
      let found = has number d at in (
        subst (λ p. p < length program.preds) (sym of.pred) found.0,
        subst (λ n. n < names) (sym of.file) named,
        subst (λ p. is_kind_of (pred_of program p).arity (length program.grammar.rules) c.kind ≡ true) (sym of.pred) (subst (λ a. is_kind_of a (length program.grammar.rules) c.kind ≡ true) (sym found.1) kind),
      )

  pub conds_in : (number first : ℕ) (ds : List Draft) (ms : List Normal) → Stand all number ds → AreNormals names (length program.grammar.rules) number first ds ms → AllByRecursion (CondIn program names) (conditions ms)
  conds_in number first [] [] s h = tt
  conds_in number first [] (m ∷ ms) s h = absurd h
  conds_in number first (d ∷ ds) [] s h = absurd h
  conds_in number first (d ∷ ds) (m ∷ ms) s h =
      let kind : Cond → Type 0 = λ c. is_kind_of d.indicator.arity (length program.grammar.rules) c.kind ≡ true in
      each_append (CondIn program names) m.conds (conditions ms)
      (each_more (λ c. IsConditionOf h.0.file number c × kind c) (CondIn program names) (λ c held. cond_in number h.0.file d c h.0.named s.0 held.0 held.1) m.conds (each_both (IsConditionOf h.0.file number) kind m.conds h.0.owned.conds h.0.conds))
      (conds_in (suc number) (length m.conds + first) ds ms s.1 h.1)

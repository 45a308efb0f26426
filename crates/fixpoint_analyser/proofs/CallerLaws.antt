-- Lists of callers, as they are made; what they say.
use Rattle.std.proofs.Common.{◌≡◌, ℕ, zero, suc, ◌+◌, ◌<◌, ◌≤◌, Bool, true, false, cond, ◌||◌, List, [], ◌∷◌, ◌++◌, length, take, get_or, refl, ap, sym, ◌∙◌, subst, arith}
use Rattle.std.proofs.lemmas.Bool.{false≢true, or_parts, or_right, false_from_ne_true}
use Rattle.std.proofs.lemmas.Bool.Decides.{nat_tests}
use Rattle.std.proofs.lemmas.List.{append-nil, get_or_read}
use Rattle.std.proofs.lemmas.List.Elements.{filter-append}
use Rattle.std.proofs.lemmas.List.Folds.{list_any_more}
use Rattle.std.specs.Prelude.{◌==◌, slice_index_or, filter, Contains}
use Rattle.std.specs.List.{list_any}
use Rattle.prog_data.specs.declared.goals.Goal.{Goal}
use Rattle.prog_data.specs.declared.goals.Goal as goal
use Rattle.prog_data.specs.declared.programs.Clause.{Clause}
use Rattle.prog_data.specs.declared.programs.Pred.{Pred}
use Rattle.prog_data.specs.declared.programs.Program.{Program}
use Rattle.prog_data.specs.Goals.{no_pred, pred_of}
use Rattle.prog_data.proofs.GoalFolds.{fold-Conj, fold-Disj, fold-IfElse}
use Rattle.name_order.specs.Relations.{names_from, names_below}
use Rattle.fixpoint_analyser.specs.Ascent.{calls_step, calls, callers_of}
use Rattle.fixpoint_analyser.specs.Callers.{stands_in, ends_in, ending_in, ending_where, HasAdded, HasCallers}

-- the last number

pub ends_at : (ns : List ℕ) (i n : ℕ) → i + 1 ≡ length ns → (slice_index_or ns i 0 == n) ≡ ends_in ns n
ends_at [] i n e = absurd (omega (arith, e))
ends_at (x ∷ []) zero n e = refl
ends_at (x ∷ []) (suc i) n e = absurd (omega (arith, e))
ends_at (x ∷ y ∷ ns) zero n e = absurd (omega (arith, e))
ends_at (x ∷ y ∷ ns) (suc i) n e = ends_at (y ∷ ns) i n (omega (arith, e))

itself : (n : ℕ) → (n == n) ≡ true
itself n = grind (arith, nat_tests)

ends_pushed : (ns : List ℕ) (n : ℕ) → ends_in (ns ++ n ∷ []) n ≡ true
ends_pushed [] n = itself n
ends_pushed (m ∷ []) n = itself n
ends_pushed (m ∷ k ∷ ns) n = ends_pushed (k ∷ ns) n

ends_standing : (ns : List ℕ) (n : ℕ) → stands_in ns n ≡ false → ends_in ns n ≡ false
ends_standing [] n e = refl
ends_standing (m ∷ []) n e = (or_parts (m == n) false e).0
ends_standing (m ∷ k ∷ ns) n e = ends_standing (k ∷ ns) n (or_parts (m == n) (stands_in (k ∷ ns) n) e).1

ending_new : (ns : List ℕ) (n : ℕ) → ends_in ns n ≡ false → ending_in ns n ≡ ns ++ n ∷ []
ending_new ns n e = ap (λ b. cond b ns (ns ++ n ∷ [])) e

ending_had : (ns : List ℕ) (n : ℕ) → ends_in ns n ≡ true → ending_in ns n ≡ ns
ending_had ns n e = ap (λ b. cond b ns (ns ++ n ∷ [])) e

ending_ends : (ns : List ℕ) (n : ℕ) → ends_in (ending_in ns n) n ≡ true
ending_ends ns n = by_test (ends_in ns n) refl
  where
    by_test : (b : Bool) → ends_in ns n ≡ b → ends_in (ending_in ns n) n ≡ true
    by_test true e = ap (λ ms. ends_in ms n) (ending_had ns n e) ∙ e
    by_test false e = ap (λ ms. ends_in ms n) (ending_new ns n e) ∙ ends_pushed ns n

ending_both : (a b : Bool) (ns : List ℕ) (n : ℕ) → ending_where b (ending_where a ns n) n ≡ ending_where (a || b) ns n
ending_both true true ns n = ending_had (ending_in ns n) n (ending_ends ns n)
ending_both true false ns n = refl
ending_both false b ns n = refl

-- adding

pub added_both : (a b c : List (List ℕ)) (n : ℕ) (first second : ℕ → Bool) → HasAdded a b n first → HasAdded b c n second → HasAdded a c n (λ q. first q || second q)
added_both a b c n first second h k = record {
  count = k.count ∙ h.count;
  each = λ q lt.
      k.each q (subst (λ m. q < m) (sym h.count) lt) ∙ ap (λ ns. ending_where (second q) ns n) (h.each q lt) ∙ ending_both (first q) (second q) (slice_index_or a q []) n;
}

pub added_same : (a b : List (List ℕ)) (n : ℕ) (first second : ℕ → Bool) → ((q : ℕ) → first q ≡ second q) → HasAdded a b n first → HasAdded a b n second
added_same a b n first second same h = record { count = h.count; each = λ q lt. h.each q lt ∙ ap (λ t. ending_where t (slice_index_or a q []) n) (same q) }

-- goals

pub calls_Conj : (g a b x y : Goal) → g ≡ goal.Conj a b → x ≡ a → y ≡ b → (q : ℕ) → (calls q x || calls q y) ≡ calls q g
calls_Conj g a b x y is e f q = (λ i. calls q (e i) || calls q (f i)) ∙ sym (ap (calls q) is ∙ fold-Conj Bool (calls_step q) a b)

pub calls_Disj : (g a b x y : Goal) → g ≡ goal.Disj a b → x ≡ a → y ≡ b → (q : ℕ) → (calls q x || calls q y) ≡ calls q g
calls_Disj g a b x y is e f q = (λ i. calls q (e i) || calls q (f i)) ∙ sym (ap (calls q) is ∙ fold-Disj Bool (calls_step q) a b)

or_assoc : (a b c : Bool) → ((a || b) || c) ≡ (a || (b || c))
or_assoc true b c = refl
or_assoc false b c = refl

pub calls_IfElse : (g c a b z x y : Goal) → g ≡ goal.IfElse c a b → z ≡ c → x ≡ a → y ≡ b → (q : ℕ) → ((calls q z || calls q x) || calls q y) ≡ calls q g
calls_IfElse g c a b z x y is d e f q =
    (λ i. (calls q (d i) || calls q (e i)) || calls q (f i)) ∙ or_assoc (calls q c) (calls q a) (calls q b) ∙ sym (ap (calls q) is ∙ fold-IfElse Bool (calls_step q) c a b)

-- clauses

abbrev pub some_calls : List Clause → ℕ → Bool
some_calls clauses q = list_any (λ clause. calls q clause.body) clauses

pub clauses_turn : (a b c : List (List ℕ)) (n i : ℕ) (clauses : List Clause) (clause : Clause) → i < length clauses → clause ≡ get_or clauses i clause →
    HasAdded a b n (some_calls (take i clauses)) → HasAdded b c n (λ q. calls q clause.body) → HasAdded a c n (some_calls (take (i + 1) clauses))
clauses_turn a b c n i clauses clause lt read h k =
    added_same a c n (λ q. some_calls (take i clauses) q || calls q clause.body) (some_calls (take (i + 1) clauses))
    (λ q. ap (λ (x : Clause). some_calls (take i clauses) q || calls q x.body) read ∙ sym (list_any_more (λ clause. calls q clause.body) clauses i clause lt))
    (added_both a b c n (some_calls (take i clauses)) (λ q. calls q clause.body) h k)

-- predicates

names_pushed : (first k : ℕ) → names_from first (suc k) ≡ names_from first k ++ (first + k) ∷ []
names_pushed first zero = ap (λ n. n ∷ []) (omega arith)
names_pushed first (suc k) = let same : first + 1 + k ≡ first + suc k = omega arith in ap (λ ns. first ∷ ns) (names_pushed (first + 1) k ∙ ap (λ n. names_from (first + 1) k ++ n ∷ []) same)

below_pushed : (k : ℕ) → names_below (k + 1) ≡ names_below k ++ k ∷ []
below_pushed k =
    let next : k + 1 ≡ suc k = omega arith in
    let same : 0 + k ≡ k = omega arith in
    ap names_below next ∙ names_pushed 0 k ∙ ap (λ n. names_below k ++ n ∷ []) same

module _ (passes : ℕ → Bool) where
  not_standing : (first k n : ℕ) → first + k ≤ n → stands_in (filter passes (names_from first k)) n ≡ false
  not_standing first zero n le = refl
  not_standing first (suc k) n le = by_test (passes first) (not_standing (first + 1) k n (omega (arith, le)))
    where
      by_test : (b : Bool) → stands_in (filter passes (names_from (first + 1) k)) n ≡ false →
          stands_in (cond b (first ∷ filter passes (names_from (first + 1) k)) (filter passes (names_from (first + 1) k))) n ≡ false
      by_test true rest = let other : (first == n) ≡ false = grind (arith, nat_tests, le) in ap (λ a. a || stands_in (filter passes (names_from (first + 1) k)) n) other ∙ rest
      by_test false rest = rest

  standing : (first k n : ℕ) → first ≤ n → n < first + k → passes n ≡ true → stands_in (filter passes (names_from first k)) n ≡ true
  standing first zero n least lt e = absurd (omega (arith, least, lt))
  standing first (suc k) n least lt e = by_equal (first == n) refl (λ least. standing (first + 1) k n least (omega (arith, lt)) e)
    where
      at_first : (b : Bool) → b ≡ true → (first == n) ≡ true → stands_in (cond b (first ∷ filter passes (names_from (first + 1) k)) (filter passes (names_from (first + 1) k))) n ≡ true
      at_first true is f = ap (λ a. a || stands_in (filter passes (names_from (first + 1) k)) n) f
      at_first false is f = absurd (false≢true is)

      later : (b : Bool) → stands_in (filter passes (names_from (first + 1) k)) n ≡ true → stands_in (cond b (first ∷ filter passes (names_from (first + 1) k)) (filter passes (names_from (first + 1) k))) n ≡ true
      later true rest = or_right (first == n) (stands_in (filter passes (names_from (first + 1) k)) n) rest
      later false rest = rest

      by_equal : (b : Bool) → (first == n) ≡ b → (first + 1 ≤ n → stands_in (filter passes (names_from (first + 1) k)) n ≡ true) → stands_in (filter passes (names_from first (suc k))) n ≡ true
      by_equal true f rest = let same : n ≡ first = grind (arith, nat_tests, f) in at_first (passes first) (ap passes (sym same) ∙ e) f
      by_equal false f rest = later (passes first) (rest (grind (arith, nat_tests, f, least)))

  ended : (k : ℕ) → ending_where (passes k) (filter passes (names_below k)) k ≡ filter passes (names_below (k + 1))
  ended k = by_test (passes k) refl ∙ sym (filter-append passes (names_below k) (k ∷ [])) ∙ ap (filter passes) (sym (below_pushed k))
    where
      by_test : (b : Bool) → passes k ≡ b → ending_where b (filter passes (names_below k)) k ≡ filter passes (names_below k) ++ filter passes (k ∷ [])
      by_test true e =
          ending_new (filter passes (names_below k)) k (ends_standing (filter passes (names_below k)) k (not_standing 0 k k (omega arith)))
          ∙ ap (λ b. filter passes (names_below k) ++ cond b (k ∷ []) []) (sym e)
      by_test false e = sym (append-nil (filter passes (names_below k))) ∙ ap (λ b. filter passes (names_below k) ++ cond b (k ∷ []) []) (sym e)

pub callers_turn : (preds : List Pred) (k : ℕ) (old new : List (List ℕ)) (pred : Pred) (clauses : List Clause) → k < length preds → pred ≡ get_or preds k pred → clauses ≡ pred.clauses →
    HasCallers preds k old → HasAdded old new k (some_calls clauses) → HasCallers preds (k + 1) new
callers_turn preds k old new pred clauses lt read is had added = record {
  count = added.count ∙ had.count;
  each = λ q in_preds.
      added.each q (subst (λ n. q < n) (sym had.count) in_preds)
      ∙ ap (λ cs. ending_where (some_calls cs q) (slice_index_or old q []) k) (is ∙ ap (λ (p : Pred). p.clauses) (get_or_read preds k pred lt read no_pred))
      ∙ ap (λ ns. ending_where (some_calls (slice_index_or preds k no_pred).clauses q) ns k) (had.each q in_preds)
      ∙ ended (λ p. some_calls (slice_index_or preds p no_pred).clauses q) k;
}

-- a predicate that is not among the callers has no clause whose body calls

none_passes : {A : Type 0} (test : A → Bool) (xs : List A) → list_any test xs ≡ false → (x : A) (k : ℕ) → k < length xs → slice_index_or xs k x ≡ x → test x ≡ false
none_passes test [] e x k lt is = absurd (omega (arith, lt))
none_passes test (y ∷ ys) e x zero lt is = ap test (sym is) ∙ (or_parts (test y) (list_any test ys) e).0
none_passes test (y ∷ ys) e x (suc k) lt is = none_passes test ys (or_parts (test y) (list_any test ys) e).1 x k (omega (arith, lt)) is

pub not_calling : (program : Program) (p q : ℕ) → p < length program.preds → stands_in (callers_of program q) p ≡ false → (clause : Clause) → Contains (pred_of program p).clauses clause → calls q clause.body ≡ false
not_calling program p q lt e clause has =
    let none : some_calls (pred_of program p).clauses q ≡ false =
    false_from_ne_true (some_calls (pred_of program p).clauses q)
    (λ f. false≢true (sym e ∙ standing (λ p. some_calls (pred_of program p).clauses q) 0 (length program.preds) p (omega arith) (omega (arith, lt)) f)) in
    none_passes (λ clause. calls q clause.body) (pred_of program p).clauses none clause has.0 has.1 has.2

-- The exits of a table as they are stored, and values of which nothing is known.
use Rattle.std.proofs.Common.{◌≡◌, ℕ, zero, suc, ◌+◌, ◌<◌, ◌≤◌, Bool, true, false, List, [], ◌∷◌, ◌++◌, length, map, get_or, refl, ap, sym, ◌∙◌, subst, arith, length-append}
use Rattle.std.proofs.lemmas.Bool.Decides.{nat_tests}
use Rattle.std.proofs.lemmas.Option.{slice_get_past}
use Rattle.std.specs.Prelude.{nat_lt, slice_get, slice_index_or, Option, None, Some}
use Rattle.prog_data.specs.declared.programs.Program.{Program}
use Rattle.prog_data.specs.declared.tables.Value.{Value}
use Rattle.prog_data.specs.declared.tables.Row.{Row}
use Rattle.prog_data.specs.Values.{seen}
use Rattle.name_order.specs.Relations.{Order}
use Rattle.type_domain.specs.Values.{term_name, of_name}
use Rattle.goal_transfer.specs.Conditions.{narrowed_exit}
use Rattle.goal_transfer.specs.Tables.{row_seen, no_facts, facts_of, exit_where, exits_of, unknown}
use Rattle.goal_transfer.specs.States.{values_seen, list_seen, exit_seen, exits_seen}

-- one more in a list

got_before : {A : Type 0} (xs : List A) (x : A) (p : ℕ) → p < length xs → slice_get (xs ++ x ∷ []) p ≡ slice_get xs p
got_before [] x p lt = absurd (omega (arith, lt))
got_before (y ∷ ys) x zero lt = refl
got_before (y ∷ ys) x (suc p) lt = got_before ys x p (omega (arith, lt))

got_last : {A : Type 0} (xs : List A) (x : A) → slice_get (xs ++ x ∷ []) (length xs) ≡ Some x
got_last [] x = refl
got_last (y ∷ ys) x = got_last ys x

-- the facts of a row

facts_at : (rows : List Row) (k : ℕ) (row : Row) → k < length rows → row ≡ get_or rows k row → facts_of (map row_seen rows) k ≡ row_seen row
facts_at [] k row lt is = absurd (omega (arith, lt))
facts_at (x ∷ rows) zero row lt is = ap row_seen (sym is)
facts_at (x ∷ rows) (suc k) row lt is = facts_at rows k row (omega (arith, lt)) is

facts_past : (rows : List Row) (k : ℕ) → length rows ≤ k → facts_of (map row_seen rows) k ≡ no_facts
facts_past [] k le = refl
facts_past (x ∷ rows) zero le = absurd (omega (arith, le))
facts_past (x ∷ rows) (suc k) le = facts_past rows k (omega (arith, le))

-- in the place of a row that is not there
pub facts_absent : (rows : List Row) (k : ℕ) → None ≡ slice_get rows k → no_facts ≡ facts_of (map row_seen rows) k
facts_absent [] k e = refl
facts_absent (x ∷ rows) zero e = cc
facts_absent (x ∷ rows) (suc k) e = facts_absent rows k e

seen_exit : (e : Option (List Value)) → exit_seen (Some e) ≡ list_seen e
seen_exit None = refl
seen_exit (Some vs) = refl

-- the exits of the first predicates are stored
pub record AreStored (program : Program) (o : Order) (rows : List Row) (k : ℕ) (es : List (Option (List Value))) : Type 0 where
  pub count : length es ≡ k
  pub each : (p : ℕ) → p < k → exits_seen es p ≡ exits_of program o (map row_seen rows) p

module _ (program : Program) (o : Order) (rows : List Row) where
  pub stored_none : (es : List (Option (List Value))) → es ≡ [] → AreStored program o rows 0 es
  stored_none es e = record { count = ap length e; each = λ p lt. absurd (omega (arith, lt)) }

  pub stored_turn : (k : ℕ) (es new : List (Option (List Value))) (e : Option (List Value)) (row : Row) → k < length rows → row ≡ get_or rows k row → new ≡ es ++ e ∷ [] →
      list_seen e ≡ exit_where row.exits (narrowed_exit program o k (map seen row.entry) (map seen row.exit)) → AreStored program o rows k es → AreStored program o rows (k + 1) new
  stored_turn k es new e row lt read is exit had = record {
    count = ap length is ∙ length-append es (e ∷ []) ∙ ap (λ n. n + 1) had.count;
    each = λ p le. by_place p (nat_lt p k) refl le;
  }
    where
      last : exits_seen new k ≡ exits_of program o (map row_seen rows) k
      last =
          ap (λ xs. exit_seen (slice_get xs k)) is ∙ ap (λ n. exit_seen (slice_get (es ++ e ∷ []) n)) (sym had.count) ∙ ap exit_seen (got_last es e) ∙ seen_exit e ∙ exit
          ∙ ap (λ r. exit_where r.exits (narrowed_exit program o k r.entry r.exit)) (sym (facts_at rows k row lt read))

      by_place : (p : ℕ) (b : Bool) → nat_lt p k ≡ b → p < k + 1 → exits_seen new p ≡ exits_of program o (map row_seen rows) p
      by_place p true f le =
          let less : p < k = grind (arith, nat_tests, f) in
          let within : p < length es = subst (λ n. p < n) (sym had.count) less in
          ap (λ xs. exit_seen (slice_get xs p)) is ∙ ap exit_seen (got_before es e p within) ∙ had.each p less
      by_place p false f le =
          let least : k ≤ p = grind (arith, nat_tests, f) in
          let same : k ≡ p = omega (arith, least, le) in
          subst (λ n. exits_seen new n ≡ exits_of program o (map row_seen rows) n) same last

  pub stored_all : (k : ℕ) (es : List (Option (List Value))) → length rows ≤ k → AreStored program o rows k es → exits_seen es ≡ exits_of program o (map row_seen rows)
  stored_all k es le had = λ i p. at p (nat_lt p k) refl i
    where
      at : (p : ℕ) (b : Bool) → nat_lt p k ≡ b → exits_seen es p ≡ exits_of program o (map row_seen rows) p
      at p true f = had.each p (grind (arith, nat_tests, f))
      at p false f =
          let least : k ≤ p = grind (arith, nat_tests, f) in
          let past : length es ≤ p = omega (arith, had.count, least) in
          let over : length rows ≤ p = omega (arith, le, least) in
          ap exit_seen (slice_get_past es p past) ∙ sym (ap (λ r. exit_where r.exits (narrowed_exit program o p r.entry r.exit)) (facts_past rows p over))

-- nothing is known

pub unknown_none : (o : Order) (vs : List Value) → vs ≡ [] → values_seen o vs ≡ unknown o
unknown_none o vs e = ap (values_seen o) e

more_at : (o : Order) (vs : List Value) (x : Value) → seen x ≡ of_name o term_name → ((u : ℕ) → slice_index_or (map seen vs) u (of_name o term_name) ≡ of_name o term_name) → (v : ℕ) →
    slice_index_or (map seen (vs ++ x ∷ [])) v (of_name o term_name) ≡ of_name o term_name
more_at o [] x e h zero = e
more_at o [] x e h (suc v) = refl
more_at o (y ∷ ys) x e h zero = h 0
more_at o (y ∷ ys) x e h (suc v) = more_at o ys x e (λ u. h (suc u)) v

pub unknown_more : (o : Order) (vs new : List Value) (x : Value) → new ≡ vs ++ x ∷ [] → seen x ≡ of_name o term_name → values_seen o vs ≡ unknown o → values_seen o new ≡ unknown o
unknown_more o vs new x is e had = ap (values_seen o) is ∙ (λ i v. more_at o vs x e (λ u. ap (λ f. f u) had) v i)

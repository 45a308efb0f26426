-- Steps of the analysis, one after the other.
use Rattle.std.proofs.Common.{◌≡◌, ◌⊎◌, inl, inr, ℕ, suc, ◌+◌, ◌*◌, ◌<◌, ◌≤◌, Bool, true, List, length, map, refl, sym, ◌∙◌, subst, arith}
use Rattle.std.proofs.Math.Nat.{mul-le-mul_right, suc-mul}
use Rattle.std.specs.Prelude.{Option, IsTrue}
use Rattle.prog_data.specs.declared.programs.Program.{Program}
use Rattle.prog_data.specs.declared.tables.Row.{Row}
use Rattle.prog_data.specs.declared.tables.Value.{Value}
use Rattle.prog_data.specs.Goals.{pred_of}
use Rattle.name_order.specs.Relations.{order}
use Rattle.type_domain.specs.Laws.{AreOrdered}
use Rattle.goal_transfer.specs.Tables.{Facts, row_seen, facts_of}
use Rattle.fixpoint_analyser.specs.Ascent.{IsDone}
use Rattle.fixpoint_analyser.specs.Waits.{waits, number_waiting}
use Rattle.fixpoint_analyser.specs.Progress.{IsUnderWay, GivesTheSame, work_left, Ascends, Steps, FirstSettled, IsSettled}
use Rattle.fixpoint_analyser.proofs.RowOrder.{table_itself, table_over}
use Rattle.fixpoint_analyser.proofs.DoneStays.{done_grows}
use Rattle.fixpoint_analyser.proofs.Places.{got_contains}
use Rattle.fixpoint_analyser.proofs.WaitLaws.{waiting_within}

-- numbers

pub at_most_itself : (n : ℕ) → n ≤ n
at_most_itself n = omega arith

pub at_most_over : (a b c : ℕ) → a ≤ b → b ≤ c → a ≤ c
at_most_over a b c l m = omega (arith, l, m)

room_pays : (a b n v w : ℕ) → a + suc n ≤ b → w ≤ n → a + w ≤ b + v
room_pays a b n v w l m = omega (arith, l, m)

-- one fall of the table pays for all that may wait
pub fall_pays : (high low n v w : ℕ) → low < high → w ≤ n → low * suc n + w ≤ high * suc n + v
fall_pays high low n v w fall few =
    let up : suc low ≤ high = omega (arith, fall) in
    let product : suc low * suc n ≤ high * suc n = mul-le-mul_right (suc n) up in
    room_pays (low * suc n) (high * suc n) n v w (subst (λ k. k ≤ high * suc n) (suc-mul low (suc n)) product) few

-- who waits is one of the program's predicates
pub flags_within : (flags : List Bool) (n : ℕ) → length flags ≡ n → number_waiting flags ≤ n
flags_within flags n e = subst (λ k. number_waiting flags ≤ k) e (waiting_within flags)

module _ (program : Program) (ordered : AreOrdered (order program.grammar)) where
  -- what is given

  same_itself : (rows : List Facts) (p : ℕ) → GivesTheSame program rows rows p
  same_itself rows p = record { reached = refl; effects = λ clause has. refl }

  same_over : (a b c : List Facts) (p : ℕ) → GivesTheSame program a b p → GivesTheSame program b c p → GivesTheSame program a c p
  same_over a b c p s t = record { reached = t.reached ∙ s.reached; effects = λ clause has. t.effects clause has ∙ s.effects clause has }

  -- growth

  pub ascends_itself : (rows : List Facts) (flags : List Bool) → Ascends program rows flags rows flags
  ascends_itself rows flags = record { table = table_itself (order program.grammar) ordered rows; waiting = λ p w. w; others = λ p. inr (same_itself rows p); work = at_most_itself (work_left program rows flags) }

  module _ (a : List Facts) (f : List Bool) (b : List Facts) (g : List Bool) (c : List Facts) (h : List Bool) (first : Ascends program a f b g) (second : Ascends program b g c h) where
    others_over : (p : ℕ) → (waits g p ≡ true) ⊎ GivesTheSame program a b p → (waits h p ≡ true) ⊎ GivesTheSame program b c p → (waits h p ≡ true) ⊎ GivesTheSame program a c p
    others_over p one (inl w) = inl w
    others_over p (inl w) (inr t) = inl (second.waiting p w)
    others_over p (inr s) (inr t) = inr (same_over a b c p s t)

    pub ascends_over : Ascends program a f c h
    ascends_over = record {
      table = table_over (order program.grammar) ordered a b c first.table second.table;
      waiting = λ p w. second.waiting p (first.waiting p w);
      others = λ p. others_over p (first.others p) (second.others p);
      work = at_most_over (work_left program c h) (work_left program b g) (work_left program a f) second.work first.work;
    }

  pub steps_itself : (rows : List Row) (stored : List (Option (List Value))) (flags : List Bool) → IsUnderWay program rows stored flags → Steps program rows flags rows stored flags
  steps_itself rows stored flags was = record { under_way = was; ascends = ascends_itself (map row_seen rows) flags }

  -- nothing was changed
  pub steps_same : (old new : List Row) (stored : List (Option (List Value))) (flags : List Bool) → new ≡ old → IsUnderWay program old stored flags → Steps program old flags new stored flags
  steps_same old new stored flags e was = subst (λ rows. Steps program old flags rows stored flags) (sym e) (steps_itself old stored flags was)

  pub steps_over : (a : List Row) (f : List Bool) (b : List Row) (s : List (Option (List Value))) (g : List Bool) (c : List Row) (t : List (Option (List Value))) (h : List Bool) →
      Steps program a f b s g → Steps program b g c t h → Steps program a f c t h
  steps_over a f b s g c t h first second = record { under_way = second.under_way; ascends = ascends_over (map row_seen a) f (map row_seen b) g (map row_seen c) h first.ascends second.ascends }

  -- a predicate that is reached stays so
  pub reached_stays : (a : List Facts) (f : List Bool) (b : List Facts) (g : List Bool) → Ascends program a f b g → (p : ℕ) → IsTrue (facts_of a p).reached → IsTrue (facts_of b p).reached
  reached_stays a f b g up p r = (up.table p).reached r

  -- what was settled stays so

  module _ (a : List Facts) (f : List Bool) (b : List Facts) (g : List Bool) (up : Ascends program a f b g) (p : ℕ) where
    pub still_done : GivesTheSame program a b p → IsDone program a p → IsDone program b p
    still_done same done clause has = done_grows program ordered a b up.table p clause (same.effects clause has) (done clause has)

    settled_by : (waits g p ≡ true) ⊎ GivesTheSame program a b p → IsSettled program a f p → IsSettled program b g p
    settled_by (inl w) settled r = inl w
    settled_by (inr same) settled r = from (settled (sym same.reached ∙ r))
      where
        from : (waits f p ≡ true) ⊎ IsDone program a p → (waits g p ≡ true) ⊎ IsDone program b p
        from (inl w) = inl (up.waiting p w)
        from (inr done) = inr (still_done same done)

    pub settled_stays : IsSettled program a f p → IsSettled program b g p
    settled_stays settled = settled_by (up.others p) settled

    first_by : (k : ℕ) → (waits g p ≡ true) ⊎ GivesTheSame program a b p → FirstSettled program a f p k → FirstSettled program b g p k
    first_by k (inl w) settled = inl w
    first_by k (inr same) (inl w) = inl (up.waiting p w)
    first_by k (inr same) (inr done) = inr (λ i clause lt got. done_grows program ordered a b up.table p clause (same.effects clause (got_contains (pred_of program p).clauses i clause got)) (done i clause lt got))

    pub first_stays : (k : ℕ) → FirstSettled program a f p k → FirstSettled program b g p k
    first_stays k settled = first_by k (up.others p) settled

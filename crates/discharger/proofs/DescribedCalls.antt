-- A call, an exit and a clause that a described frame comes to leave a described state.
use Rattle.std.proofs.Common.{◌≡◌, ℕ, suc, ◌<◌, Bool, true, false, List, [], ◌∷◌, ◌++◌, length, refl, ap, sym, ◌∙◌, subst, true≢false}
use Rattle.std.specs.Prelude.{nat_le, ◌==◌, not, filter, Option, None, Some, if◌then◌else◌, IsTrue}
use Rattle.std.specs.List.{AllByRecursion}
use Rattle.term_core.specs.declared.terms.Term.{Term}
use Rattle.prog_data.specs.declared.conditions.Prop.{Prop}
use Rattle.prog_data.specs.declared.conditions.CondKind.{CondKind}
use Rattle.prog_data.specs.declared.conditions.CondKind.TheVariants.{Calls, Success, Comp}
use Rattle.prog_data.specs.declared.programs.Clause.{Clause}
use Rattle.prog_data.specs.declared.programs.Program.{Program}
use Rattle.prog_data.specs.Conditions.{all_hold, kind_of, is_calls, is_success, is_comp, calls_hold, pre_holds, post_holds, exit_breaks}
use Rattle.prog_data.specs.Goals.{pred_of}
use Rattle.prog_data.specs.Values.{TypeValue, AreIn}
use Rattle.prog_data.proofs.Leaves.{In, here, later, in_filter, filter_in}
use Rattle.name_order.specs.Relations.{order}
use Rattle.type_domain.specs.Laws.{LeqEach}
use Rattle.machine_model.specs.State.{Frame, Call, Choice, Resume, Try, Mark, Doing, State, Going, Over, Trace, exited, exit_mark}
use Rattle.machine_model.specs.Tests.{all_looks}
use Rattle.machine_model.specs.Step.{tries, with_mark, Breaks, finding, after_test, after_tests, quietly, mark_of, mark_conds, mark_exited, call_step, call_made, exit_step}
use Rattle.prog_data.specs.declared.events.Ending.TheVariants as ending
use Rattle.goal_transfer.proofs.Lengths.{row_there, exit_there}
use Rattle.discharger.proofs.Narrowing.{tests_of, narrowing, same_arity, in_narrowed_entry, in_narrowed_exit}
use Rattle.discharger.specs.ReliedOn.{ReliedOn}
use Rattle.goal_transfer.specs.Transfer.{Values, behind_call}
use Rattle.goal_transfer.specs.Conditions.{all_implied, narrowed_exit}
use Rattle.goal_transfer.specs.Tables.{Facts, facts_of, IsRow, Closed, exit_where, exits_of}
use Rattle.discharger.proofs.InValues.{AllIn, KnownIn, in_values, push_each_in}
use Rattle.discharger.proofs.InConditions.{are_length, types_in, all_implied_hold}
use Rattle.discharger.proofs.Described.{resumed, NotedAt, Behind, ExitDescribed, ItemsDescribed, CallDescribed, ChoiceDescribed}
use Rattle.discharger.proofs.DescribedLaws.{described_from}
use Rattle.discharger.proofs.DescribedBuiltins.{IfGoing}

-- lists

pub all_both : {A : Type 0} (P : A → Type 0) (xs ys : List A) → AllByRecursion P xs → AllByRecursion P ys → AllByRecursion P (xs ++ ys)
all_both P [] ys h k = k
all_both P (x ∷ xs) ys h k = (h.0, all_both P xs ys h.1 k)

-- what holds of one and of the others holds of each
one_more : {d : ℕ} (test : ℕ → Bool) (c : ℕ) (cs : List ℕ) → test c ≡ true → (In d cs → test d ≡ true) → In d (c ∷ cs) → test d ≡ true
one_more test c cs e rest here = e
one_more test c cs e rest (later i) = rest i

module _ (stops : Bool) (program : Program) (rows : List Facts) (relied : ReliedOn program.grammar) where
  pub are_lower : (args : List Term) (vs ws : List TypeValue) → AreIn program.grammar args vs → LeqEach vs ws → AreIn program.grammar args ws
  are_lower [] [] [] a l = tt
  are_lower [] [] (w ∷ ws) a l = absurd l
  are_lower [] (v ∷ vs) ws a l = absurd a
  are_lower (t ∷ ts) [] ws a l = absurd a
  are_lower (t ∷ ts) (v ∷ vs) [] a l = absurd l
  are_lower (t ∷ ts) (v ∷ vs) (w ∷ ws) a l = (relied.keeps.leq t v w l.0 a.0, are_lower ts vs ws a.1 l.1)

  module _ (closed : Closed (narrowing stops program) rows) where
    pub row_of : (p : ℕ) → IsTrue (facts_of rows p).reached → IsRow (order program.grammar) (pred_of program p).arity (facts_of rows p)
    row_of p r = subst (λ n. IsRow (order program.grammar) n (facts_of rows p)) (same_arity stops program p) (closed.table.each p (subst (λ n. p < n) closed.table.count (row_there rows p r)))

    pub row_exits : (p : ℕ) → IsTrue (facts_of rows p).exits → IsRow (order program.grammar) (pred_of program p).arity (facts_of rows p)
    row_exits p r = subst (λ n. IsRow (order program.grammar) n (facts_of rows p)) (same_arity stops program p) (closed.table.each p (subst (λ n. p < n) closed.table.count (exit_there rows p r)))

    -- tests change nothing but that a run may be over; where a broken condition ends it, each condition held if it goes on
    pub tests_keep : (counts : ℕ) (test : ℕ → Bool) (cs : List ℕ) (next : Trace) → ((stops ≡ true → (c : ℕ) → In c cs → test c ≡ true) → IfGoing stops program rows next.phase) →
        IfGoing stops program rows (after_tests stops counts (λ c. finding (test c)) cs next).phase
    tests_keep counts test [] next h = h (λ s c i. elim i [ ])
    tests_keep counts test (c ∷ cs) next h = by_test (test c) refl (tests_keep counts test cs next)
      where
        with_one : test c ≡ true → (stops ≡ true → (d : ℕ) → In d cs → test d ≡ true) → stops ≡ true → (d : ℕ) → In d (c ∷ cs) → test d ≡ true
        with_one e held s d i = one_more test c cs e (held s d) i

        broken : (b : Bool) → stops ≡ b → (((stops ≡ true → (d : ℕ) → In d cs → test d ≡ true) → IfGoing stops program rows next.phase) → IfGoing stops program rows (after_tests stops counts (λ c. finding (test c)) cs next).phase) → IfGoing stops program rows (after_test b counts c Breaks (after_tests stops counts (λ c. finding (test c)) cs next)).phase
        broken true s rest = tt
        broken false s rest = rest (λ held. h (λ t. absurd (true≢false (sym t ∙ s))))

        by_test : (b : Bool) → test c ≡ b → (((stops ≡ true → (d : ℕ) → In d cs → test d ≡ true) → IfGoing stops program rows next.phase) → IfGoing stops program rows (after_tests stops counts (λ c. finding (test c)) cs next).phase) → IfGoing stops program rows (after_test stops counts c (finding b) (after_tests stops counts (λ c. finding (test c)) cs next)).phase
        by_test true e rest = rest (λ held. h (with_one e held))
        by_test false e rest = broken stops refl rest

    -- calls

    module _ (p : ℕ) (args : List Term) (reached : IsTrue (facts_of rows p).reached) (entered : AreIn program.grammar args (facts_of rows p).entry) where
      as_many : length args ≡ (pred_of program p).arity
      as_many = are_length program.grammar args (facts_of rows p).entry entered ∙ (row_of p reached).entry.0

      calls_held : ((c : ℕ) → In c (all_looks program (pred_of program p)).calls → calls_hold program.grammar args (kind_of program c) ≡ true) → (c : ℕ) → In c (pred_of program p).conds → calls_hold program.grammar args (kind_of program c) ≡ true
      calls_held e c i = by_kind (kind_of program c) refl
        where
          by_kind : (k : Option CondKind) → kind_of program c ≡ k → calls_hold program.grammar args k ≡ true
          by_kind (Some (Calls ds)) same = sym (ap (calls_hold program.grammar args) same) ∙ e c (in_filter (λ c. is_calls (kind_of program c)) (pred_of program p).conds (ap is_calls same) i)
          by_kind (Some (Success pre post)) same = refl
          by_kind (Some (Comp pre property)) same = refl
          by_kind None same = refl

      pub noted_at : NotedAt stops program rows p args (filter (λ c. pre_holds program.grammar args (kind_of program c)) (all_looks program (pred_of program p)).notes)
      noted_at = record {
        implied = λ c pre post i same e.
            in_filter (λ c. pre_holds program.grammar args (kind_of program c)) _ (ap (pre_holds program.grammar args) same ∙ all_implied_hold program.grammar relied args (facts_of rows p).entry entered pre e)
            (in_filter (λ c. is_success (kind_of program c)) (pred_of program p).conds (ap is_success same) i);
        own = λ c i. (filter_in (λ c. is_success (kind_of program c)) (pred_of program p).conds (filter_in (λ c. pre_holds program.grammar args (kind_of program c)) _ i).0).0;
        pre = λ c pre post i same. types_in program.grammar relied args pre (pred_of program p).arity as_many (sym (ap (pre_holds program.grammar args) same) ∙ (filter_in (λ c. pre_holds program.grammar args (kind_of program c)) _ i).1);
      }

      pub marked_own : (c : ℕ) → In c (filter (λ c. pre_holds program.grammar args (kind_of program c)) (all_looks program (pred_of program p)).marks) → In c (pred_of program p).conds
      marked_own c i = (filter_in (λ c. is_comp (kind_of program c)) (pred_of program p).conds (filter_in (λ c. pre_holds program.grammar args (kind_of program c)) _ i).0).0

      mark_described : (marked : List ℕ) (cs : List Choice) → ((c : ℕ) → In c marked → In c (pred_of program p).conds) → AllByRecursion (ChoiceDescribed stops program rows) cs → AllByRecursion (ChoiceDescribed stops program rows) (with_mark p marked cs)
      mark_described [] cs own d = d
      mark_described (c ∷ conds) cs own d = ((reached, own), d)

      tries_described : (k : ℕ) (clauses : List Clause) (call : Call) → CallDescribed stops program rows call → AllByRecursion (ChoiceDescribed stops program rows) (tries k clauses call)
      tries_described k [] call d = tt
      tries_described k (c ∷ cs) call d = (d, tries_described (suc k) cs call d)

      pub call_keeps : (limit : ℕ) (s : State) (rest : Frame) → AllByRecursion (ChoiceDescribed stops program rows) s.choices → Behind stops program rows (λ w h l. ItemsDescribed stops program rows w h l rest.items) p args →
          IfGoing stops program rows (call_step (tests_of stops program) program limit s p (pred_of program p) args rest).phase
      call_keeps limit s rest choices d = by_bound (nat_le limit s.calls)
        where
          made : IfGoing stops program rows (call_made (tests_of stops program) program limit s p (pred_of program p) args rest).phase
          made = tests_keep 1 (λ c. calls_hold program.grammar args (kind_of program c)) (all_looks program (pred_of program p)).calls _ (λ e.
              let n = in_narrowed_entry program relied p args as_many (facts_of rows p).entry stops entered (λ s. calls_held (e s)) in
              record {
                choices = all_both (ChoiceDescribed stops program rows) (tries 0 (pred_of program p).clauses _) _
                    (tries_described 0 (pred_of program p).clauses _ (record { reached = reached; entered = entered; entry = n.0; narrowed = n.1; args = n.2; noted = noted_at; rest = d }))
                    (mark_described _ s.choices marked_own choices);
                current = tt;
              })

          by_bound : (b : Bool) → IfGoing stops program rows (if b then quietly (Over ending.Bound) else call_made (tests_of stops program) program limit s p (pred_of program p) args rest).phase
          by_bound true = tt
          by_bound false = made

    -- exits

    exited_described : (c : Choice) → ChoiceDescribed stops program rows c → ChoiceDescribed stops program rows (exited c)
    exited_described (Resume f) d = d
    exited_described (Try k call) d = d
    exited_described (Mark p conds e) d = d

    exit_mark_described : (m : Option ℕ) (cs : List Choice) → AllByRecursion (ChoiceDescribed stops program rows) cs → AllByRecursion (ChoiceDescribed stops program rows) (exit_mark m cs)
    exit_mark_described None cs d = d
    exit_mark_described (Some h) [] d = d
    exit_mark_described (Some h) (c ∷ cs) d = by_test (h == length cs) (exit_mark_described (Some h) cs d.1)
      where
        by_test : (b : Bool) → AllByRecursion (ChoiceDescribed stops program rows) (exit_mark (Some h) cs) → AllByRecursion (ChoiceDescribed stops program rows) (if b then exited c ∷ cs else c ∷ exit_mark (Some h) cs)
        by_test true rest = (exited_described c d.0, d.1)
        by_test false rest = (d.0, rest)

    posts_held : (p : ℕ) (args : List Term) (noted : List ℕ) → NotedAt stops program rows p args noted → ((c : ℕ) → In c noted → post_holds program.grammar args (kind_of program c) ≡ true) →
        (c : ℕ) (pre post : List Prop) → In c (pred_of program p).conds → kind_of program c ≡ Some (Success pre post) → all_implied (order program.grammar) (facts_of rows p).entry pre ≡ true → all_hold program.grammar args post ≡ true
    posts_held p args noted n e c pre post i same h = sym (ap (post_holds program.grammar args) same) ∙ e c (n.implied c pre post i same h)

    pub exit_keeps : (limit : ℕ) (s : State) (p : ℕ) (args : List Term) (noted : List ℕ) (mark : Option ℕ) (rest : Frame) (value : ℕ → Term) (head : List Term) (known : Values) → AllIn program.grammar value known →
        AllByRecursion (ChoiceDescribed stops program rows) s.choices → ExitDescribed stops program rows (λ w h l. ItemsDescribed stops program rows w h l rest.items) value head (Some known) p args noted →
        IfGoing stops program rows (exit_step (tests_of stops program) program limit s p args noted mark rest).phase
    exit_keeps limit s p args noted mark rest value head known belong choices d =
        tests_keep 1 (λ c. post_holds program.grammar args (kind_of program c)) noted _ (λ e.
        tests_keep 0 (λ c. not (exit_breaks (mark_exited (mark_of mark s.choices)) (kind_of program c))) (mark_conds (mark_of mark s.choices)) (quietly (Going (record s { choices = exit_mark mark s.choices; current = Doing rest }))) (λ f.
        record { choices = exit_mark_described mark s.choices choices; current = described_from stops program rows relied d.rest.value d.rest.head _ rest.items (kept e) d.rest.goes }))
      where
        exits : IsTrue (facts_of rows p).exits
        exits = d.exits.1.0

        args_in : AreIn program.grammar args (facts_of rows p).exit
        args_in = subst (λ ts. AreIn program.grammar ts (facts_of rows p).exit) d.exits.0 (are_lower _ _ _ (in_values program.grammar relied value known belong head) d.exits.1.1)

        kept : (stops ≡ true → (c : ℕ) → In c noted → post_holds program.grammar args (kind_of program c) ≡ true) → KnownIn program.grammar d.rest.value (resumed stops program rows p d.rest.terms d.rest.known)
        kept e = by_exits (facts_of rows p).exits exits
          where
            narrowed : AreIn program.grammar args (narrowed_exit (narrowing stops program) (order program.grammar) p (facts_of rows p).entry (facts_of rows p).exit)
            narrowed =
                in_narrowed_exit program relied p args (are_length program.grammar args (facts_of rows p).exit args_in ∙ (row_exits p exits).exit.0) (facts_of rows p).entry stops (facts_of rows p).exit args_in
                (λ s. posts_held p args noted d.noted (e s))

            by_exits : (b : Bool) → IsTrue b → KnownIn program.grammar d.rest.value (behind_call (order program.grammar) (exits_of (narrowing stops program) (order program.grammar) rows) (exit_where b (narrowed_exit (narrowing stops program) (order program.grammar) p (facts_of rows p).entry (facts_of rows p).exit)) d.rest.terms d.rest.known)
            by_exits true h = push_each_in program.grammar relied d.rest.value d.rest.terms (narrowed_exit (narrowing stops program) (order program.grammar) p (facts_of rows p).entry (facts_of rows p).exit)
                (subst (λ ts. AreIn program.grammar ts (narrowed_exit (narrowing stops program) (order program.grammar) p (facts_of rows p).entry (facts_of rows p).exit)) (sym d.rest.called) narrowed) d.rest.known d.rest.belong
            by_exits false h = absurd (true≢false (sym h))

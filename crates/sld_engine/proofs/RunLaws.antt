-- What a run tells, event by event.
use Rattle.std.proofs.Common.{◌≡◌, ◌≤◌, ◌<◌, ℕ, zero, suc, ◌+◌, ◌-◌, ◌^◌, min, List, [], ◌∷◌, ◌++◌, map, drop, get_or, length, Option, None, Some, refl, sym, ap, subst, ◌∙◌, arith}
use Rattle.std.specs.Prelude.{option_map}
use Rattle.std.proofs.Math.Seq.{drop-cons}
use Rattle.term_core.specs.declared.terms.Term.{Term}
use Rattle.prog_data.specs.declared.programs.Program.{Program}
use Rattle.prog_data.specs.declared.events.Event.{Event}
use Rattle.prog_data.specs.declared.events.Event.TheVariants.{Out, Answer, End, Broken}
use Rattle.prog_data.specs.declared.events.Ending.{Ending}
use Rattle.prog_data.specs.Goals.{called_by}
use Rattle.prog_data.specs.Programs.{IsProgram}
use Rattle.machine_model.specs.State.{State, Phase, Going, Over}
use Rattle.machine_model.specs.Tests.{Tests}
use Rattle.machine_model.specs.Run.{start_of, RunsFrom, RunsBy}
use Rattle.machine_model.specs.Continues.{Left, at_phase, Continues, Leads, IsNext}
use Rattle.machine_model.specs.LeanerLaws.{LeanerTellsTheSame, TellTheSame}
use Rattle.machine_model.proofs.Continuing.{stay, then_leads, tell}
use Rattle.engine_state.specs.declared.engine.Engine as code
use Rattle.engine_state.specs.declared.stages.Stage as code_stage
use Rattle.engine_state.specs.declared.stages.Stage.TheVariants as stage
use Rattle.engine_state.specs.Stages.{phase_of, IsWhole}
use Rattle.engine_state.specs.Turns.{IsSamePhase}
use Rattle.engine_moves.specs.declared.readings.Reading.{Reading}
use Rattle.sld_engine.specs.declared.state.RunState.{RunState}
use Rattle.engine_moves.specs.Readings.{tests_by}
use Rattle.sld_engine.specs.Going.{IsCome, HasCome}
use Rattle.sld_engine.specs.Running.{IsStageOf}
use Rattle.sld_engine.specs.Runs.{left_of, program_of, bound_of, tests_of, tests_made_by, Starts, HasTold}
use Rattle.sld_engine.specs.Starts.{HasStarted}

drop_all : (n : ℕ) (xs : List ℕ) → length xs ≤ n → drop n xs ≡ []
drop_all zero [] le = refl
drop_all zero (x ∷ xs) le = absurd (omega (arith, le))
drop_all (suc n) [] le = refl
drop_all (suc n) (x ∷ xs) le = drop_all n xs (omega (arith, le))

pub not_given : (n : ℕ) (xs : List ℕ) → n < length xs → drop n xs ≡ [] → ⊥
not_given zero [] less none = absurd (omega (arith, less))
not_given zero (x ∷ xs) less none = apart none where
  apart : (x ∷ xs) ≡ [] → ⊥
  apart e = cc
not_given (suc n) [] less none = absurd (omega (arith, less))
not_given (suc n) (x ∷ xs) less none = not_given n xs (omega (arith, less)) none

-- what a run is that goes on

pub whole_of : (program : Program) (e : code.Engine) (to : code_stage.Stage) → IsStageOf program e to → (p : Phase) → phase_of e to ≡ Some p → IsWhole e to
whole_of program e (stage.Doing k) is p phase = is.1
whole_of program e (stage.Goal g s) is p phase = is.1
whole_of program e (stage.Calling q args h place rest) is p phase = is.1
whole_of program e stage.Failed is p phase = is.1
whole_of program e (stage.Over ending) is p phase = tt
whole_of program e stage.Stuck is p phase = tt

pub program_same : (program : Program) (e : code.Engine) (to : code_stage.Stage) → IsStageOf program e to → (p : Phase) → phase_of e to ≡ Some p → e.program.now ≡ program
program_same program e (stage.Doing k) is p phase = is.0
program_same program e (stage.Goal g s) is p phase = is.0
program_same program e (stage.Calling q args h place rest) is p phase = is.0
program_same program e stage.Failed is p phase = is.0
program_same program e (stage.Over ending) is p phase = is
program_same program e stage.Stuck is p phase = absurd (none_is p phase) where
  none_is : (p : Phase) → None ≡ Some p → ⊥
  none_is p e = cc

pub running : (program : Program) (e : code.Engine) (to : code_stage.Stage) → e.program.now ≡ program → IsWhole e to → IsStageOf program e to
running program e (stage.Doing k) same whole = (same, whole)
running program e (stage.Goal g s) same whole = (same, whole)
running program e (stage.Calling q args h place rest) same whole = (same, whole)
running program e stage.Failed same whole = (same, whole)
running program e (stage.Over ending) same whole = same
running program e stage.Stuck same whole = tt

pub phase_there : (e : code.Engine) (to : code_stage.Stage) → (to ≡ stage.Stuck → ⊥) → (p : Phase) × (phase_of e to ≡ Some p)
phase_there e (stage.Doing k) is = (_, refl)
phase_there e (stage.Goal g s) is = (_, refl)
phase_there e (stage.Calling q args h place rest) is = (_, refl)
phase_there e stage.Failed is = (_, refl)
phase_there e (stage.Over ending) is = (_, refl)
phase_there e stage.Stuck is = absurd (is refl)

-- the start

same_found : (p q : ℕ) (o : Option ℕ) → o ≡ Some p → o ≡ Some q → p ≡ q
same_found p q o x y = cc

found_same : LeanerTellsTheSame → (program : Program) → IsProgram program → (s : State) (o : Option Phase) → IsSamePhase program s o → (s' : State) × (o ≡ Some (Going s')) × TellTheSame program s s'
found_same tells program is s None same = absurd same
found_same tells program is s (Some (Over e)) same = absurd same
found_same tells program is s (Some (Going s')) same = (s', refl, tells program is s s' same)

pub run_starts : LeanerTellsTheSame → (program : Program) → IsProgram program → (query : Term) (pred bound : ℕ) (reading : Reading) (r : RunState) → called_by program query ≡ Some pred → HasStarted program pred query r.engine r.stage → r.told.items ≡ [] → r.given ≡ 0 → Starts program query bound reading r
run_starts tells program is query pred bound reading r called started no_told none_given =
    let what : Tests = tests_by program reading in
    let found = found_same tells program is (start_of pred query) (phase_of r.engine r.stage) started.same in
    let none : drop r.given r.told.items ≡ [] = (λ i. drop (none_given i) (no_told i)) in
    record {
      whole = at_phase (Going found.0);
      is = λ i. option_map (λ p. record { untold = map Broken (none i); phase = p }) (found.1 i);
      forth = λ events tests e c. record { pred = pred; calls = called; runs = found.2.forth what bound events tests e c };
      back = λ events tests e run.
          let runs : RunsFrom what program bound (start_of pred query) events tests e =
          subst (λ q. RunsFrom what program bound (start_of q query) events tests e) (same_found run.pred pred (called_by program query) run.calls called) run.runs in
          (found.2.back what bound events tests e runs).0;
    }

-- events

-- an event that is told next, of those that are to be told
pub told_first : (what : Tests) (program : Program) (bound : ℕ) (old : Left) (made : ℕ) (event : Event) (more : List Event) (p : Phase) → Leads what program bound old [] made (record { untold = event ∷ more; phase = p }) → Leads what program bound old (event ∷ []) made (record { untold = more; phase = p })
told_first what program bound old made event more p leads =
    let none : made + 0 ≡ made = omega arith in
    subst (λ n. Leads what program bound old (event ∷ []) n (record { untold = more; phase = p })) none
    (then_leads what program bound old (record { untold = event ∷ more; phase = p }) (record { untold = more; phase = p }) [] (event ∷ []) made 0 leads (tell what program bound event more p))

module _ (old new : RunState) where
  abbrev what : Tests
  what = tests_made_by old

  -- the next of the conditions that were told
  pub gives : (c d : ℕ) (p : Phase) → phase_of old.engine old.stage ≡ Some p → old.given < length old.told.items → c ≡ get_or old.told.items old.given d → new.engine ≡ old.engine → new.stage ≡ old.stage → new.told.items ≡ old.told.items →
      new.given ≡ old.given + 1 → new.tests ≡ old.tests → old.tests ≤ 2 ^ 64 - 1 → HasTold old (Broken c) new
  gives c d p phase less is engine stage told given tests most =
      let more : List ℕ = drop (suc old.given) old.told.items in
      let next : suc old.given ≡ new.given = omega (arith, given) in
      let first : drop old.given old.told.items ≡ c ∷ more = drop-cons old.told.items old.given d less ∙ ap (λ x. x ∷ more) (sym is) in
      record {
        before = record { untold = Broken c ∷ map Broken more; phase = p };
        after = record { untold = map Broken more; phase = p };
        was = λ i. option_map (λ q. record { untold = map Broken (first i); phase = q }) (phase i);
        is = (λ i. option_map (λ q. record { untold = map Broken (drop (sym next i) (told i)); phase = q }) (phase_of (engine i) (stage i)))
            ∙ ap (option_map (λ q. record { untold = map Broken more; phase = q })) phase;
        made = 0;
        counted = tests ∙ omega (arith, most);
        next = tell what (program_of old) (bound_of old) (Broken c) (map Broken more) p;
      }

  -- the ending, once more
  pub ends : (e : Ending) → old.stage ≡ stage.Over e → length old.told.items ≤ old.given → new ≡ old → old.tests ≤ 2 ^ 64 - 1 → HasTold old (End e) new
  ends e over all same most =
      let none : drop old.given old.told.items ≡ [] = drop_all old.given old.told.items all in
      let was : left_of old ≡ Some (at_phase (Over e)) = λ i. option_map (λ q. record { untold = map Broken (none i); phase = q }) (phase_of old.engine (over i)) in
      record {
        before = at_phase (Over e);
        after = at_phase (Over e);
        was = was;
        is = ap left_of same ∙ was;
        made = 0;
        counted = ap tests_of same ∙ omega (arith, most);
        next = record { over = refl; leads = stay what (program_of old) (bound_of old) (at_phase (Over e)) };
      }

  -- the next event, where each condition was given
  module _ (p : Phase) (was_phase : phase_of old.engine old.stage ≡ Some p) (all : length old.told.items ≤ old.given) (counted : ℕ) (sum : new.tests ≡ min (old.tests + counted) (2 ^ 64 - 1)) where
    before_is : left_of old ≡ Some (at_phase p)
    before_is = let none : drop old.given old.told.items ≡ [] = drop_all old.given old.told.items all in λ i. option_map (λ q. record { untold = map Broken (none i); phase = q }) (was_phase i)

    sums : (made : ℕ) → counted ≡ min made (2 ^ 64 - 1) → new.tests ≡ min (old.tests + made) (2 ^ 64 - 1)
    sums made is = omega (arith, sum, is)

    pub tells : (event : Event) → HasCome old.reading old.bound old.program.now p (Some event) new.told.items counted new.engine new.stage → new.given ≡ 0 → HasTold old event new
    tells event come given =
        let none : drop new.given new.told.items ≡ [] = λ i. drop (given i) (come.come.0 i) in
        record {
          before = at_phase p;
          after = at_phase come.now;
          was = before_is;
          is = λ i. option_map (λ q. record { untold = map Broken (none i); phase = q }) (come.is i);
          made = come.tests;
          counted = sums come.tests come.counted_are;
          next = come.come.1;
        }

    pub tells_first : (c d : ℕ) → HasCome old.reading old.bound old.program.now p None new.told.items counted new.engine new.stage → 0 < length new.told.items → c ≡ get_or new.told.items 0 d → new.given ≡ 1 → HasTold old (Broken c) new
    tells_first c d come some is given =
        let more : List ℕ = drop 1 new.told.items in
        let first : new.told.items ≡ c ∷ more = drop-cons new.told.items 0 d some ∙ ap (λ x. x ∷ more) (sym is) in
        let leads : Leads what (program_of old) (bound_of old) (at_phase p) [] come.tests (record { untold = Broken c ∷ map Broken more; phase = come.now }) =
        subst (λ ts. Leads what (program_of old) (bound_of old) (at_phase p) [] come.tests (record { untold = map Broken ts; phase = come.now })) first come.come in
        record {
          before = at_phase p;
          after = record { untold = map Broken more; phase = come.now };
          was = before_is;
          is = λ i. option_map (λ q. record { untold = map Broken (drop (given i) new.told.items); phase = q }) (come.is i);
          made = come.tests;
          counted = sums come.tests come.counted_are;
          next = told_first what (program_of old) (bound_of old) (at_phase p) come.tests (Broken c) (map Broken more) come.now leads;
        }

-- what is left of a run that is over

nothing_left : (o : Option Phase) (ts : List ℕ) (e : Ending) → option_map (λ p. record { untold = map Broken ts; phase = p }) o ≡ Some (at_phase (Over e)) → (ts ≡ []) × (o ≡ Some (Over e))
nothing_left None ts e is = absurd (none_is is) where
  none_is : {A : Type 0} {x : A} → None ≡ Some x → ⊥
  none_is e = cc
nothing_left (Some p) [] e is = (refl, phases is) where
  phases : Some (record { untold = []; phase = p }) ≡ Some (at_phase (Over e)) → Some p ≡ Some (Over e)
  phases is = ap (option_map (λ l. l.phase)) is
nothing_left (Some p) (t ∷ ts) e is = absurd (apart (ap (option_map (λ l. l.untold)) is)) where
  apart : Some (Broken t ∷ map Broken ts) ≡ Some [] → ⊥
  apart e = cc

pub over_left : (r : RunState) (e : Ending) → left_of r ≡ Some (at_phase (Over e)) → (drop r.given r.told.items ≡ []) × (phase_of r.engine r.stage ≡ Some (Over e))
over_left r e is = nothing_left (phase_of r.engine r.stage) (drop r.given r.told.items) e is

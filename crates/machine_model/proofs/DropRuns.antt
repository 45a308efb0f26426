-- The run that has only some conditions begins with the events of the run that tests all, and is the same where no other condition is broken.
use Rattle.std.proofs.Common.{true, false, ◌≡◌, ℕ, zero, suc, Bool, List, [], ◌∷◌, ◌++◌, refl, ap, sym, ◌∙◌, subst}
use Rattle.std.specs.Prelude.{filter}
use Rattle.std.proofs.lemmas.List.Elements.{filter-append}
use Rattle.term_core.specs.declared.terms.Term.{Term}
use Rattle.prog_data.specs.declared.programs.Program.{Program}
use Rattle.prog_data.specs.declared.programs.Pred.{Pred}
use Rattle.prog_data.specs.declared.programs.Claim.{Claim}
use Rattle.prog_data.specs.declared.conditions.Cond.{Cond}
use Rattle.prog_data.specs.Goals.{called_by}
use Rattle.prog_data.specs.declared.events.Event.{Event}
use Rattle.prog_data.specs.declared.events.Event.TheVariants as event
use Rattle.prog_data.specs.declared.events.Ending.{Ending}
use Rattle.prog_data.specs.declared.events.Ending.TheVariants.{Violated}
use Rattle.machine_model.specs.State.{State, Phase, Going, Over, Trace}
use Rattle.machine_model.specs.Tests.{Looks, all_looks, only_looks}
use Rattle.machine_model.specs.Step.{step, quietly}
use Rattle.machine_model.specs.Run.{steps, then_trace, start_of, Run, RunsBy, RunsFrom}
use Rattle.machine_model.specs.Laws.{Drops, BreaksOther, SameUntil}
use Rattle.machine_model.proofs.OneRun.{begins_run}
use Rattle.machine_model.proofs.Ends.{ends}
use Rattle.machine_model.proofs.BothWays.{some_same, one_outcome}
use Rattle.machine_model.proofs.DropRelation as rel
use Rattle.machine_model.proofs.DropRelation.{whole, does, frames, doing, States, states}
use Rattle.machine_model.proofs.DropSteps.{is_seen, Fewer, with_preds, looking, Phases, on, over, Follows, moves, stays, breaks, step_follows}

-- how the two stand after some steps
pub data Ends (stops : Bool) (keeps : ℕ → Bool) : Phase → Phase → Type 0 where
  alike : {p p' : Phase} → Phases keeps p p' → Ends stops keeps p p'
  broken : {c : ℕ} {p' : Phase} → stops ≡ true → keeps c ≡ false → Ends stops keeps (Over (Violated c)) p'

-- a run that ends by the first broken condition tells none
pub all_seen : (keeps : ℕ → Bool) (es : List Event) → filter (is_seen true keeps) es ≡ es
all_seen keeps [] = refl
all_seen keeps (event.Out bytes ∷ es) = ap (λ es. event.Out bytes ∷ es) (all_seen keeps es)
all_seen keeps (event.Answer query ∷ es) = ap (λ es. event.Answer query ∷ es) (all_seen keeps es)
all_seen keeps (event.End e ∷ es) = ap (λ es. event.End e ∷ es) (all_seen keeps es)
all_seen keeps (event.Broken c ∷ es) = ap (λ es. event.Broken c ∷ es) (all_seen keeps es)

-- a trace from its parts
joined : (t : Trace) (es : List Event) (e : Ending) → t.events ≡ es → t.phase ≡ Over e → t ≡ record { events = es; tests = t.tests; phase = Over e }
joined t es e a b = λ i. record { events = a i; tests = t.tests; phase = b i }

module _ (stops stops' : Bool) (program : Program) (keeps : ℕ → Bool) (preds : List Pred) (conds : List Cond) (claims : List Claim) (looks : Pred → Looks) (fewer : Fewer stops stops' keeps program (with_preds program preds conds claims) looks) (bound : ℕ) where
  abbrev pub those : ℕ → Phase → Trace
  those = steps (looking stops (all_looks program)) program bound

  abbrev pub these : ℕ → Phase → Trace
  these = steps (looking stops' looks) (with_preds program preds conds claims) bound

  abbrev pub seen : List Event → List Event
  seen es = filter (is_seen stops keeps) es

  -- some number of steps of the run with fewer tests has the events of k steps of the other that it sees
  abbrev pub Matched : ℕ → Phase → Phase → Type 0
  Matched k p p' = (j : ℕ) × ((these j p').events ≡ seen (those k p).events) × Ends stops keeps (those k p).phase (these j p').phase

  over_quiet : (k : ℕ) (e : Ending) → those k (Over e) ≡ quietly (Over e)
  over_quiet zero e = refl
  over_quiet (suc k) e = refl

  -- after one step of each, or of one
  after_step : (k : ℕ) (s' : State) (t : Trace) → ((p p' : Phase) → Phases keeps p p' → Matched k p p') → Follows stops keeps t s' (step (looking stops' looks) (with_preds program preds conds claims) bound s') →
      (j : ℕ) × ((these j (Going s')).events ≡ seen (then_trace t (those k t.phase)).events) × Ends stops keeps (then_trace t (those k t.phase)).phase (these j (Going s')).phase
  after_step k s' t ih (moves h) =
      let next = (step (looking stops' looks) (with_preds program preds conds claims) bound s').phase in
      let m = ih t.phase next h.phases in
      (suc m.0, ap (λ es. es ++ (these m.0 next).events) h.events ∙ ap (λ es. seen t.events ++ es) m.1 ∙ sym (filter-append (is_seen stops keeps) t.events (those k t.phase).events), m.2)
  after_step k s' t ih (stays h) =
      let m = ih t.phase (Going s') h.phases in
      (m.0, m.1 ∙ ap (λ es. es ++ seen (those k t.phase).events) h.events ∙ sym (filter-append (is_seen stops keeps) t.events (those k t.phase).events), m.2)
  after_step k s' t ih (breaks o) = (
    0,
    sym (ap (λ es. seen (es ++ (those k t.phase).events)) o.events ∙ ap (λ q. seen (those k q).events) o.over ∙ ap (λ u. seen u.events) (over_quiet k (Violated o.cond))),
    subst (λ q. Ends stops keeps q.phase (Going s')) (sym (ap (those k) o.over ∙ over_quiet k (Violated o.cond))) (broken o.stopping o.other),
  )

  pub run_follows : (k : ℕ) (p p' : Phase) → Phases keeps p p' → Matched k p p'
  run_follows zero p p' h = (0, refl, alike h)
  run_follows (suc k) p p' (over {e = e}) = (0, refl, alike over)
  run_follows (suc k) p p' (on {s} {s'} r) = after_step k s' (step (looking stops (all_looks program)) program bound s) (run_follows k) (step_follows stops stops' program keeps preds conds claims looks fewer bound s s' r)

  start_states : (p : ℕ) (query : Term) → States keeps (start_of p query) (start_of p query)
  start_states p query = states rel.none (doing (frames (does [] whole refl refl rel.none)))

  same_end : (e : Ending) (p' : Phase) → Ends stops keeps (Over e) p' → (stops ≡ true → BreaksOther keeps e → ⊥) → p' ≡ Over e
  same_end e p' (alike over) safe = refl
  same_end e p' (broken stopping no_keep) safe = absurd (safe stopping no_keep)

  -- what the run that tests all has
  abbrev pub Those : Term → List Event → Ending → Type 0
  Those query es e = (tests : ℕ) × RunsBy (looking stops (all_looks program)) program query bound es tests e

  -- what the run with fewer conditions has
  abbrev pub These : Term → List Event → Ending → Type 0
  These query es e = (tests : ℕ) × RunsBy (looking stops' looks) (with_preds program preds conds claims) query bound es tests e

  module _ (query : Term) (called : called_by (with_preds program preds conds claims) query ≡ called_by program query) where
    -- where no other condition ends it, it has the events that the run with fewer conditions sees, and the ending
    pub fewer_run : (es : List Event) (e : Ending) → Those query es e → (stops ≡ true → BreaksOther keeps e → ⊥) → These query (seen es) e
    fewer_run es e run safe =
        let r = run.1.runs in
        let s = start_of run.1.pred query in
        let m = run_follows r.count (Going s) (Going s) (on (start_states run.1.pred query)) in
        let here = m.1 ∙ ap (λ t. seen t.events) r.trace in
        let same = subst (λ q. Ends stops keeps q (these m.0 (Going s)).phase) (ap (λ t. t.phase) r.trace) m.2 in
        ((these m.0 (Going s)).tests, record { pred = run.1.pred; calls = called ∙ run.1.calls; runs = record { count = m.0; trace = joined (these m.0 (Going s)) (seen es) e here (same_end e _ same safe) } })

    -- its events go on after those of the run
    pub begins_fewer : (es es' : List Event) (e e' : Ending) → Those query es e → These query es' e' → (rest : List Event) × (seen es ++ rest ≡ es')
    begins_fewer es es' e e' run other =
        let r = run.1.runs in
        let s = start_of run.1.pred query in
        let m = run_follows r.count (Going s) (Going s) (on (start_states run.1.pred query)) in
        let pred : other.1.pred ≡ run.1.pred = some_same (sym other.1.calls ∙ called ∙ run.1.calls) in
        let o = subst (λ p. RunsFrom (looking stops' looks) (with_preds program preds conds claims) bound (start_of p query) es' other.0 e') pred other.1.runs in
        let b = begins_run (looking stops' looks) (with_preds program preds conds claims) bound m.0 o.count (Going s) e' (ap (λ t. t.phase) o.trace) in
        (b.0, ap (λ es. es ++ b.0) (sym (m.1 ∙ ap (λ t. seen t.events) r.trace)) ∙ b.1 ∙ ap (λ t. t.events) o.trace)

    -- there is one where there is the run, since each run ends
    pub there : ((es : List Event) × (e : Ending) × Those query es e) → (es : List Event) × (e : Ending) × These query es e
    there run =
        let r = ends (looking stops' looks) (with_preds program preds conds claims) bound (start_of run.2.1.pred query) in
        (r.0, r.2, (r.1, record { pred = run.2.1.pred; calls = called ∙ run.2.1.calls; runs = r.3 }))

    -- and the other way round
    pub back_there : ((es : List Event) × (e : Ending) × These query es e) → (es : List Event) × (e : Ending) × Those query es e
    back_there run =
        let r = ends (looking stops (all_looks program)) program bound (start_of run.2.1.pred query) in
        (r.0, r.2, (r.1, record { pred = run.2.1.pred; calls = sym called ∙ run.2.1.calls; runs = r.3 }))

-- where broken conditions end runs, the two are the same until one that is not kept does
module _ (program : Program) (keeps : ℕ → Bool) (preds : List Pred) (conds : List Cond) (claims : List Claim) (looks : Pred → Looks) (fewer : Fewer true true keeps program (with_preds program preds conds claims) looks) (bound : ℕ) (query : Term) (called : called_by (with_preds program preds conds claims) query ≡ called_by program query) where
  abbrev Fewest : List Event → Ending → Type 0
  Fewest = These true true program keeps preds conds claims looks fewer bound query

  the_run : (es : List Event) (e : Ending) → Run program query bound es e → (BreaksOther keeps e → ⊥) → Fewest es e
  the_run es e run safe = subst (λ es. Fewest es e) (all_seen keeps es) (fewer_run true true program keeps preds conds claims looks fewer bound query called es e run (λ is. safe))

  begins : (es es' : List Event) (e e' : Ending) → Run program query bound es e → Fewest es' e' → (rest : List Event) × (es ++ rest ≡ es')
  begins es es' e e' run other =
      let b = begins_fewer true true program keeps preds conds claims looks fewer bound query called es es' e e' run other in
      (b.0, ap (λ es. es ++ b.0) (sym (all_seen keeps es)) ∙ b.1)

  pub same_until : SameUntil (BreaksOther keeps) (Run program query bound) Fewest
  same_until = record {
    both = (there true true program keeps preds conds claims looks fewer bound query called, back_there true true program keeps preds conds claims looks fewer bound query called);
    begins = begins;
    same = λ es es' e e' run other safe. let mine = the_run es e run safe in let o = one_outcome (looking true looks) (with_preds program preds conds claims) query bound es es' mine.0 other.0 e e' mine.1 other.1 in (o.0, o.2);
  }

pub drops : (program : Program) → Drops program
drops program keeps query bound =
    same_until program keeps program.preds program.conds program.claims (λ pred. only_looks keeps (all_looks program pred)) (record { mode_is = λ c k. refl; looks_are = λ p. refl; clauses_are = λ p. refl; kinds_are = λ c e. refl }) bound query refl

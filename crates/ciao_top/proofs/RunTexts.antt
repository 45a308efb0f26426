-- What a run tells, one event at a time.
use Rattle.std.proofs.Common.{◌≡◌, ℕ, ◌+◌, true, false, List, [], ◌∷◌, ◌++◌, take, refl, ◌∙◌, sym, ap, subst, Option, Some, None, IsSome, is_some, true≢false}
use Rattle.term_core.specs.declared.terms.Term.{Term}
use Rattle.prog_data.specs.declared.programs.Program.{Program}
use Rattle.prog_data.specs.declared.events.Event.{Event}
use Rattle.prog_data.specs.declared.events.Event.TheVariants.{Out, Answer, End, Broken}
use Rattle.prog_data.specs.declared.events.Ending.{Ending}
use Rattle.machine_model.specs.Tests.{every_condition}
use Rattle.machine_model.specs.Continues.{Left, Continues, Leads, EndsBy, IsNext}
use Rattle.engine_moves.specs.declared.readings.Reading.TheVariants.{All}
use Rattle.engine_moves.specs.Readings.{tests_by}
use Rattle.sld_engine.specs.declared.state.RunState.{RunState}
use Rattle.sld_engine.specs.Runs.{left_of, program_of, bound_of, reading_of, Starts, HasTold}
use Rattle.machine_model.proofs.Continuing.{all_left}
use Rattle.run_report.specs.RunText.{event_text, ending_text}
use Rattle.ciao_modules.specs.FileNames.{Word}
use Rattle.ciao_top.specs.declared.runs.Following.{Following}
use Rattle.ciao_top.specs.Limits.{limit_line, LimitedText, limited_status, RunAnswers}
use Rattle.ciao_top.specs.Answers.{IsPrefix, Output, with_piece}
use Rattle.ciao_top.specs.InnerAnswers.{Only, GrewByFront, HasBegun, Comes, Whole, HasWritten, limit_behind, is_reached, behind_event, RunTells, GoesOn, IsBehind, GoesBehind}
use Rattle.ciao_top.proofs.Comings.{front_of_first, comes_as, comes_only}
use Rattle.ciao_top.proofs.LimitLaws.{text_step, status_step, text_end, status_end, text_reached, status_reached}

-- what an option has is one
pub same_some : {A : Type 0} (a b : A) (o : Option A) → o ≡ Some a → o ≡ Some b → a ≡ b
same_some a b o x y = cc

module _ (program : Program) (bound : ℕ) where
  -- what comes of what is left
  abbrev pub Comes_of : Left → List Event → ℕ → Ending → Type 0
  Comes_of = Continues (every_condition program) program bound

  -- the next event of a run of which this is left
  pub record IsNextAt (old : Option Left) (event : Event) (new : Option Left) : Type 0 where
    pub before : Left
    pub after : Left
    pub was : old ≡ Some before
    pub is : new ≡ Some after
    pub made : ℕ
    pub next : IsNext (every_condition program) program bound before event made after

  -- what has ended gives its ending
  ended_tells : (before after : Left) (made : ℕ) (e : Ending) → EndsBy (every_condition program) program bound before made e after → Comes_of before [] (made + 0) e
  ended_tells before after made e ends = ends.leads.forth [] 0 e (subst (λ l. Comes_of l [] 0 e) (sym ends.over) (refl, refl, refl))

  -- what has ended gives no event, and no other ending
  ended_only : (before after : Left) (made : ℕ) (e : Ending) → EndsBy (every_condition program) program bound before made e after → (events : List Event) (tests : ℕ) (e' : Ending) → Comes_of before events tests e' → (events ≡ []) × (e' ≡ e)
  ended_only before after made e ends events tests e' c =
      let y = ends.leads.back events tests e' c in
      let none = subst (λ l. Comes_of l y.0 y.1 e') ends.over y.4 in
      (y.2 ∙ none.0, none.2)

  -- where an answer may still be told
  module _ (limit : Option ℕ) (more : is_reached limit ≡ false) where
    -- an event and then what comes behind it
    tells_written : (o n : Option Left) (before after : Left) (event : Event) (made : ℕ) (old new : Output) → o ≡ Some before → n ≡ Some after
        → Leads (every_condition program) program bound before (event ∷ []) made after
        → new ≡ with_piece old (event_text program event) → HasWritten (RunTells program bound limit o) (RunTells program bound (limit_behind event limit) n) old new
    tells_written o n before after event made old new was is tells grew = record {
      piece = event_text program event;
      grew = grew;
      forth = λ t s x. record {
        now = before;
        is_now = was;
        events = event ∷ x.events;
        tests = made + x.tests;
        ending = x.ending;
        continues = tells.forth x.events x.tests x.ending (subst (λ p. Comes_of p x.events x.tests x.ending) (same_some x.now after n x.is_now is) x.continues);
        text_is = ap (λ y. event_text program event ++ y) x.text_is ∙ sym (text_step program limit event x.events x.ending more);
        status_is = x.status_is ∙ sym (status_step limit event x.events x.ending more);
      };
      back = λ t s x.
          let y = tells.back x.events x.tests x.ending (subst (λ p. Comes_of p x.events x.tests x.ending) (same_some x.now before o x.is_now was) x.continues) in (
            LimitedText program (limit_behind event limit) y.0 x.ending,
            x.text_is ∙ ap (λ es. LimitedText program limit es x.ending) y.2 ∙ text_step program limit event y.0 x.ending more,
            record {
              now = after;
              is_now = is;
              events = y.0;
              tests = y.1;
              ending = x.ending;
              continues = y.4;
              text_is = refl;
              status_is = x.status_is ∙ ap (λ es. limited_status limit es x.ending) y.2 ∙ status_step limit event y.0 x.ending more;
            },
          );
    }

    next_written : (o n : Option Left) (event : Event) (writing : Type 0) (old new : Output) → IsNextAt o event n
        → new ≡ with_piece old (event_text program event) → IsBehind program bound limit o n writing old new (behind_event event limit)
    next_written o n (Out text) writing old new next grew = tells_written o n next.before next.after (Out text) next.made old new next.was next.is next.next grew
    next_written o n (Answer query) writing old new next grew = tells_written o n next.before next.after (Answer query) next.made old new next.was next.is next.next grew
    next_written o n (Broken c) writing old new next grew = tells_written o n next.before next.after (Broken c) next.made old new next.was next.is next.next grew
    next_written o n (End e) writing old new next grew = Whole (ending_text program e) (record {
      now = next.before;
      is_now = next.was;
      events = [];
      tests = next.made + 0;
      ending = e;
      continues = ended_tells next.before next.after next.made e next.next;
      text_is = sym (text_end program limit e more);
      status_is = sym (status_end limit e more);
    }) grew

    -- the run goes on, or ends, after an event that was written
    pub comes_next : (o n : Option Left) (event : Event) (f : Following) (writing : Type 0) (old new : Output) → IsNextAt o event n → f ≡ behind_event event limit
        → new ≡ with_piece old (event_text program event) → IsBehind program bound limit o n writing old new f
    comes_next o n event f writing old new next is grew = subst (IsBehind program bound limit o n writing old new) (sym is) (next_written o n event writing old new next grew)

    tells_begun : (o : Option Left) (before after : Left) (event : Event) (made : ℕ) (old new : Output) → o ≡ Some before
        → Leads (every_condition program) program bound before (event ∷ []) made after
        → GrewByFront old new (event_text program event) → HasBegun (RunTells program bound limit o) old new
    tells_begun o before after event made old new was tells g = record {
      piece = take g.0 (event_text program event);
      begins = λ t s x.
          let y = tells.back x.events x.tests x.ending (subst (λ p. Comes_of p x.events x.tests x.ending) (same_some x.now before o x.is_now was) x.continues) in
          subst (λ z. IsPrefix (take g.0 (event_text program event)) z)
          (sym (x.text_is ∙ ap (λ es. LimitedText program limit es x.ending) y.2 ∙ text_step program limit event y.0 x.ending more))
          (front_of_first g.0 (event_text program event) (LimitedText program (limit_behind event limit) y.0 x.ending));
      grew = g.1;
    }

    -- a prefix of the next event was written
    pub event_begun : (o n : Option Left) (event : Event) (old new : Output) → IsNextAt o event n
        → GrewByFront old new (event_text program event) → HasBegun (RunTells program bound limit o) old new
    event_begun o n (Out text) old new next g = tells_begun o next.before next.after (Out text) next.made old new next.was next.next g
    event_begun o n (Answer query) old new next g = tells_begun o next.before next.after (Answer query) next.made old new next.was next.next g
    event_begun o n (Broken c) old new next g = tells_begun o next.before next.after (Broken c) next.made old new next.was next.next g
    event_begun o n (End e) old new next g = record {
      piece = take g.0 (ending_text program e);
      begins = λ t s x.
          let y = ended_only next.before next.after next.made e next.next x.events x.tests x.ending (subst (λ p. Comes_of p x.events x.tests x.ending) (same_some x.now next.before o x.is_now next.was) x.continues) in
          (g.0, ap (take g.0) (sym (x.text_is ∙ ap (λ es. LimitedText program limit es x.ending) y.0 ∙ ap (LimitedText program limit []) y.1 ∙ text_end program limit e more)));
      grew = g.1;
    }

  -- where no answer may be told any more, the line of the limit is all
  module _ (limit : Option ℕ) (over : is_reached limit ≡ true) where
    reached_tells : (left : Option Left) → IsSome left → RunTells program bound limit left limit_line 0
    reached_tells None some = absurd (true≢false (sym some))
    reached_tells (Some left) some =
        let all = all_left (every_condition program) program bound left in
        record {
          now = left;
          is_now = refl;
          events = all.0;
          tests = all.1;
          ending = all.2;
          continues = all.3;
          text_is = sym (text_reached program limit all.0 all.2 over);
          status_is = sym (status_reached limit all.0 all.2 over);
        }

    pub comes_reached : (left : Option Left) (writing : Type 0) (old new : Output) (result : ℕ) → IsSome left → Comes (Only limit_line 0) writing old new result → Comes (RunTells program bound limit left) writing old new result
    comes_reached left writing old new result some comes =
        comes_only (RunTells program bound limit left) limit_line 0 writing old new result (reached_tells left some) (λ t s x. x.text_is ∙ text_reached program limit x.events x.ending over) comes

  goes_past : (limit : Option ℕ) (o n : Option Left) (event : Event) → IsNextAt o event n → GoesBehind program bound o n (behind_event event limit)
  goes_past limit o n (Out text) next = record { before = next.before; after = next.after; event = Out text; was = next.was; is = next.is; made = next.made; tells = next.next }
  goes_past limit o n (Answer query) next = record { before = next.before; after = next.after; event = Answer query; was = next.was; is = next.is; made = next.made; tells = next.next }
  goes_past limit o n (Broken c) next = record { before = next.before; after = next.after; event = Broken c; was = next.was; is = next.is; made = next.made; tells = next.next }
  goes_past limit o n (End e) next = tt

  -- where the event is no ending the run goes on
  pub goes_next : (limit : Option ℕ) (o n : Option Left) (event : Event) (f : Following) → IsNextAt o event n → f ≡ behind_event event limit → GoesBehind program bound o n f
  goes_next limit o n event f next is = subst (GoesBehind program bound o n) (sym is) (goes_past limit o n event next)

  -- where it goes on something is left
  pub some_left : (o n : Option Left) → GoesOn program bound o n → IsSome n
  some_left o n goes = ap is_some goes.is

-- what a run that tests every condition told, of this program
pub told_at : (program : Program) (old new : RunState) (event : Event) → program_of old ≡ program → reading_of old ≡ All → HasTold old event new
    → IsNextAt program (bound_of old) (left_of old) event (left_of new)
told_at program old new event same all told =
    subst (λ p. IsNextAt p (bound_of old) (left_of old) event (left_of new)) same
    (record { before = told.before; after = told.after; was = told.was; is = told.is; made = told.made; next = subst (λ r. IsNext (tests_by (program_of old) r) (program_of old) (bound_of old) told.before event told.made told.after) all told.next })

-- the run of a query from its start
module _ (program : Program) (query : Term) (bound : ℕ) (limit : Option ℕ) (run : RunState) (starts : Starts program query bound All run) where
  to_answers : (text : Word) (status : ℕ) → RunTells program bound limit (left_of run) text status → RunAnswers program query bound limit text status
  to_answers text status x =
      let comes = subst (λ p. Comes_of program bound p x.events x.tests x.ending) (same_some x.now starts.whole (left_of run) x.is_now starts.is) x.continues in
      record { events = x.events; ending = x.ending; runs = (x.tests, starts.forth x.events x.tests x.ending comes); text_is = x.text_is; status_is = x.status_is }

  from_answers : (text : Word) (status : ℕ) → RunAnswers program query bound limit text status → RunTells program bound limit (left_of run) text status
  from_answers text status x = record {
    now = starts.whole;
    is_now = starts.is;
    events = x.events;
    tests = x.runs.0;
    ending = x.ending;
    continues = starts.back x.events x.runs.0 x.ending x.runs.1;
    text_is = x.text_is;
    status_is = x.status_is;
  }

  -- what the run tells from its start answers the query
  pub run_answers : (b : ℕ) (writing : Type 0) (old new : Output) (result : ℕ) → b ≡ bound
      → Comes (RunTells program b limit (left_of run)) writing old new result → Comes (RunAnswers program query bound limit) writing old new result
  run_answers b writing old new result same comes =
      comes_as (RunTells program bound limit (left_of run)) (RunAnswers program query bound limit) writing old new result to_answers from_answers
      (subst (λ n. Comes (RunTells program n limit (left_of run)) writing old new result) same comes)

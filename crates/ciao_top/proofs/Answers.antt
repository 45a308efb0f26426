-- Files and words have one answer, and are never without one.
use Rattle.std.proofs.Common.{◌≡◌, ℕ, List, refl, ◌∙◌, sym, ap, subst, Bool, true, false, Option, Some, None}
use Rattle.byte_io.specs.Outside.{Held}
use Rattle.term_core.specs.Names.{fixed_names}
use Rattle.term_core.specs.declared.terms.Term.{Term}
use Rattle.term_core.specs.declared.operators.Operators.{Operators}
use Rattle.prog_data.specs.declared.programs.Program.{Program}
use Rattle.prog_data.specs.declared.events.Event.{Event}
use Rattle.prog_data.specs.declared.events.Ending.{Ending}
use Rattle.prog_data.specs.Goals.{called_by}
use Rattle.prog_data.specs.Programs.{with_names}
use Rattle.machine_model.specs.Tests.{Tests, every_condition}
use Rattle.machine_model.specs.Run.{Run, RunsFrom, start_of}
use Rattle.machine_model.specs.Laws.{OneRun, Ends}
use Rattle.ciao_modules.specs.FileNames.{Word}
use Rattle.ciao_modules.specs.Loaded.{Loaded}
use Rattle.ciao_modules.specs.LoadLaws.{SomeLoad}
use Rattle.ciao_modules.specs.declared.units.Unit.{Unit}
use Rattle.program_link.specs.Linked as link
use Rattle.run_report.specs.Refusals.{refusal_text}
use Rattle.ciao_top.specs.WordsAccepted.{RunWords, AcceptedWords}
use Rattle.ciao_top.specs.declared.stops.Reason.{Reason}
use Rattle.ciao_top.specs.declared.stops.Reason.TheVariants as reason
use Rattle.ciao_top.specs.Lines.{reason_text, reason_status}
use Rattle.ciao_top.specs.Limits.{LimitedText, limited_status, RunAnswers}
use Rattle.ciao_top.specs.Queries.{main_operators, query_meets_entry}
use Rattle.ciao_top.specs.FileSets.{HasProgram, HasQuery}
use Rattle.ciao_top.specs.Refused.{FilesRefused, NotLoaded, NotLinked, CommandRefused, OfFiles, Unread, NotExported, NoEntry, Refuses, NoCommand, OfCommand}
use Rattle.ciao_top.specs.Relied.{Relied}
use Rattle.ciao_top.specs.Answers.{Defined, Refused, Runs, OneAnswer, SomeAnswer}
use Rattle.ciao_top.proofs.Refusals.{same_some, one_prepared, one_refusal, run_words_not_refused}

-- one answer

module _ (relied : Relied) (one_run : (what : Tests) (program : Program) (bound : ℕ) → OneRun what program bound) where
  runs_one : (program : Program) (query : Term) (bound : ℕ) (es es' : List Event) (e e' : Ending)
      → Run program query bound es e → Run program query bound es' e' → (es ≡ es') × (e ≡ e')
  runs_one program query bound es es' e e' a b =
      let moved : RunsFrom (every_condition program) program bound (start_of a.1.pred query) es' b.0 e' =
      subst (λ p. RunsFrom (every_condition program) program bound (start_of p query) es' b.0 e') (same_some b.1.pred a.1.pred (called_by program query) b.1.calls a.1.calls) b.1.runs in
      let same = one_run (every_condition program) program bound (start_of a.1.pred query) es es' a.0 b.0 e e' a.1.runs moved in
      (same.0, same.2)

  run_one : (program : Program) (query : Term) (bound : ℕ) (limit : Option ℕ) (t t' : Word) (s s' : ℕ) → RunAnswers program query bound limit t s → RunAnswers program query bound limit t' s' → (t ≡ t') × (s ≡ s')
  run_one program query bound limit t t' s s' a b =
      let same : (a.events ≡ b.events) × (a.ending ≡ b.ending) = runs_one program query bound a.events b.events a.ending b.ending a.runs b.runs in (
        a.text_is ∙ ap (λ es. LimitedText program limit es a.ending) same.0 ∙ ap (LimitedText program limit b.events) same.1 ∙ sym b.text_is,
        a.status_is ∙ ap (λ es. limited_status limit es a.ending) same.0 ∙ ap (limited_status limit b.events) same.1 ∙ sym b.status_is,
      )

  -- files and words have one answer
  pub one_answer : OneAnswer
  one_answer held words t t' s s' (Refused why a l r) (Refused why' a' l' r') =
      let same = one_refusal relied held words why why' a a' in
      (l ∙ ap reason_text same ∙ sym l', r ∙ ap reason_status same ∙ sym r')
  one_answer held words t t' s s' (Refused why a l r) (Runs c is p q has meets b) = absurd (run_words_not_refused relied held words c is why p q a has meets)
  one_answer held words t t' s s' (Runs c is p q has meets b) (Refused why a l r) = absurd (run_words_not_refused relied held words c is why p q a has meets)
  one_answer held words t t' s s' (Runs c is p q has meets b) (Runs c' is' p' q' has' meets' b') =
      let same = same_some c' c (AcceptedWords words) is' is in
      let one = one_prepared relied held c p' p q' q (subst (λ x. HasQuery held x p' q') same has') has in
      run_one p q c.steps c.answers t t' s s' b
      (subst (λ x. RunAnswers p x c.steps c.answers t' s') one.1 (subst (λ x. RunAnswers x q' c.steps c.answers t' s') one.0 (subst (λ (x : RunWords). RunAnswers p' q' x.steps x.answers t' s') same b')))

-- some answer

module _ (ends : (what : Tests) (program : Program) → Ends what program) (some_load : SomeLoad) (held : Held) (words : List Word) (never : (text : Word) (status : ℕ) → Defined held words text status → ⊥) where
  never_refused : (why : Reason) → Refuses held words why → ⊥
  never_refused why a = never (reason_text why) (reason_status why) (Refused why a refl refl)

  module _ (command : RunWords) (is : AcceptedWords words ≡ Some command) where
    refused_so : (why : Reason) → CommandRefused held command why → ⊥
    refused_so why a = never_refused why (OfCommand command is why a)

    files_refused : (line : Word) → FilesRefused held command line → ⊥
    files_refused line a = refused_so (reason.OfFiles line) (OfFiles line a)

    module _ (program : Program) (query : Term) (has : HasQuery held command program query) where
      entry_some : (p : ℕ) → called_by program query ≡ Some p → (met : Bool) → query_meets_entry program p query ≡ met → ⊥
      entry_some p calls false unmet = refused_so reason.QueryNoEntry (NoEntry program query has p calls unmet)
      entry_some p calls true meets =
          let found = ends (every_condition program) program command.steps (start_of p query) in
          never (LimitedText program command.answers found.0 found.2) (limited_status command.answers found.0 found.2)
          (Runs command is program query has (record { pred = p; calls = calls; meets = meets })
          (record { events = found.0; ending = found.2; runs = (found.1, record { pred = p; calls = calls; runs = found.3 }); text_is = refl; status_is = refl }))

      query_some : (called : Option ℕ) → called_by program query ≡ called → ⊥
      query_some None none = refused_so reason.QueryNotExported (NotExported program query has none)
      query_some (Some p) calls = entry_some p calls (query_meets_entry program p query) refl

    program_some : (program : Program) (ops : Operators) → HasProgram held command program ops → ⊥
    program_some program ops has =
        refused_so reason.QueryUnread (Unread program ops has (λ names query read.
        query_some (with_names names program) query (record { before = program; ops = ops; has = has; names = names; read = read; program_is = refl }) (called_by (with_names names program) query) refl))

    link_some : (names : List Word) (units : List Unit) → Loaded held command.file fixed_names names units → (l : link.Link) → link.linked names units ≡ l → ⊥
    link_some names units loaded (link.Linked program) e = program_some program (main_operators units) (record { names = names; units = units; loaded = loaded; linked_is = e; ops_are = refl })
    link_some names units loaded (link.Refused refusal) e = files_refused (refusal_text names refusal) (NotLinked names units refusal loaded e refl)

    files_some : ⊥
    files_some =
        some_load held command.file fixed_names
        (λ names units loaded. link_some names units loaded (link.linked names units) refl)
        (λ names refusal refused. files_refused (refusal_text names refusal) (NotLoaded names refusal refused refl))

  words_some : (command : Option RunWords) → AcceptedWords words ≡ command → ⊥
  words_some None none = never_refused reason.NoCommand (NoCommand none)
  words_some (Some command) is = files_some command is

-- files and words are never without an answer
pub some_answer : ((what : Tests) (program : Program) → Ends what program) → SomeLoad → SomeAnswer
some_answer ends some_load held words never = words_some ends some_load held words never (AcceptedWords words) refl

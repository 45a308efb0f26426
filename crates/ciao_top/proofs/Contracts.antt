-- The contract of the tool, from those of its parts.
use Rattle.std.proofs.Common.{◌≡◌, ◌⊎◌, inl, inr, ℕ, ◌<◌, ◌≤◌, zero, suc, List, [], map, take, refl, ◌∙◌, sym, ap, subst, Option, Some, None, IfSome, arith}
use Rattle.std.specs.Prelude.{bytes_eq}
use Rattle.std.specs.List.{IsDistinct}
use Rattle.std.proofs.lemmas.Option.{none-some}
use Rattle.byte_io.specs.Outside.{Held, FileRead}
use Rattle.term_core.specs.declared.terms.Term.{Term}
use Rattle.prog_data.specs.declared.programs.Program.{Program}
use Rattle.ciao_modules.specs.FileNames.{Word}
use Rattle.ciao_modules.specs.LoadReads.{Agree, new_reads}
use Rattle.ciao_top.specs.WordsAccepted.{RunWords, AcceptedWords}
use Rattle.ciao_top.specs.declared.stops.Reason.{Reason}
use Rattle.ciao_top.specs.declared.stops.Reason.TheVariants as reason
use Rattle.ciao_top.specs.declared.stops.Stop.{Stop}
use Rattle.ciao_top.specs.declared.stops.Stop.TheVariants as stop
use Rattle.ciao_top.specs.FileSets.{HasQuery}
use Rattle.ciao_top.specs.Queries.{MeetsEntry}
use Rattle.ciao_top.specs.Refused.{Refuses, NoCommand, OfCommand}
use Rattle.ciao_top.specs.Limits.{RunAnswers}
use Rattle.ciao_top.specs.Lines.{reason_text, reason_status, read_fault, stop_text, stop_status}
use Rattle.ciao_top.specs.Relied.{Relied}
use Rattle.ciao_top.specs.Answers.{Defined, Refused, Runs, Output, with_piece, ReadsOnly, Nothing, OfLoad, IsUnread, IsPrefix, Answered, Complete}
use Rattle.ciao_top.specs.InnerAnswers.{Only, HasBegun, Comes, Whole, SinkFailed, MemoryWanted, Stops, CommandReads}
use Rattle.ciao_top.proofs.FileLaws.{none_new, none_distinct, all_held}
use Rattle.ciao_top.proofs.Refusals.{same_some, one_prepared, one_refusal, none_accepted, run_words_not_refused}
use Rattle.ciao_top.proofs.Statuses.{apart, above, reason_small, reason_two, of_limited, small_or_fault}

-- the reads of a call, and files that agree with them
pub record AreReads (held : Option Held) (words : List Word) (reads : List FileRead) : Type 0 where
  pub only : ReadsOnly words reads
  pub once : IsDistinct bytes_eq (map (λ read. read.name) reads)
  pub files : Held
  pub agree : Agree reads files
  pub told_agree : IfSome held (Agree reads)

-- nothing has no front but nothing
take_nil : (n : ℕ) → ◌≡◌ {A = Word} (take n []) []
take_nil zero = refl
take_nil (suc n) = refl

-- a definition has the texts and statuses of the files that agree with the reads
pub record IsDefinition (words : List Word) (reads : List FileRead) (D : Word → ℕ → Type 0) : Type 0 where
  pub to : (files : Held) → Agree reads files → (text : Word) (status : ℕ) → D text status → Defined files words text status
  pub from : (files : Held) → Agree reads files → (text : Word) (status : ℕ) → Defined files words text status → D text status

-- the statuses of a definition are small, and 2 where the words are not accepted
pub record HasStatuses (words : List Word) (D : Word → ℕ → Type 0) : Type 0 where
  pub small : (text : Word) (status : ℕ) → D text status → status < 7
  pub refused : (text : Word) (status : ℕ) → D text status → status ≡ 2 → AcceptedWords words ≡ None
  pub not_accepted : (text : Word) (status : ℕ) → D text status → AcceptedWords words ≡ None → status ≡ 2

module _ (relied : Relied) (held : Option Held) (words : List Word) (reads : List FileRead) (are : AreReads held words reads) (reading writing : Type 0) (old new : Output) (result : ℕ) where
  -- a defined answer meets the contract
  answered : (D : Word → ℕ → Type 0) → HasStatuses words D → IsDefinition words reads D → Comes D writing old new result → Answered held words reads reading writing old new result
  answered D h same (Whole text d grew) =
      let small = h.small text result d in
      record {
        statuses = omega (small, arith);
        refused = h.refused text result d;
        not_accepted = λ none. inl (h.not_accepted text result d none);
        reads_only = are.only;
        once = are.once;
        files = are.files;
        agree = are.agree;
        told_agree = are.told_agree;
        read = λ e. absurd (apart result 7 small e);
        write = λ e. absurd (apart result 8 (omega (small, arith)) e);
        defined = λ _. (text, (λ files agree. same.to files agree text result d), grew);
        unread = λ e. absurd (apart result 7 small e);
        front = λ le. absurd (above result 8 (omega (small, arith)) le);
      }
  answered D h same (SinkFailed is rose b) = record {
    statuses = omega (is, arith);
    refused = λ e. absurd (apart 2 8 (omega arith) (sym e ∙ is));
    not_accepted = λ _. inr (omega (is, arith));
    reads_only = are.only;
    once = are.once;
    files = are.files;
    agree = are.agree;
    told_agree = are.told_agree;
    read = λ e. absurd (apart 7 8 (omega arith) (sym e ∙ is));
    write = λ _. rose;
    defined = λ lt. absurd (above result 7 lt (omega (is, arith)));
    unread = λ e. absurd (apart 7 8 (omega arith) (sym e ∙ is));
    front = λ _. (b.piece, (λ files agree. inl (λ t s d. b.begins t s (same.from files agree t s d))), b.grew);
  }
  answered D h same (MemoryWanted is b) = record {
    statuses = omega (is, arith);
    refused = λ e. absurd (apart 2 9 (omega arith) (sym e ∙ is));
    not_accepted = λ _. inr (omega (is, arith));
    reads_only = are.only;
    once = are.once;
    files = are.files;
    agree = are.agree;
    told_agree = are.told_agree;
    read = λ e. absurd (apart 7 9 (omega arith) (sym e ∙ is));
    write = λ e. absurd (apart 8 9 (omega arith) (sym e ∙ is));
    defined = λ lt. absurd (above result 7 lt (omega (is, arith)));
    unread = λ e. absurd (apart 7 9 (omega arith) (sym e ∙ is));
    front = λ _. (b.piece, (λ files agree. inl (λ t s d. b.begins t s (same.from files agree t s d))), b.grew);
  }

  -- words that are refused

  from_refused : (files : Held) (why : Reason) → Refuses files words why → (text : Word) (status : ℕ) → Defined files words text status → Only (reason_text why) (reason_status why) text status
  from_refused files why refused text status (Refused other refused' l r) =
      let same = one_refusal relied files words other why refused' refused in (l ∙ ap reason_text same, r ∙ ap reason_status same)
  from_refused files why refused text status (Runs command is p q has meets a) = absurd (run_words_not_refused relied files words command is why p q refused has meets)

  pub refused_answers : (why : Reason) → ((files : Held) → Agree reads files → Refuses files words why) → Comes (Only (reason_text why) (reason_status why)) writing old new result
      → Answered held words reads reading writing old new result
  refused_answers why refused comes =
      let here = refused are.files are.agree in
      answered (Only (reason_text why) (reason_status why))
      (record {
        small = λ t s d. subst (λ n. n < 7) (sym d.1) (reason_small why);
        refused = λ t s d two. none_accepted relied are.files words why here (reason_two why (sym d.1 ∙ two));
        not_accepted = λ t s d none. d.1 ∙ ap reason_status (one_refusal relied are.files words why reason.NoCommand here (NoCommand none));
      })
      (record { to = λ files agree t s d. Refused why (refused files agree) d.0 d.1; from = λ files agree t s d. from_refused files why (refused files agree) t s d }) comes

  module _ (command : RunWords) (is : AcceptedWords words ≡ Some command) where
    -- words that run

    from_run : (files : Held) (p : Program) (q : Term) → HasQuery files command p q → MeetsEntry p q → (text : Word) (status : ℕ) → Defined files words text status → RunAnswers p q command.steps command.answers text status
    from_run files p q has meets text status (Refused why refused l r) = absurd (run_words_not_refused relied files words command is why p q refused has meets)
    from_run files p q has meets text status (Runs command' is' p' q' has' meets' a) =
        let same = same_some command' command (AcceptedWords words) is' is in
        let one = one_prepared relied files command p' p q' q (subst (λ c. HasQuery files c p' q') same has') has in
        subst (λ x. RunAnswers p x command.steps command.answers text status) one.1
        (subst (λ x. RunAnswers x q' command.steps command.answers text status) one.0 (subst (λ (c : RunWords). RunAnswers p' q' c.steps c.answers text status) same a))

    pub run_answers : (p : Program) (q : Term) → ((files : Held) → Agree reads files → HasQuery files command p q) → MeetsEntry p q → Comes (RunAnswers p q command.steps command.answers) writing old new result
        → Answered held words reads reading writing old new result
    run_answers p q has meets comes =
        answered (RunAnswers p q command.steps command.answers)
        (record {
          small = λ t s d. (of_limited command.answers d.events d.ending s d.status_is).small;
          refused = λ t s d two. absurd ((of_limited command.answers d.events d.ending s d.status_is).not_two two);
          not_accepted = λ t s d none. absurd (none-some command (sym none ∙ is));
        })
        (record { to = λ files agree t s d. Runs command is p q (has files agree) meets d; from = λ files agree t s d. from_run files p q (has files agree) meets t s d }) comes

    -- a file that could not be read
    unreadable : (name : Word) → IsUnread words reads name → reading → Comes (Only (read_fault name) 7) writing old new result → Answered held words reads reading writing old new result
    unreadable name told rose (Whole text d grew) = record {
      statuses = omega (d.1, arith);
      refused = λ two. absurd (apart 2 7 (omega arith) (sym two ∙ d.1));
      not_accepted = λ none. absurd (none-some command (sym none ∙ is));
      reads_only = are.only;
      once = are.once;
      files = are.files;
      agree = are.agree;
      told_agree = are.told_agree;
      read = λ _. rose;
      write = λ eight. absurd (apart 7 8 (omega arith) (sym d.1 ∙ eight));
      defined = λ lt. absurd (apart result 7 lt d.1);
      unread = λ _. (name, told, grew ∙ ap (with_piece old) d.0);
      front = λ le. absurd (above 7 8 (omega arith) (omega (le, d.1, arith)));
    }
    unreadable name told rose (SinkFailed e wrote b) = record {
      statuses = omega (e, arith);
      refused = λ two. absurd (apart 2 8 (omega arith) (sym two ∙ e));
      not_accepted = λ _. inr (omega (e, arith));
      reads_only = are.only;
      once = are.once;
      files = are.files;
      agree = are.agree;
      told_agree = are.told_agree;
      read = λ _. rose;
      write = λ _. wrote;
      defined = λ lt. absurd (above result 7 lt (omega (e, arith)));
      unread = λ seven. absurd (apart 7 8 (omega arith) (sym seven ∙ e));
      front = λ _. (b.piece, (λ files agree. inr (rose, (name, told, b.begins (read_fault name) 7 (refl, refl)))), b.grew);
    }
    unreadable name told rose (MemoryWanted e b) = record {
      statuses = omega (e, arith);
      refused = λ two. absurd (apart 2 9 (omega arith) (sym two ∙ e));
      not_accepted = λ _. inr (omega (e, arith));
      reads_only = are.only;
      once = are.once;
      files = are.files;
      agree = are.agree;
      told_agree = are.told_agree;
      read = λ _. rose;
      write = λ eight. absurd (apart 8 9 (omega arith) (sym eight ∙ e));
      defined = λ lt. absurd (above result 7 lt (omega (e, arith)));
      unread = λ seven. absurd (apart 7 9 (omega arith) (sym seven ∙ e));
      front = λ _. (b.piece, (λ files agree. inr (rose, (name, told, b.begins (read_fault name) 7 (refl, refl)))), b.grew);
    }

    -- memory was wanted before anything was written, or a fault of the sink came then
    nothing : (status : ℕ) → 8 ≤ status → status ≤ 9 → (status ≡ 8 → writing) → result ≡ status → HasBegun (Only [] 9) old new → Answered held words reads reading writing old new result
    nothing status le most rose e b = record {
      statuses = omega (e, most, arith);
      refused = λ two. absurd (above 2 8 (omega arith) (omega (two, e, le, arith)));
      not_accepted = λ _. inr (omega (e, le, arith));
      reads_only = are.only;
      once = are.once;
      files = are.files;
      agree = are.agree;
      told_agree = are.told_agree;
      read = λ seven. absurd (above 7 8 (omega arith) (omega (seven, e, le, arith)));
      write = λ eight. rose (sym e ∙ eight);
      defined = λ lt. absurd (above result 7 lt (omega (e, le, arith)));
      unread = λ seven. absurd (above 7 8 (omega arith) (omega (seven, e, le, arith)));
      front = λ _. (b.piece, (λ files agree. inl (λ t s d. (0, is_empty b.piece (b.begins [] 9 (refl, refl))))), b.grew);
    }
      where
        is_empty : (piece : Word) → IsPrefix piece [] → piece ≡ []
        is_empty piece p = p.1 ∙ take_nil p.0

    no_memory : Comes (Only [] 9) writing old new result → Answered held words reads reading writing old new result
    no_memory (Whole text d grew) = nothing 9 (omega arith) (omega arith) (λ e. absurd (apart 8 9 (omega arith) (sym e))) d.1 (record { piece = text; begins = λ t s d'. (0, d.0); grew = grew })
    no_memory (SinkFailed e rose b) = nothing 8 (omega arith) (omega arith) (λ _. rose) e b
    no_memory (MemoryWanted e b) = nothing 9 (omega arith) (omega arith) (λ e. absurd (apart 8 9 (omega arith) (sym e))) e b

    -- a command that is not run
    pub stopped : (stop : Stop) → Stops command reads reading stop → Comes (Only (stop_text stop) (stop_status stop)) writing old new result → Answered held words reads reading writing old new result
    stopped (stop.Refused why) s comes = refused_answers why (λ files agree. OfCommand command is why (s files agree)) comes
    stopped (stop.Unreadable name) s comes = unreadable name (record { command = command; accepted = is; last = s.1; reached = s.2 }) s.0 comes
    stopped stop.NoMemory s comes = no_memory comes

-- the reads of a call

-- none
pub no_command_reads : (held : Option Held) (words : List Word) (old : List FileRead) → AcceptedWords words ≡ None → AreReads held words (new_reads old old)
no_command_reads held words old none =
    let nil = none_new old in
    record {
      only = Nothing none nil;
      once = subst (λ reads. IsDistinct bytes_eq (map (λ (r : FileRead). r.name) reads)) (sym nil) none_distinct;
      files = λ name. None;
      agree = subst (λ reads. Agree reads (λ name. None)) (sym nil) tt;
      told_agree = all_held held (λ files. subst (λ reads. Agree reads files) (sym nil) tt);
    }

-- those of a command
pub command_reads : (held : Option Held) (words : List Word) (command : RunWords) (old new : List FileRead) → AcceptedWords words ≡ Some command → CommandReads held command old new → AreReads held words (new_reads old new)
command_reads held words command old new is r = record {
  only = OfLoad command is r.order;
  once = r.once;
  files = r.files;
  agree = r.agree;
  told_agree = r.told_agree;
}

-- without a rise of a count the answer is defined, or memory was wanted
pub complete : (held : Option Held) (words : List Word) (reads : List FileRead) (reading writing : Type 0) (old new : Output) (status : ℕ)
    → Answered held words reads reading writing old new status → Complete words reads reading writing old new status
complete held words reads reading writing old new status a no_read no_write = by_status (small_or_fault status a.statuses)
  where
    by_status : (status < 7) ⊎ ((status ≡ 7) ⊎ ((status ≡ 8) ⊎ (status ≡ 9))) → (status ≡ 9) ⊎ ((text : Word) × ((files : Held) → Agree reads files → Defined files words text status) × (new ≡ with_piece old text))
    by_status (inl lt) = inr (a.defined lt)
    by_status (inr (inl e)) = absurd (no_read (a.read e))
    by_status (inr (inr (inl e))) = absurd (no_write (a.write e))
    by_status (inr (inr (inr e))) = inl e

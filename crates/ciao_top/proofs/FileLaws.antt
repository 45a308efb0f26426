-- What a command's load and link say of all files that agree with the reads.
use Rattle.std.proofs.Common.{◌≡◌, inl, inr, ℕ, List, [], ◌∷◌, ◌++◌, map, drop, length, refl, ◌∙◌, sym, ap, subst, Option, Some, None, append-nil, arith, true}
use Rattle.std.specs.Prelude.{Result, Ok, Err, IfOk, IfErr, IfSome, bytes_eq}
use Rattle.std.specs.List.{IsDistinct}
use Rattle.std.proofs.Math.Seq.{drop-append_seam}
use Rattle.byte_io.specs.Outside.{Held, FileRead}
use Rattle.term_core.specs.Names.{fixed_names}
use Rattle.term_core.specs.Lists.{IsPrefix}
use Rattle.term_core.specs.Ranges.{has_names}
use Rattle.term_core.specs.Standard.{standard}
use Rattle.term_core.specs.declared.operators.Operators.{Operators}
use Rattle.term_core.specs.declared.terms.Term.{Term}
use Rattle.prog_data.specs.declared.programs.Program.{Program}
use Rattle.prog_data.specs.declared.refusals.Refusal.{Refusal}
use Rattle.prog_data.specs.Programs as programs
use Rattle.prog_data.specs.RangeLaws.{RangesAreKept}
use Rattle.ciao_modules.specs.FileNames.{Word, folder_of}
use Rattle.ciao_modules.specs.Loaded.{Loaded, start, none}
use Rattle.ciao_modules.specs.LoadReads.{Agree, new_reads, AreLoadReads, ReadsTell, IsLoadFault, IsLastFailed}
use Rattle.ciao_modules.specs.declared.units.Unit.{Unit}
use Rattle.ciao_modules.specs.declared.units.LoadFault.{LoadFault}
use Rattle.ciao_modules.specs.declared.units.LoadFault.TheVariants as load
use Rattle.program_link.specs.Linked as link
use Rattle.ciao_top.specs.WordsAccepted.{RunWords}
use Rattle.ciao_top.specs.declared.prepare.Prepared.{Prepared}
use Rattle.ciao_top.specs.declared.stops.Reason.{Reason}
use Rattle.ciao_top.specs.declared.stops.Reason.TheVariants as reason
use Rattle.ciao_top.specs.declared.stops.Stop.{Stop}
use Rattle.ciao_top.specs.declared.stops.Stop.TheVariants as stop
use Rattle.ciao_top.specs.FileSets.{HasProgram, HasQuery}
use Rattle.ciao_top.specs.Queries.{main_operators}
use Rattle.ciao_top.specs.Refused.{FilesRefused, NotLoaded, NotLinked, CommandRefused, OfFiles, Unread, NotExported, NoEntry}
use Rattle.ciao_top.specs.InnerAnswers.{RefusalStops, FailedStops, LoadStops, LinkStops, HasQueryOf, CallFaults, QueryFaults, QueryStops, HasQueryIn, UnitStops, Stops, IsPrepared, CommandReads}

-- the reads

-- none
pub none_new : (old : List FileRead) → new_reads old old ≡ []
none_new old = ap (drop (length old)) (sym (append-nil old)) ∙ drop-append_seam old []

pub none_follow : (old : List FileRead) → old ≡ old ++ new_reads old old
none_follow old = sym (append-nil old) ∙ ap (λ reads. old ++ reads) (sym (none_new old))

pub all_held : {Q : Held → Type 0} (o : Option Held) → ((f : Held) → Q f) → IfSome o Q
all_held None go = tt
all_held (Some f) go = go f

-- a load that has not begun reads nothing
not_begun : (files : Held) (file : Word) → AreLoadReads files file fixed_names (Err load.NoMemory) []
not_begun files file = record {
  reached = start fixed_names file;
  units = [];
  loads = none refl;
  count = 0;
  at_least = omega arith;
  at_most = omega arith;
  ends = tt;
  are = record { paths = refl; most = tt };
}

pub none_distinct : IsDistinct bytes_eq []
unfolding IsDistinct
none_distinct = tt

pub no_reads : (held : Option Held) (command : RunWords) (old : List FileRead) → CommandReads held command old old
no_reads held command old =
    let nil = none_new old in
    record {
      follow = none_follow old;
      order = λ files agree. (Err load.NoMemory, subst (AreLoadReads files command.file fixed_names (Err load.NoMemory)) (sym nil) (not_begun files command.file));
      once = subst (λ reads. IsDistinct bytes_eq (map (λ (r : FileRead). r.name) reads)) (sym nil) none_distinct;
      files = λ name. None;
      agree = subst (λ reads. Agree reads (λ name. None)) (sym nil) tt;
      told_agree = all_held held (λ files. subst (λ reads. Agree reads files) (sym nil) tt);
    }

-- those of a load
pub load_reads : (held : Option Held) (command : RunWords) (names : List Word) (result : Result (List Unit) LoadFault) (old new : List FileRead) → names ≡ fixed_names → new ≡ old ++ new_reads old new
    → ((files : Held) → Agree (new_reads old new) files → AreLoadReads files command.file names result (new_reads old new)) → ReadsTell held (new_reads old new) → CommandReads held command old new
load_reads held command names result old new same follow order tell = record {
  follow = follow;
  order = λ files agree. (result, subst (λ ns. AreLoadReads files command.file ns result (new_reads old new)) same (order files agree));
  once = tell.once;
  files = tell.files;
  agree = tell.agree;
  told_agree = tell.told_agree;
}

module _ (command : RunWords) (reads : List FileRead) (reading : Type 0) where
  -- files that are not loaded

  refusal_stops : (names : List Word) (refusal : Refusal) (s : Stop) → ((files : Held) → Agree reads files → (line : Word) → RefusalStops names refusal (stop.Refused (reason.OfFiles line)) → FilesRefused files command line)
      → RefusalStops names refusal s → Stops command reads reading s
  refusal_stops names refusal (stop.Refused (reason.OfFiles line)) refused a = λ files agree. OfFiles line (refused files agree line a)
  refusal_stops names refusal (stop.Refused reason.NoCommand) refused a = absurd a
  refusal_stops names refusal (stop.Refused reason.QueryUnread) refused a = absurd a
  refusal_stops names refusal (stop.Refused reason.QueryNotExported) refused a = absurd a
  refusal_stops names refusal (stop.Refused reason.QueryNoEntry) refused a = absurd a
  refusal_stops names refusal (stop.Unreadable name) refused a = absurd a
  refusal_stops names refusal stop.NoMemory refused a = tt

  failed_stops : (after : List Word) (file : ℕ) (s : Stop) → IsLoadFault reads command.file fixed_names after reading (load.Failed file) → FailedStops after file s → Stops command reads reading s
  failed_stops after file (stop.Unreadable name) a b = (
    a.0,
    subst (λ n. IsLastFailed (folder_of command.file ++ n) reads) (sym b) a.1,
    λ files agree. record { names = after; file = file; reached = a.2 files agree; name_is = b },
  )
  failed_stops after file (stop.Refused why) a b = absurd b
  failed_stops after file stop.NoMemory a b = tt

  pub load_stops : (names after : List Word) (fault : LoadFault) (s : Stop) → names ≡ fixed_names → IsLoadFault reads command.file names after reading fault → LoadStops after fault s → Stops command reads reading s
  load_stops names after fault s same a b = by fault (subst (λ ns. IsLoadFault reads command.file ns after reading fault) same a) b
    where
      by : (f : LoadFault) → IsLoadFault reads command.file fixed_names after reading f → LoadStops after f s → Stops command reads reading s
      by (load.Refused refusal) a b = refusal_stops after refusal s (λ files agree line told. NotLoaded after refusal (a files agree) told) b
      by (load.Failed file) a b = failed_stops after file s a b
      by load.NoMemory a b = subst (Stops command reads reading) (sym b) tt

  -- units that were loaded
  module _ (names : List Word) (units : List Unit) (loaded : (files : Held) → Agree reads files → Loaded files command.file fixed_names names units) where
    link_stops : (s : Stop) → LinkStops names units s → Stops command reads reading s
    link_stops (stop.Refused (reason.OfFiles line)) a = λ files agree. OfFiles line (NotLinked names units a.0 (loaded files agree) a.1 a.2)
    link_stops (stop.Refused reason.NoCommand) a = absurd a
    link_stops (stop.Refused reason.QueryUnread) a = absurd a
    link_stops (stop.Refused reason.QueryNotExported) a = absurd a
    link_stops (stop.Refused reason.QueryNoEntry) a = absurd a
    link_stops (stop.Unreadable name) a = absurd a
    link_stops stop.NoMemory a = tt

    module _ (before : Program) (is : link.linked names units ≡ link.Linked before) where
      has_program : (files : Held) → Agree reads files → HasProgram files command before (main_operators units)
      has_program files agree = record { names = names; units = units; loaded = loaded files agree; linked_is = is; ops_are = refl }

      has_query : (files : Held) → Agree reads files → (program : Program) (query : Term) → HasQueryOf before (main_operators units) command.query program query → HasQuery files command program query
      has_query files agree program query q = record { before = before; ops = main_operators units; has = has_program files agree; names = q.names; read = q.read; program_is = q.program_is }

      query_faults : (why : Reason) → QueryFaults before (main_operators units) command.query why → (files : Held) → Agree reads files → CommandRefused files command why
      query_faults reason.QueryUnread a files agree = Unread before (main_operators units) (has_program files agree) a
      query_faults reason.QueryNotExported a files agree = NotExported a.0 a.1 (has_query files agree a.0 a.1 a.2) a.3
      query_faults reason.QueryNoEntry a files agree = NoEntry a.0 a.1 (has_query files agree a.0 a.1 a.2) a.3.0 a.3.1 a.3.2
      query_faults reason.NoCommand a files agree = absurd a.3
      query_faults (reason.OfFiles line) a files agree = absurd a.3

      query_stops : (s : Stop) → QueryStops before (main_operators units) command.query s → Stops command reads reading s
      query_stops (stop.Refused why) a = query_faults why a
      query_stops (stop.Unreadable name) a = absurd a
      query_stops stop.NoMemory a = tt

    unit_stops : (s : Stop) → UnitStops names units command.query s → Stops command reads reading s
    unit_stops s (inl a) = link_stops s a
    unit_stops s (inr a) = query_stops a.0 a.1 s a.2

    -- what the call answers
    pub units_err : (answer : Result Prepared Stop) → IfErr answer (UnitStops names units command.query) → IfErr answer (Stops command reads reading)
    units_err (Ok prepared) a = tt
    units_err (Err s) a = unit_stops s a

    pub units_ok : (answer : Result Prepared Stop) → IfOk answer (λ p. HasQueryIn names units command.query p.program p.query) → IfOk answer (λ p. (files : Held) → Agree reads files → HasQuery files command p.program p.query)
    units_ok (Ok prepared) a = λ files agree. has_query a.before a.linked_is files agree prepared.program prepared.query a.of
    units_ok (Err s) a = tt

-- the units of a load, by the names that it began with
pub loaded_from : (command : RunWords) (reads : List FileRead) (names before : List Word) (units seen : List Unit) → before ≡ fixed_names → seen ≡ units → ((files : Held) → Agree reads files → Loaded files command.file before names units)
    → (files : Held) → Agree reads files → Loaded files command.file fixed_names names seen
loaded_from command reads names before units seen same e loaded files agree =
    subst (Loaded files command.file fixed_names names) (sym e) (subst (λ ns. Loaded files command.file ns names units) same (loaded files agree))

-- a query that is read and is not to be run
pub fault_of : (before : Program) (ops : Operators) (text : Word) (program : Program) (query : Term) (why : Reason) → HasQueryOf before ops text program query → CallFaults program query why → QueryFaults before ops text why
fault_of before ops text program query reason.NoCommand has a = absurd a
fault_of before ops text program query (reason.OfFiles line) has a = absurd a
fault_of before ops text program query reason.QueryUnread has a = absurd a
fault_of before ops text program query reason.QueryNotExported has a = (program, query, has, a)
fault_of before ops text program query reason.QueryNoEntry has a = (program, query, has, a)

-- the program with the names of a query is in range and as the linker makes it
pub prepared_in_range : RangesAreKept → (program : Program) (names : List Word) (query : Term) → IsPrefix program.names names → programs.IsProgram program → programs.IsLinked program → has_names (length names) query ≡ true
    → IsPrepared (programs.with_names names program) query
prepared_in_range kept program names query first range linked named = record {
  range = kept.more_names program names first range;
  linked = record { no_checks = linked.no_checks; no_exit = linked.no_exit };
  named = named;
}

-- by the same operators
pub stops_by : (program : Program) (ops others : Operators) (text : Word) (answer : Result Prepared Stop) → others ≡ ops → IfErr answer (QueryStops program ops text) → IfErr answer (QueryStops program others text)
stops_by program ops others text answer same a = subst (λ o. IfErr answer (QueryStops program o text)) (sym same) a

-- the query of the program of units
module _ (names : List Word) (units : List Unit) (text : Word) (before : Program) (is : link.linked names units ≡ link.Linked before) where
  pub in_ok : (answer : Result Prepared Stop) → IfOk answer (λ p. HasQueryOf before (main_operators units) text p.program p.query) → IfOk answer (λ p. HasQueryIn names units text p.program p.query)
  in_ok (Ok prepared) a = record { before = before; linked_is = is; of = a }
  in_ok (Err s) a = tt

  pub in_err : (answer : Result Prepared Stop) → IfErr answer (QueryStops before (main_operators units) text) → IfErr answer (UnitStops names units text)
  in_err (Ok prepared) a = tt
  in_err (Err s) a = inr (before, is, a)

-- no units have the standard operators
pub no_units : (units : List Unit) → length units ≡ 0 → main_operators units ≡ standard
no_units [] empty = refl
no_units (u ∷ units) empty = absurd (omega (empty, arith))

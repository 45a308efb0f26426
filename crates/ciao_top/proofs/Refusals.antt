-- A command over files is refused in one way, or has one program and one query that meets an entry; never both.
use Rattle.std.proofs.Common.{◌≡◌, ℕ, List, ◌++◌, ◌∷◌, refl, ◌∙◌, sym, ap, subst, Option, Some, None, true, false, true≢false}
use Rattle.std.specs.Prelude.{decimal}
use Rattle.std.specs.Str.{byte}
use Rattle.std.proofs.lemmas.Option.{none-some}
use Rattle.byte_io.specs.Outside.{Held}
use Rattle.term_core.specs.Names.{fixed_names, name_text}
use Rattle.term_core.specs.declared.terms.Term.{Term}
use Rattle.term_core.specs.declared.operators.Operators.{Operators}
use Rattle.term_core.specs.Standard.{IsMade}
use Rattle.prog_data.specs.declared.programs.Program.{Program}
use Rattle.prog_data.specs.declared.refusals.Refusal.{Refusal}
use Rattle.prog_data.specs.Refusals.{kind_word}
use Rattle.prog_data.specs.Goals.{called_by}
use Rattle.prog_data.specs.Programs.{with_names}
use Rattle.ciao_modules.specs.FileNames.{Word}
use Rattle.ciao_modules.specs.declared.units.Unit.{Unit}
use Rattle.program_link.specs.Linked as link
use Rattle.run_report.specs.Refusals.{fault_line, refusal_text}
use Rattle.ciao_top.specs.WordsAccepted.{RunWords, AcceptedWords}
use Rattle.ciao_top.specs.declared.stops.Reason.{Reason}
use Rattle.ciao_top.specs.declared.stops.Reason.TheVariants as reason
use Rattle.ciao_top.specs.FileSets.{HasProgram, HasQuery}
use Rattle.ciao_top.specs.Relied.{Relied}
use Rattle.ciao_top.specs.Queries.{main_operators, IsQuery, query_meets_entry, MeetsEntry}
use Rattle.ciao_top.specs.Refused.{FilesRefused, NotLoaded, NotLinked, CommandRefused, OfFiles, Unread, NotExported, NoEntry, Refuses, NoCommand, OfCommand}
use Rattle.ciao_top.proofs.QueryLaws.{operators_made, one_query}

-- what an option has is one
pub same_some : {A : Type 0} (a b : A) (o : Option A) → o ≡ Some a → o ≡ Some b → a ≡ b
same_some a b o x y = cc

-- links

linked_one : (p q : Program) (l : link.Link) → l ≡ link.Linked p → l ≡ link.Linked q → p ≡ q
linked_one p q l a b = cc

refused_one : (r s : Refusal) (l : link.Link) → l ≡ link.Refused r → l ≡ link.Refused s → r ≡ s
refused_one r s l a b = cc

not_both : (p : Program) (r : Refusal) (l : link.Link) → l ≡ link.Linked p → l ≡ link.Refused r → ⊥
not_both p r l a b = let no : ⊥ = cc in no

-- the line of a refusal of a file with this text
abbrev line_of : Word → Refusal → Word
line_of name r = fault_line ((name ++ byte ":" ∷ decimal r.place.line) ++ byte " " ∷ kind_word r.kind)

same_line : (names others : List Word) (r s : Refusal) → name_text names r.place.file ≡ name_text others s.place.file → r ≡ s → refusal_text names r ≡ refusal_text others s
same_line names others r s named same = ap (λ n. line_of n r) named ∙ ap (line_of (name_text others s.place.file)) same

module _ (relied : Relied) where
  module _ (held : Held) (command : RunWords) where
    -- the link of the units that were loaded is one
    one_link : (names others : List Word) (us vs : List Unit) → us ≡ vs → names ≡ others → link.linked names us ≡ link.linked others vs
    one_link names others us vs same named = ap (λ ns. link.linked ns us) named ∙ ap (link.linked others) same

    pub one_program : (p q : Program) (ops ops' : Operators) → HasProgram held command p ops → HasProgram held command q ops' → (p ≡ q) × (ops ≡ ops')
    one_program p q ops ops' a b =
        let same = relied.load held command.file fixed_names a.names b.names a.units b.units a.loaded b.loaded in (
          linked_one p q (link.linked b.names b.units) (sym (one_link a.names b.names a.units b.units same.0 same.1) ∙ a.linked_is) b.linked_is,
          a.ops_are ∙ ap main_operators same.0 ∙ sym b.ops_are,
        )

    -- files that have a program are not refused
    program_not_refused : (p : Program) (ops : Operators) (line : Word) → HasProgram held command p ops → FilesRefused held command line → ⊥
    program_not_refused p ops line a (NotLoaded names refusal refused is) = relied.unrefused held command.file fixed_names a.names names a.units refusal a.loaded refused
    program_not_refused p ops line a (NotLinked names units refusal loaded not is) =
        let same = relied.load held command.file fixed_names a.names names a.units units a.loaded loaded in
        not_both p refusal (link.linked names units) (sym (one_link a.names names a.units units same.0 same.1) ∙ a.linked_is) not

    -- files are refused with one line
    one_line : (line other : Word) → FilesRefused held command line → FilesRefused held command other → line ≡ other
    one_line line other (NotLoaded names r refused is) (NotLoaded others s refused' is') =
        is
        ∙ same_line names others r s (relied.name held command.file fixed_names names others r s refused refused') (relied.refusal held command.file fixed_names names others r s refused refused')
        ∙ sym is'
    one_line line other (NotLoaded names r refused is) (NotLinked others units s loaded not is') = absurd (relied.unrefused held command.file fixed_names others names units r loaded refused)
    one_line line other (NotLinked names units r loaded not is) (NotLoaded others s refused' is') = absurd (relied.unrefused held command.file fixed_names names others units s loaded refused')
    one_line line other (NotLinked names units r loaded not is) (NotLinked others vs s loaded' not' is') =
        let same = relied.load held command.file fixed_names names others units vs loaded loaded' in
        let told = refused_one r s (link.linked others vs) (sym (one_link names others units vs same.0 same.1) ∙ not) not' in
        is ∙ ap (λ ns. refusal_text ns r) same.1 ∙ ap (refusal_text others) told ∙ sym is'

    -- the same query of the same program
    moved : (p q : Program) (ops ops' : Operators) → (p ≡ q) × (ops ≡ ops') → (names : List Word) (query : Term) → IsQuery ops p.names command.query names query → IsQuery ops' q.names command.query names query
    moved p q ops ops' same names query read =
        subst (λ o. IsQuery o q.names command.query names query) same.1 (subst (λ (x : Program). IsQuery ops x.names command.query names query) same.0 read)

    -- the operators of the main file can be made
    ops_made : (p : Program) (ops : Operators) → HasProgram held command p ops → IsMade ops
    ops_made p ops a = subst IsMade (sym a.ops_are) (operators_made a.units (relied.operators held command.file fixed_names a.names a.units a.loaded))

    pub one_prepared : (p q : Program) (t u : Term) → HasQuery held command p t → HasQuery held command q u → (p ≡ q) × (t ≡ u)
    one_prepared p q t u a b =
        let same = one_program a.before b.before a.ops b.ops a.has b.has in
        let read = one_query relied.goal b.ops (ops_made b.before b.ops b.has) b.before.names command.query a.names b.names t u (moved a.before b.before a.ops b.ops same a.names t a.read) b.read in
        (a.program_is ∙ ap (with_names a.names) same.0 ∙ ap (λ ns. with_names ns b.before) read.0 ∙ sym b.program_is, read.1)

    query_not_unread : (p q : Program) (ops : Operators) (t : Term) → HasProgram held command p ops → ((names : List Word) (query : Term) → IsQuery ops p.names command.query names query → ⊥) → HasQuery held command q t → ⊥
    query_not_unread p q ops t a never b =
        never b.names t (moved b.before p b.ops ops (one_program b.before p b.ops ops b.has a) b.names t b.read)

    called_same : (p q : Program) (t u : Term) → HasQuery held command p t → HasQuery held command q u → called_by p t ≡ called_by q u
    called_same p q t u a b =
        let same = one_prepared p q t u a b in ap (λ x. called_by x t) same.0 ∙ ap (called_by q) same.1

    meets_same : (p q : Program) (t u : Term) (n : ℕ) → HasQuery held command p t → HasQuery held command q u → query_meets_entry p n t ≡ query_meets_entry q n u
    meets_same p q t u n a b =
        let same = one_prepared p q t u a b in ap (λ x. query_meets_entry x n t) same.0 ∙ ap (query_meets_entry q n) same.1

    -- a query that calls a predicate meets an entry of that or not
    not_uncalled : (p q : Program) (t u : Term) (n : ℕ) → HasQuery held command p t → HasQuery held command q u → called_by p t ≡ None → called_by q u ≡ Some n → ⊥
    not_uncalled p q t u n a b none some = none-some n (sym none ∙ called_same p q t u a b ∙ some)

    not_unmet : (p q : Program) (t u : Term) (n : ℕ) → HasQuery held command p t → HasQuery held command q u → called_by p t ≡ Some n → query_meets_entry p n t ≡ false → MeetsEntry q u → ⊥
    not_unmet p q t u n a b calls unmet m =
        let one : m.pred ≡ n = same_some m.pred n (called_by q u) m.calls (sym (called_same p q t u a b) ∙ calls) in
        true≢false (sym m.meets ∙ ap (λ k. query_meets_entry q k u) one ∙ sym (meets_same p q t u n a b) ∙ unmet)

    -- a command that runs is not refused
    pub run_not_refused : (why : Reason) (p : Program) (t : Term) → CommandRefused held command why → HasQuery held command p t → MeetsEntry p t → ⊥
    run_not_refused _ p t (OfFiles line refused) a m = program_not_refused a.before a.ops line a.has refused
    run_not_refused _ p t (Unread q ops has never) a m = query_not_unread q p ops t has never a
    run_not_refused _ p t (NotExported q u has none) a m = not_uncalled q p u t m.pred has a none m.calls
    run_not_refused _ p t (NoEntry q u has n calls unmet) a m = not_unmet q p u t n has a calls unmet m

    from_files : (l : Word) → FilesRefused held command l → (why : Reason) → CommandRefused held command why → reason.OfFiles l ≡ why
    from_files l refused _ (OfFiles line refused') = ap reason.OfFiles (one_line l line refused refused')
    from_files l refused _ (Unread q ops has never) = absurd (program_not_refused q ops l has refused)
    from_files l refused _ (NotExported q u has none) = absurd (program_not_refused has.before has.ops l has.has refused)
    from_files l refused _ (NoEntry q u has n calls unmet) = absurd (program_not_refused has.before has.ops l has.has refused)

    from_unread : (p : Program) (ops : Operators) → HasProgram held command p ops → ((names : List Word) (query : Term) → IsQuery ops p.names command.query names query → ⊥)
        → (why : Reason) → CommandRefused held command why → reason.QueryUnread ≡ why
    from_unread p ops has never _ (OfFiles line refused) = absurd (program_not_refused p ops line has refused)
    from_unread p ops has never _ (Unread q ops' has' never') = refl
    from_unread p ops has never _ (NotExported q u has' none) = absurd (query_not_unread p q ops u has never has')
    from_unread p ops has never _ (NoEntry q u has' n calls unmet) = absurd (query_not_unread p q ops u has never has')

    from_not_exported : (p : Program) (t : Term) → HasQuery held command p t → called_by p t ≡ None → (why : Reason) → CommandRefused held command why → reason.QueryNotExported ≡ why
    from_not_exported p t a none _ (OfFiles line refused) = absurd (program_not_refused a.before a.ops line a.has refused)
    from_not_exported p t a none _ (Unread q ops has never) = absurd (query_not_unread q p ops t has never a)
    from_not_exported p t a none _ (NotExported q u has none') = refl
    from_not_exported p t a none _ (NoEntry q u has n calls unmet) = absurd (not_uncalled p q t u n a has none calls)

    from_no_entry : (p : Program) (t : Term) (n : ℕ) → HasQuery held command p t → called_by p t ≡ Some n → (why : Reason) → CommandRefused held command why → reason.QueryNoEntry ≡ why
    from_no_entry p t n a calls _ (OfFiles line refused) = absurd (program_not_refused a.before a.ops line a.has refused)
    from_no_entry p t n a calls _ (Unread q ops has never) = absurd (query_not_unread q p ops t has never a)
    from_no_entry p t n a calls _ (NotExported q u has none) = absurd (not_uncalled q p u t n has a none calls)
    from_no_entry p t n a calls _ (NoEntry q u has k calls' unmet) = refl

    -- as a command it is accepted
    not_no_command : (why : Reason) → CommandRefused held command why → why ≡ reason.NoCommand → ⊥
    not_no_command _ (OfFiles line refused) e = let no : ⊥ = cc in no
    not_no_command _ (Unread q ops has never) e = let no : ⊥ = cc in no
    not_no_command _ (NotExported q u has none) e = let no : ⊥ = cc in no
    not_no_command _ (NoEntry q u has n calls unmet) e = let no : ⊥ = cc in no

    -- a command is refused in one way
    one_command_refusal : (why other : Reason) → CommandRefused held command why → CommandRefused held command other → why ≡ other
    one_command_refusal _ other (OfFiles line refused) b = from_files line refused other b
    one_command_refusal _ other (Unread p ops has never) b = from_unread p ops has never other b
    one_command_refusal _ other (NotExported p t has none) b = from_not_exported p t has none other b
    one_command_refusal _ other (NoEntry p t has n calls unmet) b = from_no_entry p t n has calls other b

  module _ (held : Held) (words : List Word) where
    from_no_command : AcceptedWords words ≡ None → (why : Reason) → Refuses held words why → reason.NoCommand ≡ why
    from_no_command none _ (NoCommand none') = refl
    from_no_command none _ (OfCommand command is why refused) = absurd (none-some command (sym none ∙ is))

    from_command : (command : RunWords) → AcceptedWords words ≡ Some command → (why : Reason) → CommandRefused held command why → (other : Reason) → Refuses held words other → why ≡ other
    from_command command is why refused _ (NoCommand none) = absurd (none-some command (sym none ∙ is))
    from_command command is why refused _ (OfCommand command' is' other refused') =
        one_command_refusal held command why other refused (subst (λ c. CommandRefused held c other) (same_some command' command (AcceptedWords words) is' is) refused')

    -- words that are refused as no command are not accepted
    pub none_accepted : (why : Reason) → Refuses held words why → why ≡ reason.NoCommand → AcceptedWords words ≡ None
    none_accepted _ (NoCommand none) e = none
    none_accepted _ (OfCommand command is why refused) e = absurd (not_no_command held command why refused e)

    -- words are refused in one way
    pub one_refusal : (why other : Reason) → Refuses held words why → Refuses held words other → why ≡ other
    one_refusal _ other (NoCommand none) b = from_no_command none other b
    one_refusal _ other (OfCommand command is why refused) b = from_command command is why refused other b

    -- accepted words that are refused are so as their command
    command_refused : (command : RunWords) → AcceptedWords words ≡ Some command → (why : Reason) → Refuses held words why → CommandRefused held command why
    command_refused command is _ (NoCommand none) = absurd (none-some command (sym none ∙ is))
    command_refused command is _ (OfCommand command' is' why refused) = subst (λ c. CommandRefused held c why) (same_some command' command (AcceptedWords words) is' is) refused

    -- words that run are not refused
    pub run_words_not_refused : (command : RunWords) → AcceptedWords words ≡ Some command → (why : Reason) (p : Program) (t : Term)
        → Refuses held words why → HasQuery held command p t → MeetsEntry p t → ⊥
    run_words_not_refused command is why p t refused a m = run_not_refused held command why p t (command_refused command is why refused) a m

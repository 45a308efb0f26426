use Rattle.std.proofs.Common.{◌≤◌, ◌<◌, refl, sym, ap, ◌∙◌, length, subst, None, Some, arith}
use Rattle.std.specs.Prelude.{Ok, Err, vec_items, string_bytes}
use Rattle.term_core.specs.Names.{place_of, with_text}
use Rattle.std.proofs.lemmas.Result.{IfOk-weaker, IfErr-weaker}
use Rattle.byte_io.specs.Outside.{answer_of}
use Rattle.byte_io.specs.declared.files.FilesFault.TheVariants.{Failed}
use Rattle.ciao_modules.specs.LoadReads.{new_reads}
use Rattle.ciao_modules.specs.Stages.{IsReadOf, IsFrontOf}
use Rattle.ciao_modules.proofs.Lists.{prefix_same, prefix_length}
use Rattle.ciao_modules.proofs.FileReads.{front_of, failed_last, stops_told, was_read, stops_in_range}
use Rattle.ciao_modules.proofs.Fronts.{known, missing, reads_file, file_fails}
use Rattle.ciao_modules.proofs.UnitLaws.{known as is_known}
use Rattle.ciao_modules.proofs.loading.load_file.Goals as goal

-- a read that failed

pub returns-in-Err-Failed-clause-asks : goal.returns-in-Err-Failed-clause-asks
returns-in-Err-Failed-clause-asks g c =
    was_read (g.F.Files.held c.args.files.now) c.args.folder.now c.args.names.now c.args.member.used (g.F.Files.reads c.args.files.now) (g.F.Files.reads c.read_content.new.files) c.as_str-2.result.now _
    (c.as_str-2.ensures.value ∙ c.in_ok-texts.ensures.path) c.read_content.ensures.read

pub returns-in-Err-Failed-clause-last : goal.returns-in-Err-Failed-clause-last
returns-in-Err-Failed-clause-last g c =
    let told = g.F.Files.held c.args.files.now in
    let old = g.F.Files.reads c.args.files.now in
    let new = g.F.Files.reads c.read_content.new.files in
    let path = c.as_str-2.result.now in
    let read : IsReadOf told path c.args.member.used old new (Err Failed) =
    subst (λ r. IsReadOf told path c.args.member.used old new (answer_of vec_items r)) (c.in-Err-Failed.is ∙ ap Err c.in-Err-Failed.field-0-is) c.read_content.ensures.read in
    failed_last told c.args.folder.now path c.args.names.now c.intern.new.self c.args.member.used c.in_ok-file.file c.as_str.result.now old new read
    (c.as_str-2.ensures.value ∙ c.in_ok-texts.ensures.path) (c.as_str.ensures.value ∙ c.in_ok-texts.ensures.file) c.in_ok-file.ensures.found

-- no file

pub returns-in-Ok-None-clause-asks : goal.returns-in-Ok-None-clause-asks
returns-in-Ok-None-clause-asks g c =
    was_read (g.F.Files.held c.args.files.now) c.args.folder.now c.args.names.now c.args.member.used (g.F.Files.reads c.args.files.now) (g.F.Files.reads c.read_content.new.files) c.as_str-2.result.now _
    (c.as_str-2.ensures.value ∙ c.in_ok-texts.ensures.path) c.read_content.ensures.read

pub returns-in-Ok-None-clause-err : goal.returns-in-Ok-None-clause-err
returns-in-Ok-None-clause-err g c =
    let told = g.F.Files.held c.args.files.now in
    let old = g.F.Files.reads c.args.files.now in
    let new = g.F.Files.reads c.read_content.new.files in
    let path = c.as_str-2.result.now in
    let read : IsReadOf told path c.args.member.used old new (Ok None) =
    subst (λ r. IsReadOf told path c.args.member.used old new (answer_of vec_items r)) (c.in-Ok-None.is ∙ ap Ok c.in-Ok-None.field-0-is) c.read_content.ensures.read in
    let text = c.as_str.ensures.value ∙ c.in_ok-texts.ensures.file in
    let file = c.in_ok-file.ensures.place ∙ ap (λ t. place_of t c.args.names.now) text in
    let mid = c.in_ok-file.ensures.ok ∙ ap (with_text c.args.names.now) text in
    let path_is = c.as_str-2.ensures.value ∙ c.in_ok-texts.ensures.path in (
      missing c.args.folder.now c.args.names.now c.args.queue c.args.member path (string_bytes c.in_ok-texts.texts.own) c.in_ok-file.file c.intern.new.self path_is c.in_ok-texts.ensures.own file mid
          (new_reads old new) _ (front_of told path c.args.member.used old new None read) refl,
      known c.args.folder.now c.args.names.now c.args.queue c.args.member path (string_bytes c.in_ok-texts.texts.own) c.in_ok-file.file c.intern.new.self path_is c.in_ok-texts.ensures.own file mid
          c.intern.new.self (prefix_same c.intern.new.self),
    )

-- bytes

pub returns-clause-ok : goal.returns-clause-ok
returns-clause-ok g c =
    let told = g.F.Files.held c.args.files.now in
    let old = g.F.Files.reads c.args.files.now in
    let new = g.F.Files.reads c.read_content.new.files in
    let path = c.as_str-2.result.now in
    let read : IsReadOf told path c.args.member.used old new (Ok (Some c.in-Ok-Some.bytes.items)) =
    subst (λ r. IsReadOf told path c.args.member.used old new (answer_of vec_items r)) (c.in-Ok-Some.is ∙ ap Ok c.in-Ok-Some.field-0-is) c.read_content.ensures.read in
    let text = c.as_str.ensures.value ∙ c.in_ok-texts.ensures.file in
    let file = c.in_ok-file.ensures.place ∙ ap (λ t. place_of t c.args.names.now) text in
    let mid = c.in_ok-file.ensures.ok ∙ ap (with_text c.args.names.now) text in
    let path_is = c.as_str-2.ensures.value ∙ c.in_ok-texts.ensures.path in
    let own_is = c.as_str-own.ensures.value ∙ c.in_ok-texts.ensures.own in
    IfOk-weaker c.read_front.result _ _
    (λ loaded r. reads_file c.args.folder.now c.args.names.now c.args.queue c.args.member path c.as_str-own.result.now c.in_ok-file.file c.intern.new.self path_is own_is file mid
    (new_reads old new) c.deref.result.now c.read_front.new.names loaded
    (λ held agree. subst (λ b. IsFrontOf held path c.args.member.used (Some b)) (sym c.deref.ensures.value) (front_of told path c.args.member.used old new (Some c.in-Ok-Some.bytes.items) read held agree)) r)
    c.read_front.ensures.ok

pub returns-clause-err : goal.returns-clause-err
returns-clause-err g c =
    let told = g.F.Files.held c.args.files.now in
    let old = g.F.Files.reads c.args.files.now in
    let new = g.F.Files.reads c.read_content.new.files in
    let path = c.as_str-2.result.now in
    let read : IsReadOf told path c.args.member.used old new (Ok (Some c.in-Ok-Some.bytes.items)) =
    subst (λ r. IsReadOf told path c.args.member.used old new (answer_of vec_items r)) (c.in-Ok-Some.is ∙ ap Ok c.in-Ok-Some.field-0-is) c.read_content.ensures.read in
    let text = c.as_str.ensures.value ∙ c.in_ok-texts.ensures.file in
    let file = c.in_ok-file.ensures.place ∙ ap (λ t. place_of t c.args.names.now) text in
    let mid = c.in_ok-file.ensures.ok ∙ ap (with_text c.args.names.now) text in
    let path_is = c.as_str-2.ensures.value ∙ c.in_ok-texts.ensures.path in
    let own_is = c.as_str-own.ensures.value ∙ c.in_ok-texts.ensures.own in
    IfErr-weaker c.read_front.result _ _
    (λ fault w. file_fails c.args.folder.now c.args.names.now c.args.queue c.args.member path c.as_str-own.result.now c.in_ok-file.file c.intern.new.self path_is own_is file mid
    (new_reads old new) c.deref.result.now c.read_front.new.names _ fault
    (λ held agree. subst (λ b. IsFrontOf held path c.args.member.used (Some b)) (sym c.deref.ensures.value) (front_of told path c.args.member.used old new (Some c.in-Ok-Some.bytes.items) read held agree))
    c.read_front.ensures.kept w)
    c.read_front.ensures.err

pub returns-clause-last : goal.returns-clause-last
returns-clause-last g c =
    IfErr-weaker c.read_front.result _ _
    (λ fault w. stops_told (new_reads (g.F.Files.reads c.args.files.now) (g.F.Files.reads c.read_content.new.files)) c.args.folder.now c.read_front.new.names c.in_ok-file.file fault w) c.read_front.ensures.stops

pub returns-clause-some : goal.returns-clause-some
returns-clause-some g c =
    IfOk-weaker c.read_front.result _ _ (λ loaded made. made (is_known c.intern.new.self c.in_ok-file.file _ c.in_ok-file.ensures.found)) c.read_front.ensures.some

pub returns-clause-named : goal.returns-clause-named
returns-clause-named g c = λ placed.
    let lt : c.in_ok-file.file < length c.intern.new.self = is_known c.intern.new.self c.in_ok-file.file _ c.in_ok-file.ensures.found in
    let le : length c.intern.new.self ≤ length c.read_front.new.names = prefix_length c.intern.new.self c.read_front.new.names c.read_front.ensures.kept in
    IfErr-weaker c.read_front.result _ _ (λ fault w. stops_in_range (length c.read_front.new.names) c.in_ok-file.file (omega (arith, lt, le)) fault w) c.read_front.ensures.stops

use Rattle.std.proofs.Common.{sym, ◌∙◌, ap, subst}
use Rattle.std.specs.Prelude.{Err}
use Rattle.std.proofs.lemmas.Result.{IfOk-weaker, IfErr-weaker, err_from_is_err_and}
use Rattle.byte_io.specs.Outside.{Held, Rose}
use Rattle.ciao_modules.specs.FileNames.{folder_of, base_of}
use Rattle.ciao_modules.specs.Loaded.{start_names, start_queue, start, ReadsQueue}
use Rattle.ciao_modules.specs.LoadReads.{Agree, new_reads, ReadsInOrder, IsLoadFault}
use Rattle.ciao_modules.specs.Stages.{FailsFrom, progress_of}
use Rattle.ciao_modules.proofs.Rounds.{nothing_grows, nothing_read, starts_at, fault_from}
use Rattle.ciao_modules.proofs.loading.load_set.Goals as goal

-- memory was refused before a read

pub returns-in_err-queue-clause-order : goal.returns-in_err-queue-clause-order
returns-in_err-queue-clause-order g c =
    let old = g.F.Files.reads c.args.files.now in
    let main = c.args.main.now in
    let before = c.args.names.now in
    let p = err_from_is_err_and c.from_residual.result c.from_residual.ensures.1 in
    subst (λ r. (held : Held) → Agree (new_reads old old) held → ReadsInOrder held (folder_of main) (start before main) r (new_reads old old)) (sym (p.1 ∙ ap Err p.2))
    (nothing_read (g.F.Files.held c.args.files.now) (folder_of main) (start_names before (base_of main)) (start_queue before (base_of main)) old).order

pub returns-in_err-queue-clause-tell : goal.returns-in_err-queue-clause-tell
returns-in_err-queue-clause-tell g c =
    let old = g.F.Files.reads c.args.files.now in
    let main = c.args.main.now in
    let before = c.args.names.now in
    (nothing_read (g.F.Files.held c.args.files.now) (folder_of main) (start_names before (base_of main)) (start_queue before (base_of main)) old).tell

pub returns-in_err-queue-clause-reads : goal.returns-in_err-queue-clause-reads
returns-in_err-queue-clause-reads g c = nothing_grows (g.F.Files.reads c.args.files.now)

-- the load

pub returns-clause-loaded : goal.returns-clause-loaded
returns-clause-loaded g c =
    let main = c.args.main.now in
    let before = c.args.names.now in
    let first = starts_at before c.first_queue.new.names main c.in_ok-queue.queue c.in_ok-queue.ensures.names c.in_ok-queue.ensures.queue in
    IfOk-weaker c.load_all.result _ _
    (λ units w held agree.
    subst (λ f. ReadsQueue held f (start before main) c.load_all.new.names units) c.folder_of.ensures
    (subst (λ p. ReadsQueue held c.folder_of.result.now p c.load_all.new.names units) first (w held agree)))
    c.load_all.ensures.ok

pub returns-clause-fault : goal.returns-clause-fault
returns-clause-fault g c =
    let main = c.args.main.now in
    let before = c.args.names.now in
    let after = c.load_all.new.names in
    let reads = new_reads (g.F.Files.reads c.args.files.now) (g.F.Files.reads c.load_all.new.files) in
    let rose = Rose (g.F.Files.faults c.args.files.now) (g.F.Files.faults c.load_all.new.files) in
    let first = starts_at before c.first_queue.new.names main c.in_ok-queue.queue c.in_ok-queue.ensures.names c.in_ok-queue.ensures.queue in
    IfErr-weaker c.load_all.result
    (FailsFrom reads c.folder_of.result.now (progress_of c.first_queue.new.names c.in_ok-queue.queue) after rose)
    (IsLoadFault reads main before after rose)
    (λ fault w. fault_from reads main before after rose fault
    (subst (λ f. FailsFrom reads f (start before main) after rose fault) c.folder_of.ensures
    (subst (λ p. FailsFrom reads c.folder_of.result.now p after rose fault) first w)))
    c.load_all.ensures.err

pub returns-clause-order : goal.returns-clause-order
returns-clause-order g c = λ held agree.
    let main = c.args.main.now in
    let before = c.args.names.now in
    let reads = new_reads (g.F.Files.reads c.args.files.now) (g.F.Files.reads c.load_all.new.files) in
    let first = starts_at before c.first_queue.new.names main c.in_ok-queue.queue c.in_ok-queue.ensures.names c.in_ok-queue.ensures.queue in
    subst (λ f. ReadsInOrder held f (start before main) c.load_all.result reads) c.folder_of.ensures
    (subst (λ p. ReadsInOrder held c.folder_of.result.now p c.load_all.result reads) first (c.load_all.ensures.order held agree))

use Rattle.std.proofs.Common.{◌≡◌, length, Some, None, refl, sym, ap, ◌∙◌, subst, arith}
use Rattle.std.specs.Prelude.{slice_get, Err}
use Rattle.std.proofs.lemmas.Result.{err_from_is_err_and}
use Rattle.byte_io.specs.Outside.{Held}
use Rattle.ciao_modules.specs.LoadReads.{Agree, new_reads, ReadsInOrder}
use Rattle.ciao_modules.specs.Stages.{WasRead, Asks, progress_of}
use Rattle.ciao_modules.proofs.Lists.{prefix_same, prefix_then}
use Rattle.ciao_modules.proofs.Rounds.{round_start, round_next, stops_at, stops_read, fails_at, grows_at, grows_read, grows_so_far, ends_reads, ends_in_range, member_in_range, rose_then, steady_then, within_capacity}
use Rattle.ciao_modules.specs.declared.units.LoadFault.TheVariants as load
use Rattle.ciao_modules.specs.declared.reading.LoadedFile.{LoadedFile}
use Rattle.ciao_modules.proofs.loading.load_all.Goals as goal

pub loop-member-init : goal.loop-member-init
loop-member-init g c = record {
  round = round_start (g.F.Files.held c.args.files.now) c.args.folder.now (g.F.Files.reads c.args.files.now) c.args.names.now c.args.queue c.new-units.result c.new-units.ensures c.len.ensures.distinct c.requires.queue c.requires.some;
  kept = prefix_same c.args.names.now;
  same = refl;
  later = omega arith;
  steady = λ was. (refl, was);
}

-- a file at which the load stops

pub returns-in-Err-clause-err : goal.returns-in-Err-clause-err
returns-in-Err-clause-err g c =
    let told = g.F.Files.held c.args.files.now in
    let first = progress_of c.args.names.now c.args.queue in
    let old = g.F.Files.reads c.args.files.now in
    let new = g.F.Files.reads c.loop-member.files in
    let later = g.F.Files.reads c.load_file.new.files in
    let is : slice_get c.loop-member.waiting (length c.loop-member.units) ≡ Some c.in-Some.member =
    sym (c.member_at.ensures ∙ ap (λ q. slice_get q c.len-in-loop-member.result) c.as_slice.ensures ∙ ap (slice_get c.loop-member.waiting) c.len-in-loop-member.ensures) ∙ c.in-Some.is in
    let asks = subst (λ t. Asks {A = LoadedFile} t c.args.folder.now c.loop-member.names c.in-Some.member.used new later (Err c.in-Err.fault)) c.loop-member.invariant.same c.in-Err.ensures.asks in
    fails_at told c.args.folder.now first old new c.loop-member.names c.loop-member.waiting c.loop-member.units c.loop-member.invariant.round c.in-Some.member is later c.load_file.new.names _ _ c.in-Err.fault asks
    (rose_then (g.F.Files.faults c.args.files.now) (g.F.Files.faults c.loop-member.files) (g.F.Files.faults c.load_file.new.files) c.loop-member.invariant.later) c.in-Err.ensures.last c.in-Err.ensures.err

pub returns-in-Err-clause-order : goal.returns-in-Err-clause-order
returns-in-Err-clause-order g c =
    let told = g.F.Files.held c.args.files.now in
    let first = progress_of c.args.names.now c.args.queue in
    let old = g.F.Files.reads c.args.files.now in
    let new = g.F.Files.reads c.loop-member.files in
    let later = g.F.Files.reads c.load_file.new.files in
    let is : slice_get c.loop-member.waiting (length c.loop-member.units) ≡ Some c.in-Some.member =
    sym (c.member_at.ensures ∙ ap (λ q. slice_get q c.len-in-loop-member.result) c.as_slice.ensures ∙ ap (slice_get c.loop-member.waiting) c.len-in-loop-member.ensures) ∙ c.in-Some.is in
    let asks = subst (λ t. Asks {A = LoadedFile} t c.args.folder.now c.loop-member.names c.in-Some.member.used new later (Err c.in-Err.fault)) c.loop-member.invariant.same c.in-Err.ensures.asks in
    (stops_at told c.args.folder.now first old new c.loop-member.names c.loop-member.waiting c.loop-member.units c.loop-member.invariant.round c.in-Some.member is later c.in-Err.fault asks).order

pub returns-in-Err-clause-tell : goal.returns-in-Err-clause-tell
returns-in-Err-clause-tell g c =
    let told = g.F.Files.held c.args.files.now in
    let first = progress_of c.args.names.now c.args.queue in
    let old = g.F.Files.reads c.args.files.now in
    let new = g.F.Files.reads c.loop-member.files in
    let later = g.F.Files.reads c.load_file.new.files in
    let is : slice_get c.loop-member.waiting (length c.loop-member.units) ≡ Some c.in-Some.member =
    sym (c.member_at.ensures ∙ ap (λ q. slice_get q c.len-in-loop-member.result) c.as_slice.ensures ∙ ap (slice_get c.loop-member.waiting) c.len-in-loop-member.ensures) ∙ c.in-Some.is in
    let asks = subst (λ t. Asks {A = LoadedFile} t c.args.folder.now c.loop-member.names c.in-Some.member.used new later (Err c.in-Err.fault)) c.loop-member.invariant.same c.in-Err.ensures.asks in
    (stops_at told c.args.folder.now first old new c.loop-member.names c.loop-member.waiting c.loop-member.units c.loop-member.invariant.round c.in-Some.member is later c.in-Err.fault asks).tell

pub returns-in-Err-clause-reads : goal.returns-in-Err-clause-reads
returns-in-Err-clause-reads g c =
    let told = g.F.Files.held c.args.files.now in
    let first = progress_of c.args.names.now c.args.queue in
    let old = g.F.Files.reads c.args.files.now in
    let new = g.F.Files.reads c.loop-member.files in
    let later = g.F.Files.reads c.load_file.new.files in
    let is : slice_get c.loop-member.waiting (length c.loop-member.units) ≡ Some c.in-Some.member =
    sym (c.member_at.ensures ∙ ap (λ q. slice_get q c.len-in-loop-member.result) c.as_slice.ensures ∙ ap (slice_get c.loop-member.waiting) c.len-in-loop-member.ensures) ∙ c.in-Some.is in
    let asks = subst (λ t. Asks {A = LoadedFile} t c.args.folder.now c.loop-member.names c.in-Some.member.used new later (Err c.in-Err.fault)) c.loop-member.invariant.same c.in-Err.ensures.asks in
    grows_at told c.args.folder.now first old new c.loop-member.names c.loop-member.waiting c.loop-member.units c.loop-member.invariant.round c.in-Some.member is later c.in-Err.fault asks

pub returns-in-Err-clause-in_range : goal.returns-in-Err-clause-in_range
returns-in-Err-clause-in_range g c =
    let is : slice_get c.loop-member.waiting (length c.loop-member.units) ≡ Some c.in-Some.member =
    sym (c.member_at.ensures ∙ ap (λ q. slice_get q c.len-in-loop-member.result) c.as_slice.ensures ∙ ap (slice_get c.loop-member.waiting) c.len-in-loop-member.ensures) ∙ c.in-Some.is in
    c.in-Err.ensures.named
    (member_in_range (g.F.Files.held c.args.files.now) c.args.folder.now (progress_of c.args.names.now c.args.queue) (g.F.Files.reads c.args.files.now) (g.F.Files.reads c.loop-member.files)
    c.loop-member.names c.loop-member.waiting c.loop-member.units c.loop-member.invariant.round c.in-Some.member is).place

-- a file that was read

pub loop-member-smaller : goal.loop-member-smaller
loop-member-smaller g c =
    let is : slice_get c.loop-member.waiting (length c.loop-member.units) ≡ Some c.in-Some.member =
    sym (c.member_at.ensures ∙ ap (λ q. slice_get q c.len-in-loop-member.result) c.as_slice.ensures ∙ ap (slice_get c.loop-member.waiting) c.len-in-loop-member.ensures) ∙ c.in-Some.is in
    within_capacity c.loop-member.waiting c.in-Ok.loaded.queue c.loop-member.units c.push.new.self c.in-Ok.loaded.unit c.in-Some.member is c.in-Ok.ensures.capacity c.in_ok-push-in-Ok.ensures.ok

pub loop-member-preserved : goal.loop-member-preserved
loop-member-preserved g c =
    let told = g.F.Files.held c.args.files.now in
    let first = progress_of c.args.names.now c.args.queue in
    let old = g.F.Files.reads c.args.files.now in
    let new = g.F.Files.reads c.loop-member.files in
    let later = g.F.Files.reads c.load_file.new.files in
    let is : slice_get c.loop-member.waiting (length c.loop-member.units) ≡ Some c.in-Some.member =
    sym (c.member_at.ensures ∙ ap (λ q. slice_get q c.len-in-loop-member.result) c.as_slice.ensures ∙ ap (slice_get c.loop-member.waiting) c.len-in-loop-member.ensures) ∙ c.in-Some.is in
    let read : WasRead told c.args.folder.now c.loop-member.names c.in-Some.member.used new later =
    subst (λ t. WasRead t c.args.folder.now c.loop-member.names c.in-Some.member.used new later) c.loop-member.invariant.same c.in-Ok.ensures.asks in
    record {
      round = round_next told c.args.folder.now first old new c.loop-member.names c.loop-member.waiting c.loop-member.units c.loop-member.invariant.round c.in-Some.member is later read c.load_file.new.names c.in-Ok.loaded c.push.new.self
          c.in-Ok.ensures.ok c.in-Ok.ensures.some c.in-Ok.ensures.kept c.len-in-Ok.ensures.distinct c.ranges_law.ensures c.in_ok-push-in-Ok.ensures.ok;
      kept = prefix_then c.args.names.now c.loop-member.names c.load_file.new.names c.loop-member.invariant.kept c.load_file.ensures.kept;
      same = c.load_file.ensures.same ∙ c.loop-member.invariant.same;
      later = omega (arith, c.loop-member.invariant.later, c.load_file.ensures.later);
      steady = steady_then _ _ _ _ _ _ c.loop-member.invariant.steady c.load_file.ensures.steady;
    }

-- and memory was refused then

pub returns-in_err-push-in-Ok-clause-order : goal.returns-in_err-push-in-Ok-clause-order
returns-in_err-push-in-Ok-clause-order g c =
    let told = g.F.Files.held c.args.files.now in
    let first = progress_of c.args.names.now c.args.queue in
    let old = g.F.Files.reads c.args.files.now in
    let new = g.F.Files.reads c.loop-member.files in
    let later = g.F.Files.reads c.load_file.new.files in
    let is : slice_get c.loop-member.waiting (length c.loop-member.units) ≡ Some c.in-Some.member =
    sym (c.member_at.ensures ∙ ap (λ q. slice_get q c.len-in-loop-member.result) c.as_slice.ensures ∙ ap (slice_get c.loop-member.waiting) c.len-in-loop-member.ensures) ∙ c.in-Some.is in
    let read : WasRead told c.args.folder.now c.loop-member.names c.in-Some.member.used new later =
    subst (λ t. WasRead t c.args.folder.now c.loop-member.names c.in-Some.member.used new later) c.loop-member.invariant.same c.in-Ok.ensures.asks in
    let p = err_from_is_err_and c.from_residual.result c.from_residual.ensures.1 in
    subst (λ r. (held : Held) → Agree (new_reads old later) held → ReadsInOrder held c.args.folder.now first r (new_reads old later)) (sym p.1)
    (stops_read told c.args.folder.now first old new c.loop-member.names c.loop-member.waiting c.loop-member.units c.loop-member.invariant.round c.in-Some.member is later read p.0).order

pub returns-in_err-push-in-Ok-clause-tell : goal.returns-in_err-push-in-Ok-clause-tell
returns-in_err-push-in-Ok-clause-tell g c =
    let told = g.F.Files.held c.args.files.now in
    let first = progress_of c.args.names.now c.args.queue in
    let old = g.F.Files.reads c.args.files.now in
    let new = g.F.Files.reads c.loop-member.files in
    let later = g.F.Files.reads c.load_file.new.files in
    let is : slice_get c.loop-member.waiting (length c.loop-member.units) ≡ Some c.in-Some.member =
    sym (c.member_at.ensures ∙ ap (λ q. slice_get q c.len-in-loop-member.result) c.as_slice.ensures ∙ ap (slice_get c.loop-member.waiting) c.len-in-loop-member.ensures) ∙ c.in-Some.is in
    let read : WasRead told c.args.folder.now c.loop-member.names c.in-Some.member.used new later =
    subst (λ t. WasRead t c.args.folder.now c.loop-member.names c.in-Some.member.used new later) c.loop-member.invariant.same c.in-Ok.ensures.asks in
    (stops_read told c.args.folder.now first old new c.loop-member.names c.loop-member.waiting c.loop-member.units c.loop-member.invariant.round c.in-Some.member is later read load.NoMemory).tell

pub returns-in_err-push-in-Ok-clause-reads : goal.returns-in_err-push-in-Ok-clause-reads
returns-in_err-push-in-Ok-clause-reads g c =
    let told = g.F.Files.held c.args.files.now in
    let first = progress_of c.args.names.now c.args.queue in
    let old = g.F.Files.reads c.args.files.now in
    let new = g.F.Files.reads c.loop-member.files in
    let later = g.F.Files.reads c.load_file.new.files in
    let is : slice_get c.loop-member.waiting (length c.loop-member.units) ≡ Some c.in-Some.member =
    sym (c.member_at.ensures ∙ ap (λ q. slice_get q c.len-in-loop-member.result) c.as_slice.ensures ∙ ap (slice_get c.loop-member.waiting) c.len-in-loop-member.ensures) ∙ c.in-Some.is in
    let read : WasRead told c.args.folder.now c.loop-member.names c.in-Some.member.used new later =
    subst (λ t. WasRead t c.args.folder.now c.loop-member.names c.in-Some.member.used new later) c.loop-member.invariant.same c.in-Ok.ensures.asks in
    grows_read told c.args.folder.now first old new c.loop-member.names c.loop-member.waiting c.loop-member.units c.loop-member.invariant.round c.in-Some.member is later read

-- the end of the queue

pub returns-clause-reads : goal.returns-clause-reads
returns-clause-reads g c =
    grows_so_far (g.F.Files.held c.args.files.now) c.args.folder.now (progress_of c.args.names.now c.args.queue) (g.F.Files.reads c.args.files.now) (g.F.Files.reads c.loop-member.files)
    c.loop-member.names c.loop-member.waiting c.loop-member.units c.loop-member.invariant.round

pub returns-clause-order : goal.returns-clause-order
returns-clause-order g c =
    let whole : slice_get c.loop-member.waiting (length c.loop-member.units) ≡ None =
    sym (c.member_at.ensures ∙ ap (λ q. slice_get q c.len-in-loop-member.result) c.as_slice.ensures ∙ ap (slice_get c.loop-member.waiting) c.len-in-loop-member.ensures) ∙ c.in_default.is in
    (ends_reads (g.F.Files.held c.args.files.now) c.args.folder.now (progress_of c.args.names.now c.args.queue) (g.F.Files.reads c.args.files.now) (g.F.Files.reads c.loop-member.files)
    c.loop-member.names c.loop-member.waiting c.loop-member.units c.loop-member.invariant.round whole).order

pub returns-clause-tell : goal.returns-clause-tell
returns-clause-tell g c =
    let whole : slice_get c.loop-member.waiting (length c.loop-member.units) ≡ None =
    sym (c.member_at.ensures ∙ ap (λ q. slice_get q c.len-in-loop-member.result) c.as_slice.ensures ∙ ap (slice_get c.loop-member.waiting) c.len-in-loop-member.ensures) ∙ c.in_default.is in
    (ends_reads (g.F.Files.held c.args.files.now) c.args.folder.now (progress_of c.args.names.now c.args.queue) (g.F.Files.reads c.args.files.now) (g.F.Files.reads c.loop-member.files)
    c.loop-member.names c.loop-member.waiting c.loop-member.units c.loop-member.invariant.round whole).tell

pub returns-clause-in_range : goal.returns-clause-in_range
returns-clause-in_range g c =
    let whole : slice_get c.loop-member.waiting (length c.loop-member.units) ≡ None =
    sym (c.member_at.ensures ∙ ap (λ q. slice_get q c.len-in-loop-member.result) c.as_slice.ensures ∙ ap (slice_get c.loop-member.waiting) c.len-in-loop-member.ensures) ∙ c.in_default.is in
    ends_in_range (g.F.Files.held c.args.files.now) c.args.folder.now (progress_of c.args.names.now c.args.queue) (g.F.Files.reads c.args.files.now) (g.F.Files.reads c.loop-member.files)
    c.loop-member.names c.loop-member.waiting c.loop-member.units c.loop-member.invariant.round whole

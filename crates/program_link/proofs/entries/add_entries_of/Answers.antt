use Rattle.std.proofs.Common.{◌≡◌, ◌++◌, [], OnOk, cond, length, refl, ap, sym, subst, ◌∙◌, append-nil}
use Rattle.std.proofs.lemmas.Option.{slice_get_past, slice_get_read}
use Rattle.program_link.specs.Programs.{entries_or_any}
use Rattle.program_link.specs.HeldPrograms.{entries_by}
use Rattle.program_link.proofs.entries.add_entries_of.Goals as goal

pub returns-in-None : goal.returns-in-None
returns-in-None c =
    sym (append-nil c.args.entries.now) ∙ ap (λ o. c.args.entries.now ++ entries_by c.args.wanted c.args.number o) (sym (slice_get_past c.args.normals.now c.args.number c.in-None.ensures.lookup.3))

pub returns-else-not-wanted : goal.returns-else-not-wanted
returns-else-not-wanted c =
    let normal = c.in-Some.normal.now in
    let there = slice_get_read c.args.normals.now (length c.args.normals.now) c.args.number normal refl c.in-Some.ensures.lookup.3.0 c.in-Some.ensures.lookup.1 in
    let told = ap (entries_or_any c.args.number) c.as_slice.ensures
    ∙ sym (ap (λ b. cond b (entries_or_any c.args.number normal.entries) []) c.if-not-wanted.false)
    ∙ ap (entries_by c.args.wanted c.args.number) (sym there) in
    subst (λ es. OnOk c.add_entries_or_any.result (c.add_entries_or_any.new.entries ≡ c.args.entries.now ++ es)) told c.add_entries_or_any.ensures

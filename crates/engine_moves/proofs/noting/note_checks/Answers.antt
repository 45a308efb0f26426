use Rattle.std.proofs.Common.{◌≡◌, ◌+◌, ◌-◌, ◌^◌, min, [], ◌∷◌, ◌++◌, take, sym, ap, subst, ◌∙◌, arith}
use Rattle.std.proofs.lemmas.List.{take_all, take_more}
use Rattle.std.specs.Prelude.{flat_map}
use Rattle.prop_check.specs.Places.{row_at}
use Rattle.engine_moves.specs.Looking.{checked_by, IsNoted}
use Rattle.engine_moves.proofs.NotingLaws.{none_noted, turn_noted, one_more_piece}
use Rattle.engine_moves.proofs.noting.note_checks.Goals as goal

pub loop-check-init : goal.loop-check-init
loop-check-init c = none_noted c.args.program.now (row_at c.args.heap.now.changes c.args.args.first c.args.args.count) c.args.notes.now.items

pub loop-check-preserved : goal.loop-check-preserved
loop-check-preserved c =
    let cs = c.args.checks.now in
    let i = c.loop-check.check-index in
    let here = c.check-item.result in
    let sum : c.saturating_add-tests.result ≡ min (c.loop-check.tests + c.in_ok-some.some) (2 ^ 64 - 1) = omega (arith, c.saturating_add-tests.ensures) in
    turn_noted c.args.program.now (row_at c.args.heap.now.changes c.args.args.first c.args.args.count) (flat_map (checked_by c.args.kind)) (checked_by c.args.kind) (one_more_piece (checked_by c.args.kind)) (take i cs) (take (i + 1) cs) here
    (take_more cs i here c.loop-check-test.true ∙ ap (λ x. take i cs ++ x ∷ []) (sym c.check-item.is))
    c.args.notes.now.items c.loop-check.notes.items c.note_check.new.notes.items c.loop-check.tests c.in_ok-some.some c.saturating_add-tests.result c.loop-check.invariant c.in_ok-some.ensures sum

pub returns : goal.returns
returns c =
    let cs = c.args.checks.now in
    let le = c.loop-check-test.false in
    subst (λ xs. IsNoted c.args.program.now (row_at c.args.heap.now.changes c.args.args.first c.args.args.count) (flat_map (checked_by c.args.kind) xs) c.args.notes.now.items c.loop-check.notes.items c.loop-check.tests)
    (take_all c.loop-check.check-index cs (omega (arith, le))) c.loop-check.invariant

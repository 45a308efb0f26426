use Rattle.std.proofs.Common.{ℤ, FitsSigned, Ok, rules, sym, ap, ◌∙◌}
use Rattle.std.specs.Int.{w64}
use Rattle.std.proofs.lemmas.Int.{to_z-of_z}
use Rattle.engine_moves.proofs.KindLaws.{number_at}
use Rattle.engine_moves.proofs.builtins.numbers.value_at.Goals as goal

pub returns-in-Int : goal.returns-in-Int
returns-in-Int c =
    let n = c.in-Int.number in
    let fits : FitsSigned w64 n = search rules in
    ap (λ (m : ℤ). Ok m) (to_z-of_z w64 n fits) ∙ sym (number_at c.args.heap.now.changes c.args.place c.end_cell-cell.result n c.end_cell-cell.ensures c.in-Int.is)

use Rattle.std.proofs.Common.{ℕ, Bool, sym, ◌∙◌}
use Rattle.prog_data.specs.Conditions.{kind_of, is_calls}
use Rattle.engine_moves.proofs.LookingLaws.{first_passes, first_fails}
use Rattle.engine_moves.proofs.looking.first_calls.Goals as goal

pub returns-then-is_calls : goal.returns-then-is_calls
returns-then-is_calls c =
    let test : ℕ → Bool = λ d. is_calls (kind_of c.args.program.now d) in
    first_passes test c.args.conditions.now (sym c.is_empty.ensures ∙ c.if-is_empty.false) c.requires (sym c.is_calls.ensures ∙ c.if-is_calls.true)

pub returns : goal.returns
returns c =
    let test : ℕ → Bool = λ d. is_calls (kind_of c.args.program.now d) in
    first_fails test c.args.conditions.now (sym c.is_empty.ensures ∙ c.if-is_empty.false) c.requires (sym c.is_calls.ensures ∙ c.if-is_calls.false)

use Rattle.std.proofs.Common.{◌+◌, ◌++◌, ◌∷◌, [], drop, ap, sym, ◌∙◌, append_assoc}
use Rattle.std.proofs.lemmas.List.{at_drop_more}
use Rattle.program_link.specs.HeldPrograms.{no_counts}
use Rattle.program_link.proofs.claims.no_counts.Goals as goal

pub loop-pred-preserved : goal.loop-pred-preserved
loop-pred-preserved c =
    let counts = c.loop-pred.counts in
    let at = c.loop-pred._pred-index in
    let left = no_counts (drop (at + 1) c.args.defined.now) in
    ap (λ ns. ns ++ left) c.in_ok-push.ensures.ok
    ∙ append_assoc counts (0 ∷ []) left
    ∙ ap (λ ns. counts ++ ns) (sym (at_drop_more no_counts c.args.defined.now at (record { name = 0; arity = 0 }) c.loop-pred-test.true))
    ∙ c.loop-pred.invariant

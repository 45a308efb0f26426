use Rattle.std.proofs.Common.{◌≡◌, ℕ, ◌<◌, ◌||◌, length, drop}
use Rattle.fixpoint_analyser.specs.Callers.{stands_in}
use Rattle.fixpoint_analyser.specs.Waits.{waits}
use Rattle.fixpoint_analyser.proofs.waiting.Waiting.add_all.Given as goal

abbrev pub invariant-loop-pred : goal.invariant-loop-pred
invariant-loop-pred l =
    (length l.self ≡ length l.fn.self)
    × ((p : ℕ) → p < length l.fn.self → (waits l.self p || stands_in (drop l.pred-index l.preds) p) ≡ (waits l.fn.self p || stands_in l.preds p))

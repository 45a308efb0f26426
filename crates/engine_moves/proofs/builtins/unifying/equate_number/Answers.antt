use Rattle.std.proofs.Common.{◌≡◌, [], ◌∷◌, subst, arith, to_z, of_z}
use Rattle.std.specs.Int.{w64}
use Rattle.std.proofs.lemmas.Int.{to_z-of_z}
use Rattle.term_core.specs.declared.terms.Term.{Int}
use Rattle.term_heap.specs.Changes.{size_of}
use Rattle.term_heap.specs.Loads.{HasLoaded}
use Rattle.engine_moves.proofs.BuiltinTurns.{number_placed, loaded_more}
use Rattle.engine_moves.proofs.builtins.unifying.equate_number.Goals as goal

pub load-requires : goal.load-requires
load-requires c = number_placed (size_of c.args.engine.now.heap.changes) 0 (to_z w64 (of_z w64 c.args.number))

pub equate-requires-clause-left : goal.equate-requires-clause-left
equate-requires-clause-left c = omega (arith, c.requires, loaded_more c.args.engine.now.heap c.load.new.self 0 c.in_ok-at.at (Int (to_z w64 (of_z w64 c.args.number)) ∷ []) c.in_ok-at.ensures.ok)

pub equate-requires-clause-right : goal.equate-requires-clause-right
equate-requires-clause-right c = omega (arith, c.in_ok-at.ensures.ok.within)

pub returns : goal.returns
returns c =
    let n = c.args.number in
    let same : to_z w64 (of_z w64 n) ≡ n = to_z-of_z w64 n c.ranges.number in
    record {
      mid = c.load.new.self;
      at = c.in_ok-at.at;
      loaded = subst (λ k. HasLoaded c.args.engine.now.heap 0 (Int k ∷ []) c.in_ok-at.at c.load.new.self) same c.in_ok-at.ensures.ok;
      unified = c.in_ok-unified.ensures;
    }

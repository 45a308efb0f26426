-- The start of a run over cells.
use Rattle.std.proofs.Common.{◌≡◌, ◌≤◌, ◌<◌, ℕ, zero, suc, ◌+◌, Bool, true, false, List, [], ◌∷◌, map, reverse, length, replicate, cond, None, Some, refl, sym, ap, subst, ◌∙◌, arith, true≢false}
use Rattle.std.specs.Prelude.{◌==◌, find, slice_get, slice_index_or, nat_lt}
use Rattle.std.specs.Option.{option_map_or}
use Rattle.std.proofs.lemmas.Bool.{and_parts}
use Rattle.std.proofs.lemmas.Bool.Decides.{nat_tests}
use Rattle.std.proofs.lemmas.List.{length-map, length-replicate}
use Rattle.std.proofs.lemmas.Option.{none-some, same_Some}
use Rattle.term_core.specs.declared.terms.Term.{Term, Var, out-Term}
use Rattle.term_core.specs.declared.terms.Term.TheVariants.{outs-Var, outs-Int, outs-Atom, outs-Node}
use Rattle.term_core.specs.declared.terms.Term.TheOpen as layer
use Rattle.term_core.specs.Shapes.{parts_of}
use Rattle.term_core.specs.Terms.{above, instance}
use Rattle.term_core.proofs.TermLaws.{instance-itself}
use Rattle.prog_data.specs.declared.goals.Goal as goal
use Rattle.prog_data.specs.declared.programs.Pred.{Pred}
use Rattle.prog_data.specs.declared.programs.Program.{Program}
use Rattle.prog_data.specs.Goals.{no_pred, pred_of, calls_pred, is_called, called_by}
use Rattle.prog_data.specs.Programs.{IsProgram}
use Rattle.machine_model.specs.State.{Does, Doing, State}
use Rattle.machine_model.specs.Run.{start_of, nowhere}
use Rattle.machine_model.specs.Leaner.{IsLeaner}
use Rattle.machine_model.specs.LeanerLaws.{LeanerStatesAreFound}
use Rattle.term_heap.specs.declared.cells.Cell.{Cell}
use Rattle.term_heap.specs.declared.cells.Cell.TheVariants as cell
use Rattle.term_heap.specs.declared.cells.Cell.TheVariants.{Free}
use Rattle.clause_index.specs.Selected.{program_keys}
use Rattle.term_heap.specs.Changes.{Change, Grows, History, cells_of, cell_at, cell_term, size_of, value_of, places, next_serial, NamesBelow, IsEnd, IsMade}
use Rattle.term_heap.specs.Loads.{IsPlaced, from_base, HasLoaded}
use Rattle.term_heap.proofs.PastLaws.{sizes_stay}
use Rattle.term_heap.proofs.ValueLaws.{names_in, fits}
use Rattle.engine_state.specs.declared.engine.Engine as code
use Rattle.engine_state.specs.declared.tasks.Row.{Row}
use Rattle.engine_state.specs.declared.stages.Stage.TheVariants as stage
use Rattle.engine_state.specs.Engines.{as_state, choices_of, chain, item_of}
use Rattle.engine_state.specs.Stacks.{AreCounted}
use Rattle.engine_state.specs.Views.{as_links, as_points}
use Rattle.engine_state.specs.Moments.{IsCallPlaced, Moments}
use Rattle.engine_state.specs.Stages.{as_engine, call_frame, IsKept}
use Rattle.engine_state.specs.MoveLaws.{ClausesEnter}
use Rattle.sld_engine.specs.Starts.{arguments_row, HasStarted}
use Rattle.engine_moves.proofs.ClauseRanges.{placed_by}

-- the predicate that a query calls

found_one : (test : ℕ → Bool) (ns : List ℕ) (n : ℕ) → find test ns ≡ Some n → test n ≡ true
found_one test [] n e = absurd (none-some n e)
found_one test (m ∷ ns) n e = by (test m) refl (found_one test ns n) e where
  by : (b : Bool) → test m ≡ b → (find test ns ≡ Some n → test n ≡ true) → cond b (Some m) (find test ns) ≡ Some n → test n ≡ true
  by true is rest e = subst (λ x. test x ≡ true) (same_Some m n e) is
  by false is rest e = rest e

lt_of : (a b : ℕ) → a < b → nat_lt a b ≡ true
lt_of a b less = grind (arith, nat_tests)

eq_of : (a b : ℕ) → (a == b) ≡ true → a ≡ b
eq_of a b e = grind (arith, nat_tests)

called_there : (preds : List Pred) (p : ℕ) (q : layer.Term-F Term) → option_map_or (λ pred. calls_pred pred q) (slice_get preds p) false ≡ true → (p < length preds) × (calls_pred (slice_index_or preds p no_pred) q ≡ true)
called_there [] p q e = absurd (true≢false (sym e))
called_there (pred ∷ preds) zero q e = (omega arith, e)
called_there (pred ∷ preds) (suc p) q e = let found = called_there preds p q e in let less = found.0 in (omega (arith, less), found.1)

arity_is : (pred : Pred) (q : layer.Term-F Term) → calls_pred pred q ≡ true → pred.arity ≡ length (parts_of q)
arity_is pred (layer.Var v) e = absurd (true≢false (sym e))
arity_is pred (layer.Int n) e = absurd (true≢false (sym e))
arity_is pred (layer.Atom a) e = eq_of pred.arity 0 (and_parts (a == pred.name) (pred.arity == 0) e).1
arity_is pred (layer.Node f ts) e = eq_of pred.arity (length ts) (and_parts (f == pred.name) (pred.arity == length ts) e).1

-- the arguments of a query, by its cell

length-places : (first count : ℕ) → length (places first count) ≡ count
length-places first zero = refl
length-places first (suc count) = ap suc (length-places (suc first) count)

row_parts : (value : ℕ → Term) (at : ℕ) (c : Cell) (q : Term) → IsEnd c → q ≡ cell_term value at c → parts_of (out-Term q) ≡ map value (places (arguments_row c).first (arguments_row c).count)
row_parts value at cell.Free q end e = ap (λ t. parts_of (out-Term t)) e ∙ ap parts_of (outs-Var at)
row_parts value at (cell.Ref to) q end e = absurd end
row_parts value at (cell.Int n) q end e = ap (λ t. parts_of (out-Term t)) e ∙ ap parts_of (outs-Int n)
row_parts value at (cell.Atom a) q end e = ap (λ t. parts_of (out-Term t)) e ∙ ap parts_of (outs-Atom a)
row_parts value at (cell.Node f count first) q end e = ap (λ t. parts_of (out-Term t)) e ∙ ap parts_of (outs-Node f (map value (places first count)))

row_within : (n : ℕ) (c : Cell) → NamesBelow n c → (arguments_row c).first + (arguments_row c).count ≤ n
row_within n cell.Free below = omega arith
row_within n (cell.Ref to) below = omega arith
row_within n (cell.Int k) below = omega arith
row_within n (cell.Atom a) below = omega arith
row_within n (cell.Node f count first) below = below

-- the query's cells

same_first : (a b : Term) → (a ∷ []) ≡ (b ∷ []) → a ≡ b
same_first a b e = cc

no_more : (v : ℕ) → v + 0 ≡ v
no_more v = omega arith

pub query_placed : (query : Term) (n s : ℕ) → n ≡ above query → IsPlaced (size_of (Grows (replicate n Free) s ∷ [])) 0 query
query_placed query n s is = let counted : length (replicate n Free) ≡ n = length-replicate n Free in placed_by n (length (replicate n Free)) 0 (omega (arith, counted)) query (omega (arith, is))

module _ (clauses : ClausesEnter) (query : Term) (n s at : ℕ) (fresh heap : History) (is_fresh : fresh.changes ≡ Grows (replicate n Free) s ∷ []) (many : n ≡ above query) (loaded : HasLoaded fresh 0 (query ∷ []) at heap) where
  pub query_value : value_of heap.changes at ≡ query
  query_value =
      let free : value_of fresh.changes ≡ Var = ap value_of is_fresh ∙ clauses.free [] n s tt in
      same_first (value_of heap.changes at) (instance (from_base (value_of fresh.changes) 0) query) loaded.are_terms
      ∙ ap (λ w. instance (from_base w 0) query) free
      ∙ (λ i. instance (λ v. Var (no_more v i)) query)
      ∙ instance-itself query

  pub enough_cells : above query ≤ size_of heap.changes
  enough_cells =
      let counted : length (replicate n Free) ≡ n = length-replicate n Free in
      let size : size_of fresh.changes ≡ length (replicate n Free) = ap size_of is_fresh in
      let grown : size_of fresh.changes ≤ size_of heap.changes =
      subst (λ cs. size_of fresh.changes ≤ size_of cs) (sym (ap (λ h. h.changes) loaded.is_new)) (sizes_stay (Grows loaded.cells (next_serial fresh.last) ∷ []) fresh.changes) in
      omega (arith, counted, size, grown, many)

module _ (found : LeanerStatesAreFound) (program : Program) (is : IsProgram program) (pred : ℕ) (query : Term) (called : called_by program query ≡ Some pred) (e : code.Engine) (root : ℕ) (same_program : e.program.now ≡ program) (has_index : e.index ≡ program_keys program)
    (no_links : e.links.items ≡ []) (no_notes : e.notes.items ≡ []) (no_points : e.points.items ≡ []) (no_calls : e.calls ≡ 0) (made : IsMade e.heap.changes) (at_there : e.query < size_of e.heap.changes)
    (there : root < size_of e.heap.changes) (end : IsEnd (cell_at (cells_of e.heap.changes) root)) (value_is : value_of e.heap.changes e.query ≡ query) (root_is : value_of e.heap.changes root ≡ value_of e.heap.changes e.query)
    (enough : above query ≤ size_of e.heap.changes) where
  abbrev changes : List Change
  changes = e.heap.changes

  abbrev value : ℕ → Term
  value = value_of changes

  abbrev its_cell : Cell
  its_cell = cell_at (cells_of changes) root

  abbrev args_row : Row
  args_row = arguments_row its_cell

  abbrev to : State
  to = as_state (as_engine e) (Doing (call_frame e pred args_row 0 nowhere 0))

  parts_are : parts_of (out-Term query) ≡ map value (places args_row.first args_row.count)
  parts_are = row_parts value root its_cell query end (sym (root_is ∙ value_is) ∙ fits changes root made there)

  state_is : record (start_of pred query) { fresh = size_of changes } ≡ to
  state_is =
      let links = sym no_links in
      let notes = sym no_notes in
      let points = sym no_points in
      λ i. record {
        calls = sym no_calls i;
        fresh = size_of changes;
        choices = choices_of changes (as_links (notes i) (links i)) e.query (as_points e.index (notes i) (points i));
        current = Doing (record { items = Does (goal.Call pred (parts_are i)) 0 nowhere ∷ map (item_of value) (chain (as_links (notes i) (links i)) 0); query = sym value_is i });
      }

  same : IsLeaner program (start_of pred query) to
  same = subst (IsLeaner program (start_of pred query)) state_is ((found program is).start pred query (size_of changes) enough)

  kept : IsKept e
  kept = record {
    in_range = subst IsProgram (sym same_program) is;
    indexed = has_index ∙ ap program_keys (sym same_program);
    counted = subst (λ ps. AreCounted (as_points e.index e.notes.items ps)) (sym no_points) tt;
    moments = subst (λ ps. Moments e.program.now e.query changes (length e.notes.items) (reverse e.links.items) (reverse ps)) (sym no_points)
        (subst (λ ls. Moments e.program.now e.query changes (length e.notes.items) (reverse ls) []) (sym no_links) (at_there, tt));
  }

  placed : IsCallPlaced program (size_of changes) pred args_row
  placed =
      let found_pred = called_there program.preds pred (out-Term query) (found_one (is_called program query) program.exports pred called) in
      let arity : (pred_of program pred).arity ≡ length (parts_of (out-Term query)) = arity_is (pred_of program pred) (out-Term query) found_pred.1 in
      record {
        there = lt_of pred (length program.preds) found_pred.0;
        count = sym (arity ∙ ap length parts_are ∙ length-map (places args_row.first args_row.count) value ∙ length-places args_row.first args_row.count);
        within = row_within (size_of changes) its_cell (names_in changes root made there);
      }

  pub started : HasStarted program pred query e (stage.Calling pred args_row 0 nowhere 0)
  started = record {
    program_is = same_program;
    same = same;
    whole = record {
      kept = kept;
      own = subst (λ p. IsLeaner p to to) (sym same_program) ((found program is).own (start_of pred query) to same);
      in_hand = (subst (λ p. IsCallPlaced p (size_of changes) pred args_row) (sym same_program) placed, omega arith);
    };
  }

-- The clauses of a call that can match, by its first argument.
use Rattle.std.proofs.Common.{◌≡◌, ◌-◌, ℕ, zero, suc, List, [], ◌∷◌, map, filter, length, refl, sym, ap, ◌∙◌, arith}
use Rattle.std.specs.Prelude.{slice_index_or}
use Rattle.std.proofs.lemmas.List.{length-map}
use Rattle.term_core.specs.declared.terms.Term.{Term, out-Term}
use Rattle.prog_data.specs.declared.programs.Program.{Program}
use Rattle.prog_data.specs.Goals.{pred_of}
use Rattle.machine_model.specs.State.{Call}
use Rattle.machine_model.specs.LeanerLaws.{OthersCannotMatch}
use Rattle.clause_index.specs.declared.keys.Key.{Key}
use Rattle.clause_index.specs.declared.keys.Key.TheVariants as key
use Rattle.clause_index.specs.Keys.{key_at, first_key}
use Rattle.clause_index.specs.Selected.{numbers, selected, keys_at, program_keys, can_match}
use Rattle.clause_index.specs.Laws.{SelectsInOrder, LeftOutClash}
use Rattle.term_heap.specs.declared.cells.Cell.{Cell}
use Rattle.term_heap.specs.declared.cells.Cell.TheVariants as cell
use Rattle.term_heap.specs.Changes.{Change, value_of, places, IsEnd}
use Rattle.prop_check.specs.Places.{row_at}
use Rattle.engine_state.specs.Selections.{selected_at, clauses_left}
use Rattle.engine_moves.specs.BuiltinEffects.{IsCellOf}
use Rattle.engine_moves.specs.Choosing.{cell_key}
use Rattle.engine_moves.proofs.KindLaws.{cell_layer, layer_is}

-- keys of cells

length-places : (first count : ℕ) → length (places first count) ≡ count
length-places first zero = refl
length-places first (suc count) = ap suc (length-places (suc first) count)

layer_key : (value : ℕ → Term) (root : ℕ) (c : Cell) → IsEnd c → cell_key c ≡ key_at (cell_layer value root c)
layer_key value root cell.Free ends = refl
layer_key value root (cell.Ref to) ends = absurd ends
layer_key value root (cell.Int n) ends = refl
layer_key value root (cell.Atom a) ends = refl
layer_key value root (cell.Node f count first) ends = ap (key.Node f) (sym (length-map (places first count) value ∙ length-places first count))

cell_says : (h : List Change) (place : ℕ) (c : Cell) → IsCellOf h place c → cell_key c ≡ key_at (out-Term (value_of h place))
cell_says h place c says = layer_key (value_of h) says.root c says.ends ∙ sym (ap (λ t. key_at (out-Term t)) says.is ∙ ap key_at (layer_is (value_of h) says.root c))

pub no_first : (h : List Change) (first count : ℕ) → count ≡ 0 → key.Free ≡ first_key (row_at h first count)
no_first h first zero none = refl
no_first h first (suc count) none = absurd (omega (arith, none))

pub first_says : (h : List Change) (first count : ℕ) (c : Cell) → (count ≡ 0 → ⊥) → IsCellOf h first c → cell_key c ≡ first_key (row_at h first count)
first_says h first zero c some says = absurd (some refl)
first_says h first (suc count) c some says = cell_says h first c says

-- clauses that are selected

numbers_are : (first count : ℕ) → numbers first count ≡ places first count
numbers_are first zero = refl
numbers_are first (suc count) = ap (λ ns. first ∷ ns) (numbers_are (suc first) count)

shifted : (f : ℕ → ℕ) (first count : ℕ) → map f (places (suc first) count) ≡ map (λ i. f (suc i)) (places first count)
shifted f first zero = refl
shifted f first (suc count) = ap (λ ns. f (suc first) ∷ ns) (shifted f (suc first) count)

-- the elements at all places are the list
all_there : (xs : List ℕ) → map (λ i. slice_index_or xs i 0) (places 0 (length xs)) ≡ xs
all_there [] = refl
all_there (x ∷ xs) = ap (λ ns. x ∷ ns) (shifted (λ i. slice_index_or (x ∷ xs) i 0) 0 (length xs) ∙ all_there xs)

-- those from the first on are the ones that can match
pub all_left : SelectsInOrder → (program : Program) (index : List (List Key)) (p : ℕ) (k : Key) (count : ℕ) → index ≡ program_keys program → count ≡ length (selected_at index p k) →
    clauses_left index p k 0 count ≡ filter (can_match program p k) (places 0 (length (pred_of program p).clauses))
all_left law program index p k count is many =
    let whole : count - 0 ≡ length (selected_at index p k) = omega (arith, many) in
    ap (λ n. map (λ i. slice_index_or (selected_at index p k) i 0) (places 0 n)) whole
    ∙ all_there (selected_at index p k)
    ∙ ap (λ keys. selected (keys_at keys p) k) is
    ∙ law program p k
    ∙ ap (filter (can_match program p k)) (numbers_are 0 (length (pred_of program p).clauses))

-- the others cannot match
pub others_out : LeftOutClash → (program : Program) (call : Call) → OthersCannotMatch program (can_match program call.pred (first_key call.args)) 0 (length (pred_of program call.pred).clauses) call
others_out law program call = λ k from lt out.
    let clash = law program call.pred k call.args (omega (arith, lt)) out in
    record {
      clause = clash.clause;
      is_there = clash.is_there;
      arg = clash.arg;
      head = clash.head;
      args = clash.other_args;
      heads = clash.heads;
      args_are = clash.args_are;
      head_is = clash.head_is;
      clashes = clash.clashes;
    }

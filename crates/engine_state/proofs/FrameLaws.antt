-- What new values do to frames, and what free cells are.
use Rattle.std.proofs.Common.{◌≡◌, ◌≤◌, ℕ, zero, suc, ◌+◌, ◌⊎◌, inl, inr, List, [], ◌∷◌, map, length, replicate, refl, sym, ap, ◌∙◌, arith}
use Rattle.std.specs.Prelude.{if◌then◌else◌}
use Rattle.std.proofs.lemmas.Bool.{cases_eq, eq-eqb, ne_eqb}
use Rattle.std.proofs.lemmas.List.{length-set, length-append}
use Rattle.term_core.specs.declared.terms.Term.{Term, Var}
use Rattle.term_core.specs.Terms.{instance, higher, rename, replace}
use Rattle.term_core.proofs.TermLaws.{map_map}
use Rattle.term_core.proofs.Occurrences.{replace-Var}
use Rattle.prog_data.specs.declared.goals.Goal.{Goal}
use Rattle.prog_data.specs.Goals.{goal_instance}
use Rattle.machine_model.specs.State.{Does, Exits, item_instance, frame_instance}
use Rattle.term_heap.specs.declared.cells.Cell.{Cell}
use Rattle.term_heap.specs.declared.cells.Cell.TheVariants.{Free, Ref}
use Rattle.term_core.specs.Solutions.{with_value}
use Rattle.term_heap.specs.Changes.{Change, Grows, Binds, cells_of, size_of, value_of, grown, cell_term, places, IsMade}
use Rattle.term_heap.specs.Loads.{from_base}
use Rattle.engine_state.specs.Engines.{Task, Runs, Cuts, Leaves, item_of, frame_with}
use Rattle.engine_state.proofs.GoalInstances.{goal_instance-instance}

-- values that are instances of others

module _ (value old new : ℕ → Term) (is_new : (i : ℕ) → new i ≡ instance value (old i)) where
  same_item : (task : Task) → item_of new task ≡ item_instance value (item_of old task)
  same_item (Runs g base h place) =
      ap (λ x. Does x h place) ((λ i. goal_instance (λ v. is_new (v + base) i) g) ∙ sym (goal_instance-instance value (from_base old base) g))
  same_item (Cuts h) = refl
  same_item (Leaves e) =
      ap (λ ts. Exits e.pred ts e.noted e.mark) ((λ i. map (λ v. is_new v i) (places e.first e.count)) ∙ sym (map_map (instance value) old (places e.first e.count)))

  same_items : (tasks : List Task) → map (item_of new) tasks ≡ map (item_instance value) (map (item_of old) tasks)
  same_items [] = refl
  same_items (task ∷ tasks) = λ i. same_item task i ∷ same_items tasks i

  pub frame_bound : (tasks : List Task) (query : ℕ) → frame_with new tasks query ≡ frame_instance value (frame_with old tasks query)
  frame_bound tasks query = λ i. record { items = same_items tasks i; query = is_new query i }

-- free cells

-- a place that is not there is its own variable
grown_past : (value : ℕ → Term) (n : ℕ) (cells : List Cell) (i : ℕ) → n + length cells ≤ i → grown value n cells i ≡ value i
grown_past value n [] i le = refl
grown_past value n (c ∷ cs) i le =
    grown_past (with_value value n (cell_term value n c)) (suc n) cs i (omega (arith, le)) ∙ ap (λ b. if b then cell_term value n c else value i) (ne_eqb i n (λ e. omega (arith, e, le)))

pub value_past : (changes : List Change) (i : ℕ) → IsMade changes → size_of changes ≤ i → value_of changes i ≡ Var i
value_past [] i made le = refl
value_past (Grows cells s ∷ older) i made le =
    let sizes = length-append (cells_of older) cells in
    grown_past (value_of older) (size_of older) cells i (omega (arith, le, sizes)) ∙ value_past older i made.1 (omega (arith, le, sizes))
value_past (Binds at to s ∷ older) i made le =
    let before : size_of older ≤ i = omega (arith, le, length-set (cells_of older) at (Ref to)) in
    ap (replace at (value_of older to)) (value_past older i made.1 before)
    ∙ replace-Var at (value_of older to) i ∙ ap (λ b. if b then value_of older to else Var i) (ne_eqb at i (λ e. omega (arith, e, made.0.bound, before)))

-- free cells give each place the value that it has
frees_same : (value : ℕ → Term) (n count : ℕ) → ((i : ℕ) → n ≤ i → value i ≡ Var i) → (i : ℕ) → grown value n (replicate count Free) i ≡ value i
frees_same value n zero past i = refl
frees_same value n (suc count) past i =
    frees_same (with_value value n (Var n)) (suc n) count (λ k le. at_place k (cases_eq k n) ∙ past k (omega (arith, le))) i ∙ at_place i (cases_eq i n) where
      at_place : (k : ℕ) → (k ≡ n) ⊎ (k ≡ n → ⊥) → with_value value n (Var n) k ≡ value k
      at_place k (inl e) = ap (λ b. if b then Var n else value k) (eq-eqb k n e) ∙ ap Var (sym e) ∙ sym (past k (omega (arith, e)))
      at_place k (inr ne) = ap (λ b. if b then Var n else value k) (ne_eqb k n ne)

pub fresh_same : (changes : List Change) (count s i : ℕ) → IsMade changes → value_of (Grows (replicate count Free) s ∷ changes) i ≡ value_of changes i
fresh_same changes count s i made = frees_same (value_of changes) (size_of changes) count (λ k le. value_past changes k made le) i

-- the new variables of a clause are the new cells
new_variable : (changes : List Change) (count s v : ℕ) → IsMade changes → higher (size_of changes) v ≡ from_base (value_of (Grows (replicate count Free) s ∷ changes)) (size_of changes) v
new_variable changes count s v made = sym (fresh_same changes count s (v + size_of changes) made ∙ value_past changes (v + size_of changes) made (omega arith))

pub new_head : (changes : List Change) (count s : ℕ) (t : Term) → IsMade changes →
    rename (size_of changes) t ≡ instance (from_base (value_of (Grows (replicate count Free) s ∷ changes)) (size_of changes)) t
new_head changes count s t made = λ i. instance (λ v. new_variable changes count s v made i) t

pub new_body : (changes : List Change) (count s : ℕ) (g : Goal) → IsMade changes →
    goal_instance (higher (size_of changes)) g ≡ goal_instance (from_base (value_of (Grows (replicate count Free) s ∷ changes)) (size_of changes)) g
new_body changes count s g made = λ i. goal_instance (λ v. new_variable changes count s v made i) g

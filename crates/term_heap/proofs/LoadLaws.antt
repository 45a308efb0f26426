-- Cells of a term, with the blocks of its compounds before them.
use Rattle.std.proofs.Common.{◌≡◌, ◌<◌, ◌≤◌, ℕ, suc, ◌+◌, List, [], ◌∷◌, ◌++◌, map, length, take, get_or, zero, refl, sym, ap, ◌∙◌, subst, arith}
use Rattle.std.specs.Prelude.{true, Result, Ok, Err, OnErr}
use Rattle.std.specs.List.{AllByRecursion, list_any}
use Rattle.std.proofs.lemmas.List.{length-append, length-map, map-append, append_assoc, append-nil, take_more}
use Rattle.std.proofs.lemmas.Bool.{or_left, or_right, eq-eqb}
use Rattle.term_core.specs.declared.terms.Term.{Term, Var, Node}
use Rattle.term_core.specs.Solutions.{with_value}
use Rattle.term_core.specs.Terms.{instance, occurs}
use Rattle.term_core.specs.Sizes.{size, size_step, size_all}
use Rattle.term_core.proofs.TermFolds.{fold_at_node}
use Rattle.term_core.proofs.TermLaws.{instance_agrees, instance-Node, instance-Var, with_other, with_same}
use Rattle.term_core.proofs.Occurrences.{occurs-Node, occurs-Var}
use Rattle.term_core.specs.Lists.{IsPrefix}
use Rattle.term_heap.specs.declared.cells.Cell.{Cell}
use Rattle.term_heap.specs.declared.cells.Cell.TheVariants as cell
use Rattle.term_heap.specs.Changes.{cell_term, grown, places, NamesBelow, NameBelow}
use Rattle.term_heap.specs.Loads.{IsPlaced, from_base, RowIs, IsLoaded, AreLoaded, IsBlock}
use Rattle.term_heap.proofs.ValueLaws.{grown_below, cell_term_same, names_more}

pub grown_append : (value : ℕ → Term) (n m : ℕ) (xs ys : List Cell) → m ≡ n + length xs → grown value n (xs ++ ys) ≡ grown (grown value n xs) m ys
grown_append value n m [] ys e = ap (λ k. grown value k ys) (omega (arith, e))
grown_append value n m (x ∷ xs) ys e = grown_append (with_value value n (cell_term value n x)) (suc n) m xs ys (omega (arith, e))

pub names_append : (n m : ℕ) (xs ys : List Cell) → m ≡ n + length xs → NameBelow n xs → NameBelow m ys → NameBelow n (xs ++ ys)
names_append n m [] ys e h k = subst (λ j. NameBelow j ys) (omega (arith, e)) k
names_append n m (x ∷ xs) ys e h k = (h.0, names_append (suc n) m xs ys (omega (arith, e)) h.1 k)

-- cells that name only places below one that is not above theirs
pub names_row : (m n : ℕ) (row : List Cell) → m ≤ n → AllByRecursion (NamesBelow m) row → NameBelow n row
names_row m n [] le h = tt
names_row m n (c ∷ row) le h = (names_more m n c le h.0, names_row m (suc n) row (omega (arith, le)) h.1)

pub row_same : (v w : ℕ → Term) (m : ℕ) (row : List Cell) (ts : List Term) → ((i : ℕ) → i < m → v i ≡ w i) → AllByRecursion (NamesBelow m) row → RowIs v row ts → RowIs w row ts
row_same v w m [] [] agree h is = tt
row_same v w m [] (t ∷ ts) agree h is = absurd is
row_same v w m (c ∷ row) [] agree h is = absurd is
row_same v w m (c ∷ row) (t ∷ ts) agree h is = ((λ at. sym (cell_term_same v w m at c agree h.0) ∙ is.0 at), row_same v w m row ts agree h.1 is.1)

pub row_more : (v : ℕ → Term) (row : List Cell) (ts : List Term) (c : Cell) (t : Term) → RowIs v row ts → ((at : ℕ) → cell_term v at c ≡ t) → RowIs v (row ++ c ∷ []) (ts ++ t ∷ [])
row_more v [] [] c t is h = (h, tt)
row_more v [] (u ∷ ts) c t is h = absurd is
row_more v (d ∷ row) [] c t is h = absurd is
row_more v (d ∷ row) (u ∷ ts) c t is h = (is.0, row_more v row ts c t is.1 h)

-- a block's places have the terms of its row
pub row_terms : (value : ℕ → Term) (m n : ℕ) (row : List Cell) (ts : List Term) → m ≤ n → AllByRecursion (NamesBelow m) row → RowIs value row ts → map (grown value n row) (places n (length row)) ≡ ts
row_terms value m n [] [] le h is = refl
row_terms value m n [] (t ∷ ts) le h is = absurd is
row_terms value m n (c ∷ row) [] le h is = absurd is
row_terms value m n (c ∷ row) (t ∷ ts) le h is =
    let w : ℕ → Term = with_value value n (cell_term value n c) in
    let first : grown w (suc n) row n ≡ t = grown_below w (suc n) row n (omega arith) ∙ with_same value n (cell_term value n c) ∙ is.0 n in
    let rest : map (grown w (suc n) row) (places (suc n) (length row)) ≡ ts =
    row_terms w m (suc n) row ts (omega (arith, le)) h.1 (row_same value w m row ts (λ i lt. sym (with_other value n (cell_term value n c) i (λ e. omega (arith, e, lt, le)))) h.1 is.1) in
    λ i. first i ∷ rest i

-- new cells are not seen by a term whose variables are below them
pub based_same : (value : ℕ → Term) (n base : ℕ) (more : List Cell) (t : Term) → IsPlaced n base t → instance (from_base (grown value n more) base) t ≡ instance (from_base value base) t
based_same value n base more t placed = instance_agrees (from_base (grown value n more) base) (from_base value base) t (λ v o. grown_below value n more (v + base) (placed v o))

names_all : (m n : ℕ) (row : List Cell) → m ≤ n → AllByRecursion (NamesBelow m) row → AllByRecursion (NamesBelow n) row
names_all m n [] le h = tt
names_all m n (c ∷ row) le h = (names_more m n c le h.0, names_all m n row le h.1)

all_joined : (P : Cell → Type 0) (xs ys : List Cell) → AllByRecursion P xs → AllByRecursion P ys → AllByRecursion P (xs ++ ys)
all_joined P [] ys h k = k
all_joined P (x ∷ xs) ys h k = (h.0, all_joined P xs ys h.1 k)

pub loaded_none : (old : List Cell) (base : ℕ) → AreLoaded old base [] old []
loaded_none old base = record { more = []; is_new = sym (append-nil old); names = tt; below = tt; are_terms = λ value. tt }

-- one more term
pub loaded_more : (old mid new : List Cell) (base : ℕ) (ts : List Term) (t : Term) (row : List Cell) (c : Cell) → IsPlaced (length old) base t →
    AreLoaded old base ts mid row → IsLoaded mid base t new c → AreLoaded old base (ts ++ t ∷ []) new (row ++ c ∷ [])
loaded_more old mid new base ts t row c placed are is =
    let sizes : length mid ≡ length old + length are.more = ap length are.is_new ∙ length-append old are.more in
    let longer : length new ≡ length mid + length is.more = ap length is.is_new ∙ length-append mid is.more in
    let both : (value : ℕ → Term) → grown value (length old) (are.more ++ is.more) ≡ grown (grown value (length old) are.more) (length mid) is.more =
    λ value. grown_append value (length old) (length mid) are.more is.more sizes in
    record {
      more = are.more ++ is.more;
      is_new = is.is_new ∙ ap (λ cs. cs ++ is.more) are.is_new ∙ append_assoc old are.more is.more;
      names = names_append (length old) (length mid) are.more is.more sizes are.names is.names;
      below = all_joined (NamesBelow (length new)) row (c ∷ []) (names_all (length mid) (length new) row (omega (arith, longer)) are.below) (is.below, tt);
      are_terms = λ value.
          let v : ℕ → Term = grown value (length old) are.more in
          subst (λ w. RowIs w (row ++ c ∷ []) (map (instance (from_base value base)) (ts ++ t ∷ []))) (sym (both value))
          (subst (RowIs (grown v (length mid) is.more) (row ++ c ∷ [])) (sym (map-append (instance (from_base value base)) ts (t ∷ [])))
          (row_more (grown v (length mid) is.more) row (map (instance (from_base value base)) ts) c (instance (from_base value base) t)
          (row_same v (grown v (length mid) is.more) (length mid) row (map (instance (from_base value base)) ts) (λ i lt. sym (grown_below v (length mid) is.more i lt)) are.below (are.are_terms value))
          (λ at. is.is_term v at ∙ based_same value (length old) base are.more t placed)));
    }

row_length : (v : ℕ → Term) (row : List Cell) (ts : List Term) → RowIs v row ts → length row ≡ length ts
row_length v [] [] is = refl
row_length v [] (t ∷ ts) is = absurd is
row_length v (c ∷ row) [] is = absurd is
row_length v (c ∷ row) (t ∷ ts) is = ap suc (row_length v row ts is.1)

-- a block, which comes last
pub block_made : (old mid new : List Cell) (base : ℕ) (ts : List Term) (row : List Cell) (first : ℕ) → AreLoaded old base ts mid row → new ≡ mid ++ row → first ≡ length mid → IsBlock old base ts new first
block_made old mid new base ts row first are is_new is_first =
    let sizes : length mid ≡ length old + length are.more = ap length are.is_new ∙ length-append old are.more in
    let count : length row ≡ length ts = row_length (grown Var (length old) are.more) row _ (are.are_terms Var) ∙ length-map ts (instance (from_base Var base)) in
    record {
      more = are.more ++ row;
      is_new = is_new ∙ ap (λ cs. cs ++ row) are.is_new ∙ append_assoc old are.more row;
      names = names_append (length old) (length mid) are.more row sizes are.names (names_row (length mid) (length mid) row (omega arith) are.below);
      within = omega (arith, count, is_first, ap length is_new, length-append mid row);
      are_terms = λ value.
          let v : ℕ → Term = grown value (length old) are.more in
          (λ i. map (grown_append value (length old) (length mid) are.more row sizes i) (places (is_first i) (sym count i)))
          ∙ row_terms v (length mid) (length mid) row (map (instance (from_base value base)) ts) (omega arith) are.below (are.are_terms value);
    }

-- a compound behind the block of its parts
pub node_loaded : (old new : List Cell) (base f : ℕ) (ts : List Term) (count first : ℕ) → IsBlock old base ts new first → count ≡ length ts → IsLoaded old base (Node f ts) new (cell.Node f count first)
node_loaded old new base f ts count first block is_count = record {
  more = block.more;
  is_new = block.is_new;
  names = block.names;
  below = omega (arith, block.within, is_count);
  is_term = λ value at.
      ap (λ n. Node f (map (grown value (length old) block.more) (places first n))) is_count ∙ ap (Node f) (block.are_terms value) ∙ sym (instance-Node (from_base value base) f ts);
}

-- a cell that names a place that is there, with no new cells
pub none_loaded : (old : List Cell) (base : ℕ) (t : Term) (c : Cell) → NamesBelow (length old) c → ((value : ℕ → Term) (at : ℕ) → cell_term value at c ≡ instance (from_base value base) t) → IsLoaded old base t old c
none_loaded old base t c below is_term = record { more = []; is_new = sym (append-nil old); names = tt; below = below; is_term = is_term }

-- the variables of the parts of a compound
pub placed_parts : (size base f : ℕ) (ts : List Term) → IsPlaced size base (Node f ts) → AllByRecursion (IsPlaced size base) ts
placed_parts size base f ts placed = each ts (λ v o. placed v (occurs-Node v f ts ∙ o)) where
  each : (ts : List Term) → ((v : ℕ) → list_any (λ b. b) (map (occurs v) ts) ≡ true → v + base < size) → AllByRecursion (IsPlaced size base) ts
  each [] h = tt
  each (t ∷ ts) h = ((λ v o. h v (or_left (occurs v t) _ o)), each ts (λ v o. h v (or_right (occurs v t) _ o)))

-- one of the terms at a loop's turn
pub placed_at : (m n base i : ℕ) (ts : List Term) (t : Term) → AllByRecursion (IsPlaced m base) ts → m ≤ n → i < length ts → t ≡ get_or ts i t → IsPlaced n base t
placed_at m n base i [] t placed le lt e = absurd (omega (arith, lt))
placed_at m n base zero (u ∷ ts) t placed le lt e = λ v o. omega (arith, le, placed.0 v (ap (occurs v) (sym e) ∙ o))
placed_at m n base (suc i) (u ∷ ts) t placed le lt e = placed_at m n base i ts t placed.1 le (omega (arith, lt)) e

-- a variable
pub placed_var : (size base v : ℕ) (t : Term) → t ≡ Var v → IsPlaced size base t → v + base < size
placed_var size base v t e placed = placed v (ap (occurs v) e ∙ occurs-Var v v ∙ eq-eqb v v refl)

pub var_loaded : (old : List Cell) (base v : ℕ) (t : Term) → t ≡ Var v → IsPlaced (length old) base t → IsLoaded old base t old (cell.Ref (v + base))
var_loaded old base v t e placed =
    none_loaded old base t (cell.Ref (v + base)) (placed_var (length old) base v t e placed) (λ value at. sym (ap (instance (from_base value base)) e ∙ instance-Var (from_base value base) v))

-- one more term, at a loop's turn
pub loaded_turn : (old mid new : List Cell) (base i : ℕ) (ts : List Term) (t : Term) (row : List Cell) (c : Cell) → AllByRecursion (IsPlaced (length old) base) ts → i < length ts → t ≡ get_or ts i t →
    AreLoaded old base (take i ts) mid row → IsLoaded mid base t new c → AreLoaded old base (take (i + 1) ts) new (row ++ c ∷ [])
loaded_turn old mid new base i ts t row c placed lt e are is =
    subst (λ us. AreLoaded old base us new (row ++ c ∷ [])) (sym (take_more ts i t lt ∙ ap (λ u. take i ts ++ u ∷ []) (sym e)))
    (loaded_more old mid new base (take i ts) t row c (placed_at (length old) (length old) base i ts t placed (omega arith) lt e) are is)

-- the old cells begin the new ones
pub size_grown : (old mid row : List Cell) (base : ℕ) (ts : List Term) → AreLoaded old base ts mid row → length old ≤ length mid
size_grown old mid row base ts are = omega (arith, ap length are.is_new, length-append old are.more)

pub prefix_grown : (old mid new row : List Cell) (base : ℕ) (ts : List Term) → AreLoaded old base ts mid row → IsPrefix mid new → IsPrefix old new
prefix_grown old mid new row base ts are front = (are.more ++ front.0, sym (append_assoc old are.more front.0) ∙ ap (λ cs. cs ++ front.0) (sym are.is_new) ∙ front.1)

pub prefix_loaded : (old mid new row : List Cell) (base : ℕ) (ts : List Term) (t : Term) (c : Cell) → AreLoaded old base ts mid row → IsLoaded mid base t new c → IsPrefix old new
prefix_loaded old mid new row base ts t c are is = prefix_grown old mid new row base ts are (is.more, sym is.is_new)

-- sizes, for measures
pub size_node : (f : ℕ) (t : Term) (ts us : List Term) → t ≡ Node f ts → us ≡ ts → size t ≡ size_all us + 1
size_node f t ts us e same = fold_at_node ℕ size_step t f ts e ∙ ap (λ xs. size_all xs + 1) (sym same)

pub size_at : (i : ℕ) (ts : List Term) (t : Term) → i < length ts → t ≡ get_or ts i t → size t ≤ size_all ts
size_at i [] t lt e = absurd (omega (arith, lt))
size_at zero (u ∷ ts) t lt e = omega (arith, ap size e)
size_at (suc i) (u ∷ ts) t lt e = omega (arith, size_at i ts t (omega (arith, lt)) e)

-- what holds where memory is refused
pub on_err : {A E P : Type 0} (r : Result A E) → P → OnErr r P
on_err (Ok a) p = tt
on_err (Err e) p = p

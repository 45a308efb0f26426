-- What cells say of the terms of their places, and the parts of a compound in cells.
use Rattle.std.proofs.Common.{◌≡◌, ◌⊎◌, inl, inr, ◌<◌, ◌≤◌, ℕ, zero, suc, ◌+◌, Bool, true, false, List, [], ◌∷◌, ◌++◌, length, map, take, get_or, slice_get, refl, sym, ap, ◌∙◌, subst, arith}
use Rattle.std.specs.Prelude.{Some, None, ℤ}
use Rattle.term_core.specs.declared.terms.Term.{Term, out-Term, Node}
use Rattle.term_core.specs.declared.terms.Term.TheVariants.{outs-Var, outs-Int, outs-Atom, outs-Node}
use Rattle.term_core.specs.Terms.{is_variable}
use Rattle.term_core.specs.Sizes.{size, size_step, size_all}
use Rattle.term_core.proofs.TermFolds.{fold-Var, fold-Int, fold-Atom, fold-Node}
use Rattle.term_heap.specs.declared.cells.Cell.{Cell}
use Rattle.term_heap.specs.declared.cells.Cell.TheVariants as cell
use Rattle.term_heap.specs.Changes.{Change, cells_of, cell_at, size_of, value_of, cell_term, places, IsMade, IsEnd, NamesBelow}
use Rattle.term_heap.proofs.ValueLaws.{fits, names_in}
use Rattle.prog_data.specs.declared.grammars.Rule.{Rule}
use Rattle.prog_data.specs.declared.grammars.Grammar.{Grammar}
use Rattle.prog_data.specs.Membership.{rules_of, admits, admits_step, belongs}
use Rattle.prog_data.proofs.Leaves.{In}
use Rattle.prop_check.specs.declared.looks.Parts.{Parts}
use Rattle.prop_check.specs.declared.heads.Head.{Head}
use Rattle.prop_check.specs.declared.heads.Head.TheVariants as head
use Rattle.prop_check.specs.Heads.{cell_head}
use Rattle.prop_check.specs.Places.{row_at, compound_at, HasArgument, Says, HasLast, HasNoLast}
use Rattle.prop_check.specs.Sets.{Fits, IsClosed, head_holds}
use Rattle.prop_check.specs.OneOf.{SomeBelongs, SomeRule, AreLed, is_whole, AsksLast}
use Rattle.prop_check.proofs.ToldLaws.{node_told}
use Rattle.prop_check.proofs.OneOfLaws.{from_rule, a_rule, whole_some}

-- the cell at the end of references says what the term of their place is
pub says : (h : List Change) (place root : ℕ) (c : Cell) → IsMade h → root < size_of h → IsEnd (cell_at (cells_of h) root) → value_of h root ≡ value_of h place → c ≡ cell_at (cells_of h) root → Says h (value_of h place) c
says h place root c made lt end same is =
    by c (subst IsEnd (sym is) end) (subst (NamesBelow (size_of h)) (sym is) (names_in h root made lt)) (sym same ∙ fits h root made lt ∙ ap (cell_term (value_of h) root) (sym is))
  where
    by : (c : Cell) → IsEnd c → NamesBelow (size_of h) c → value_of h place ≡ cell_term (value_of h) root c → Says h (value_of h place) c
    by cell.Free end names e = (root, e)
    by (cell.Ref to) end names e = end
    by (cell.Int n) end names e = e
    by (cell.Atom a) end names e = e
    by (cell.Node f count first) end names e = (e, names)

-- one that is no compound
pub no_parts : (c : Cell) → (c ≡ cell.Free) ⊎ (((x : ℕ) × (c ≡ cell.Ref x)) ⊎ (((x : ℤ) × (c ≡ cell.Int x)) ⊎ ((x : ℕ) × (c ≡ cell.Atom x)))) → HasNoLast c
no_parts cell.Free s = tt
no_parts (cell.Ref to) s = tt
no_parts (cell.Int n) s = tt
no_parts (cell.Atom a) s = tt
no_parts (cell.Node f count first) (inl e) = absurd cc
no_parts (cell.Node f count first) (inr (inl e)) = let q = e.1 in absurd cc
no_parts (cell.Node f count first) (inr (inr (inl e))) = let q = e.1 in absurd cc
no_parts (cell.Node f count first) (inr (inr (inr e))) = let q = e.1 in absurd cc

-- whether it is a variable

pub free_variable : (h : List Change) (t : Term) (c : Cell) → Says h t c → c ≡ cell.Free → true ≡ is_variable (out-Term t)
free_variable h t c said e = let s = subst (Says h t) e said in sym (ap (λ t. is_variable (out-Term t)) s.1 ∙ ap is_variable (outs-Var s.0))

pub no_variable : (h : List Change) (t : Term) (c : Cell) → Says h t c → (c ≡ cell.Free → ⊥) → false ≡ is_variable (out-Term t)
no_variable h t cell.Free said other = absurd (other refl)
no_variable h t (cell.Ref to) said other = absurd said
no_variable h t (cell.Int n) said other = sym (ap (λ t. is_variable (out-Term t)) said ∙ ap is_variable (outs-Int n))
no_variable h t (cell.Atom a) said other = sym (ap (λ t. is_variable (out-Term t)) said ∙ ap is_variable (outs-Atom a))
no_variable h t (cell.Node f count first) said other = sym (ap (λ t. is_variable (out-Term t)) said.0 ∙ ap is_variable (outs-Node f (row_at h first count)))

-- rows of places

module _ (value : ℕ → Term) where
  pub row_length : (first count : ℕ) → length (map value (places first count)) ≡ count
  row_length first zero = refl
  row_length first (suc count) = omega (arith, row_length (suc first) count)

  pub in_row : (first count i : ℕ) → i < count → slice_get (map value (places first count)) i ≡ Some (value (first + i))
  in_row first zero i lt = absurd (omega (arith, lt))
  in_row first (suc count) zero lt = let here : first ≡ first + 0 = omega arith in ap (λ k. Some (value k)) here
  in_row first (suc count) (suc i) lt = let over : suc first + i ≡ first + suc i = omega arith in in_row (suc first) count i (omega (arith, lt)) ∙ ap (λ k. Some (value k)) over

  pub past_row : (first count i : ℕ) → count ≤ i → slice_get (map value (places first count)) i ≡ None
  past_row first zero i le = refl
  past_row first (suc count) zero le = absurd (omega (arith, le))
  past_row first (suc count) (suc i) le = past_row (suc first) count i (omega (arith, le))

  pub at_row : (first count i : ℕ) → i < count → value (first + i) ≡ get_or (map value (places first count)) i (value (first + i))
  at_row first count i lt = read (map value (places first count)) i (value (first + i)) (in_row first count i lt)
    where
      read : (ts : List Term) (i : ℕ) (t : Term) → slice_get ts i ≡ Some t → t ≡ get_or ts i t
      read [] i t e = refl
      read (u ∷ ts) zero t e = sym cc
      read (u ∷ ts) (suc i) t e = read ts i t e

  pub last_in_row : (first others : ℕ) → map value (places first (suc others)) ≡ map value (places first others) ++ value (first + others) ∷ []
  last_in_row first zero = let here : first ≡ first + 0 = omega arith in ap (λ k. value k ∷ []) here
  last_in_row first (suc others) = let over : suc first + others ≡ first + suc others = omega arith in ap (λ ts. value first ∷ ts) (last_in_row (suc first) others ∙ ap (λ k. map value (places (suc first) others) ++ value k ∷ []) over)

pub argument_there : (h : List Change) (first count i : ℕ) → first + count ≤ size_of h → i < count → HasArgument h first count i (first + i)
argument_there h first count i within lt = (omega (arith, within, lt), in_row (value_of h) first count i lt)

pub take_all : (ts : List Term) (k : ℕ) → k ≡ length ts → take k ts ≡ ts
take_all [] zero e = refl
take_all [] (suc k) e = refl
take_all (t ∷ ts) zero e = absurd (omega (arith, e))
take_all (t ∷ ts) (suc k) e = ap (λ us. t ∷ us) (take_all ts k (omega (arith, e)))

size_behind : (ts : List Term) (t : Term) → size_all (ts ++ t ∷ []) ≡ size_all ts + size t
size_behind [] t = omega arith
size_behind (u ∷ ts) t = omega (arith, size_behind ts t)

pub size_of_compound : (f : ℕ) (ts : List Term) → size (Node f ts) ≡ size_all ts + 1
size_of_compound f ts = fold-Node ℕ size_step f ts

-- a compound in cells

module _ (h : List Change) (t : Term) (c : Cell) (said : Says h t c) where
  module _ (f count first : ℕ) (e : c ≡ cell.Node f count first) where
    node_said : Says h t (cell.Node f count first)
    node_said = subst (Says h t) e said

    pub is_compound_at : t ≡ compound_at h f first count
    is_compound_at = node_said.0

    pub row_there : first + count ≤ size_of h
    row_there = node_said.1

    pub row_smaller : size_all (row_at h first count) + 1 ≡ size t
    row_smaller = sym (ap size is_compound_at ∙ size_of_compound f (row_at h first count))

  -- one that is none, or has no parts: rules hold of it as they admit it
  pub small_alike : HasNoLast c → (g : Grammar) → Fits g → (reach : ℕ → Bool) (n : ℕ) (r : Rule) → reach n ≡ true → In r (rules_of g n) → head_holds [] (cell_head c) r ≡ admits g t r
  small_alike small g fit reach n r e i = by c said small
    where
      by : (c : Cell) → Says h t c → HasNoLast c → head_holds [] (cell_head c) r ≡ admits g t r
      by cell.Free s small = sym (ap (λ t. admits g t r) s.1 ∙ ap (λ p. p r) (fold-Var _ (admits_step g) s.0))
      by (cell.Ref to) s small = absurd s
      by (cell.Int n) s small = sym (ap (λ t. admits g t r) s ∙ ap (λ p. p r) (fold-Int _ (admits_step g) n))
      by (cell.Atom a) s small = sym (ap (λ t. admits g t r) s ∙ ap (λ p. p r) (fold-Atom _ (admits_step g) a))
      by (cell.Node f count first) s small =
          let none : t ≡ Node f [] = s.0 ∙ ap (λ k. Node f (row_at h first k)) small in
          node_told g fit reach f [] [] tt n r e i ∙ sym (ap (λ t. admits g t r) none)

  -- the end of the loop along last parts
  module _ (small : HasNoLast c) (g : Grammar) (fit : Fits g) (asked closed : ℕ → Bool) (is_closed : IsClosed g closed) (keeps : (n : ℕ) → asked n ≡ true → closed n ≡ true) (led : AreLed g asked closed) (hd : Head) (is : hd ≡ cell_head c) where
    alike : (n : ℕ) (r : Rule) → closed n ≡ true → In r (rules_of g n) → head_holds [] hd r ≡ admits g t r
    alike n r e i = ap (λ h. head_holds [] h r) is ∙ small_alike small g fit closed n r e i

    pub small_up : SomeRule g closed (head_holds [] hd) → SomeBelongs g asked t
    small_up s = let b = from_rule g fit.few closed is_closed t (head_holds [] hd) alike s in led t b.0 b.1 b.2

    pub small_down : SomeBelongs g asked t → SomeRule g closed (head_holds [] hd)
    small_down s = a_rule g fit.few closed is_closed t (head_holds [] hd) alike (s.0, keeps s.0 s.1, s.2)

  -- the last part apart
  module _ (parts : Parts) (last : HasLast c parts) where
    apart : (t ≡ Node parts.name (row_at h parts.first parts.others ++ value_of h (parts.first + parts.others) ∷ [])) × (parts.first + parts.others < size_of h) × (cell_head c ≡ head.Node parts.name)
    apart = by c said last
      where
        by : (c : Cell) → Says h t c → HasLast c parts →
            (t ≡ Node parts.name (row_at h parts.first parts.others ++ value_of h (parts.first + parts.others) ∷ [])) × (parts.first + parts.others < size_of h) × (cell_head c ≡ head.Node parts.name)
        by cell.Free s l = absurd l
        by (cell.Ref to) s l = absurd l
        by (cell.Int n) s l = absurd l
        by (cell.Atom a) s l = absurd l
        by (cell.Node f count first) s l =
            let more : count ≡ suc parts.others = omega (arith, l.2) in (
              s.0 ∙ ap (λ k. Node f (row_at h first k)) more ∙ ap (Node f) (last_in_row (value_of h) first parts.others)
                  ∙ ap (λ k. Node f (row_at h k parts.others ++ value_of h (k + parts.others) ∷ [])) (sym l.1) ∙ ap (λ k. Node k (row_at h parts.first parts.others ++ value_of h (parts.first + parts.others) ∷ [])) (sym l.0),
              omega (arith, s.1, l.1, l.2),
              ap head.Node (sym l.0),
            )

    pub last_there : parts.first + parts.others < size_of h
    last_there = apart.1

    pub others_there : parts.first + parts.others ≤ size_of h
    others_there = let lt = apart.1 in omega (arith, lt)

    pub head_is : cell_head c ≡ head.Node parts.name
    head_is = apart.2

    pub sizes_apart : size t ≡ size_all (row_at h parts.first parts.others) + size (value_of h (parts.first + parts.others)) + 1
    sizes_apart =
        let row = row_at h parts.first parts.others in
        let last = value_of h (parts.first + parts.others) in
        let whole : size t ≡ size_all (row ++ last ∷ []) + 1 = ap size apart.0 ∙ size_of_compound parts.name (row ++ last ∷ []) in
        omega (arith, whole, size_behind row last)

    -- a rule of the set holds of each compound
    pub whole_up : (g : Grammar) (asked closed : ℕ → Bool) → AreLed g asked closed → SomeRule g closed is_whole → SomeBelongs g asked t
    whole_up g asked closed led s =
        let b = whole_some g closed parts.name (row_at h parts.first parts.others ++ value_of h (parts.first + parts.others) ∷ []) s in
        led t b.0 b.1 (subst (λ t. belongs g t b.0 ≡ true) (sym apart.0) b.2)

    -- one turn of the loop along last parts
    module _ (g : Grammar) (asked closed next : ℕ → Bool) (keeps : (n : ℕ) → asked n ≡ true → closed n ≡ true) (led : AreLed g asked closed) (asks : AsksLast g closed parts.name (row_at h parts.first parts.others) next) where
      pub turn_down : (SomeRule g closed is_whole → ⊥) → SomeBelongs g asked t → SomeBelongs g next (value_of h (parts.first + parts.others))
      turn_down no_rule s = by (asks.down (value_of h (parts.first + parts.others)) (s.0, keeps s.0 s.1, subst (λ t. belongs g t s.0 ≡ true) apart.0 s.2))
        where
          by : SomeRule g closed is_whole ⊎ SomeBelongs g next (value_of h (parts.first + parts.others)) → SomeBelongs g next (value_of h (parts.first + parts.others))
          by (inl r) = absurd (no_rule r)
          by (inr b) = b

      pub turn_up : SomeBelongs g next (value_of h (parts.first + parts.others)) → SomeBelongs g asked t
      turn_up s = let b = asks.up (value_of h (parts.first + parts.others)) s in led t b.0 b.1 (subst (λ t. belongs g t b.0 ≡ true) (sym apart.0) b.2)

-- What leaves, and what names, say of a part: joined, and united.
use Rattle.std.proofs.Common.{◌≡◌, ℕ, ◌<◌, ◌≤◌, ◌+◌, ◌-◌, Bool, true, false, ◌&&◌, ◌||◌, not, List, [], ◌∷◌, map, refl, ap, sym, ◌∙◌, arith, true≢false}
use Rattle.std.specs.Prelude.{None, Some}
use Rattle.std.specs.List.{list_any, list_all}
use Rattle.prog_data.specs.declared.grammars.Rule.{Rule}
use Rattle.prog_data.specs.Values.{TypeValue}
use Rattle.name_order.specs.Relations.{names_from, Order}
use Rattle.type_domain.specs.Values.{term_name, has_name, is_set, where_fits, join, of_name, join_all}
use Rattle.type_domain.specs.Meeting.{united_where, said_parts}
use Rattle.name_order.specs.Held.{SameLeaves}
use Rattle.type_domain.proofs.Lists.{same_all}
use Rattle.type_domain.proofs.NameLoops.{names_left, names_turn, names_end}

module _ (f : Rule → TypeValue) where
  -- a value that is not none has the name
  abbrev has_if_set : ℕ → Rule → Bool
  has_if_set m r = not (is_set (f r)) || has_name (f r) m

  none_set : (xs : List Rule) → list_any (λ r. is_set (f r)) xs ≡ false → (m : ℕ) → list_all (has_if_set m) xs ≡ true
  none_set [] e m = refl
  none_set (x ∷ xs) e m = either (f x) (λ h. none_set xs h m) e
    where
      either : (v : TypeValue) → (list_any (λ r. is_set (f r)) xs ≡ false → list_all (has_if_set m) xs ≡ true) → (is_set v || list_any (λ r. is_set (f r)) xs) ≡ false → ((not (is_set v) || has_name v m) && list_all (has_if_set m) xs) ≡ true
      either None rest e = rest e
      either (Some p) rest e = absurd (true≢false e)

  one_more : (v : TypeValue) (b : Bool) (q : ℕ → Bool) → (b ≡ false → (m : ℕ) → q m ≡ true) → join v (where_fits b (Some q)) ≡ where_fits (is_set v || b) (Some (λ m. (not (is_set v) || has_name v m) && q m))
  one_more None b q h = refl
  one_more (Some p) true q h = refl
  one_more (Some p) false q h = ap Some (λ i m. sym (either m (p m)) i)
    where
      either : (m : ℕ) (a : Bool) → (a && q m) ≡ a
      either m true = h refl m
      either m false = refl

  -- values joined are none where all are, and else have the names that all have that are not none
  joined : (xs : List Rule) → join_all (map f xs) ≡ where_fits (list_any (λ r. is_set (f r)) xs) (Some (λ m. list_all (has_if_set m) xs))
  joined [] = refl
  joined (x ∷ xs) = ap (join (f x)) (joined xs) ∙ one_more (f x) (list_any (λ r. is_set (f r)) xs) (λ m. list_all (has_if_set m) xs) (none_set xs)

  pub joined_same : (xs ys : List Rule) → SameLeaves xs ys → join_all (map f xs) ≡ join_all (map f ys)
  joined_same xs ys same =
      joined xs ∙ ap (λ b. where_fits b (Some (λ m. list_all (has_if_set m) xs))) (same (λ r. is_set (f r)))
      ∙ ap (λ q. where_fits (list_any (λ r. is_set (f r)) ys) (Some q)) (λ i m. same_all xs ys same (has_if_set m) i) ∙ sym (joined ys)

module _ (o : Order) (p : ℕ → Bool) (says : ℕ → TypeValue) where
  pub parts_init : (value : TypeValue) (first size : ℕ) → first ≡ size → value ≡ of_name o term_name → (first ≤ size) × (value ≡ said_parts o p says (names_left first size))
  parts_init value first size e is = (omega (arith, e), is ∙ sym (ap (said_parts o p says) (names_end first size (omega (arith, e)))))

  pub parts_turn : (old new : TypeValue) (left size : ℕ) → 0 < left → (left ≤ size) × (old ≡ said_parts o p says (names_left left size)) → new ≡ united_where (p (left - 1)) (says (left - 1)) old → (left - 1 ≤ size) × (new ≡ said_parts o p says (names_left (left - 1) size))
  parts_turn old new left size lt had is =
      let le = had.0 in
      let e : left - 1 + 1 ≡ left = omega (arith, lt) in
      (omega (arith, le), is ∙ ap (united_where (p (left - 1)) (says (left - 1))) (had.1 ∙ sym (ap (λ k. said_parts o p says (names_left k size)) e)) ∙ sym (ap (said_parts o p says) (names_turn (left - 1) size (omega (arith, lt, le)))))

  pub parts_end : (value : TypeValue) (left size : ℕ) → left ≡ 0 → value ≡ said_parts o p says (names_left left size) → value ≡ said_parts o p says (names_from 0 size)
  parts_end value left size e is = let whole : size - 0 ≡ size = omega arith in is ∙ ap (λ k. said_parts o p says (names_left k size)) e ∙ ap (λ k. said_parts o p says (names_from 0 k)) whole

-- The newest choice point, and what is taken off it.
use Rattle.std.proofs.Common.{◌≡◌, ◌≤◌, ◌<◌, ℕ, zero, suc, ◌+◌, ◌-◌, max, List, [], ◌∷◌, ◌++◌, map, reverse, length, take, drop, get_or, refl, sym, ap, subst, ◌∙◌, arith}
use Rattle.std.specs.Prelude.{if◌then◌else◌, slice_set}
use Rattle.std.proofs.lemmas.Bool.{le-leb, lt-leb}
use Rattle.std.proofs.lemmas.List.{length-append, length-map, reverse-append, take_all, take_at, take_more, set_at}
use Rattle.clause_index.specs.declared.keys.Key.{Key}
use Rattle.term_heap.specs.Changes.{places}
use Rattle.engine_state.specs.declared.points.ChoicePoint as code
use Rattle.engine_state.specs.declared.points.Pending as code_pending
use Rattle.engine_state.specs.declared.points.Alternative as code_a
use Rattle.engine_state.specs.declared.points.Alternative.TheVariants as code_alternative
use Rattle.engine_state.specs.Engines.{Pending, Retries, ChoicePoint}
use Rattle.engine_state.specs.Selections.{clause_number, clauses_left}
use Rattle.engine_state.specs.Stacks.{width, height_of, shortened, cut_points, IsTaken}
use Rattle.engine_state.specs.Views.{as_alternative, as_pending, as_point, as_points}
use Rattle.engine_state.specs.Newest.{IsNewest}
use Rattle.engine_state.specs.Moments.{links_held, notes_held}
use Rattle.engine_state.proofs.CutLaws.{drop_map}

-- the newest

pub newest_is : (points : List code.ChoicePoint) (n : ℕ) (p d : code.ChoicePoint) → n + 1 ≡ length points → p ≡ get_or points n d → IsNewest points p
newest_is points n p d e is = record {
  older = take n points;
  is = sym (take_all (n + 1) points (omega (arith, e))) ∙ take_more points n d (omega (arith, e)) ∙ ap (λ x. take n points ++ x ∷ []) (sym is);
}

-- what it holds

pub none_held : (points : List code.ChoicePoint) → points ≡ [] → links_held (reverse points) ≡ 0
none_held points e = ap (λ ps. links_held (reverse ps)) e

pub none_noted : (points : List code.ChoicePoint) → points ≡ [] → notes_held (reverse points) ≡ 0
none_noted points e = ap (λ ps. notes_held (reverse ps)) e

module _ (points : List code.ChoicePoint) (p : code.ChoicePoint) (at_end : IsNewest points p) where
  newest_first : reverse points ≡ p ∷ reverse at_end.older
  newest_first = ap reverse at_end.is ∙ reverse-append at_end.older (p ∷ [])

  pub links_are : p.links ≡ links_held (reverse points)
  links_are = sym (ap links_held newest_first)

  pub notes_are : p.notes ≡ notes_held (reverse points)
  notes_are = sym (ap notes_held newest_first)

  pub size_is : length points ≡ length at_end.older + 1
  size_is = ap length at_end.is ∙ length-append at_end.older (p ∷ [])

  -- without it
  pub older_are : (new : List code.ChoicePoint) → new ≡ take (length points - 1) points → new ≡ at_end.older
  older_are new is = is ∙ ap (take (length points - 1)) at_end.is ∙ take_at at_end.older (p ∷ []) (length points - 1) (omega (arith, size_is))

module _ (index : List (List Key)) (notes : List ℕ) (points : List code.ChoicePoint) (p : code.ChoicePoint) (at_end : IsNewest points p) where
  pub points_are : as_points index notes points ≡ as_point index notes p ∷ as_points index notes at_end.older
  points_are = ap (as_points index notes) at_end.is ∙ ap (map (as_point index notes)) (reverse-append at_end.older (p ∷ []))

  pub height_is : p.below + width (as_alternative index notes p.alternative) ≡ height_of (as_points index notes points)
  height_is = sym (ap height_of points_are)

  -- with another one in its place
  pub changed_are : (q : code.ChoicePoint) (n : ℕ) (new : List code.ChoicePoint) → n + 1 ≡ length points → new ≡ slice_set points n q → as_points index notes new ≡ as_point index notes q ∷ as_points index notes at_end.older
  changed_are q n new e is =
      ap (as_points index notes) (is ∙ ap (λ ps. slice_set ps n q) at_end.is ∙ set_at at_end.older p [] q n (omega (arith, e, size_is points p at_end))) ∙ ap (map (as_point index notes)) (reverse-append at_end.older (q ∷ []))

-- clauses that are left

pub length-places : (first count : ℕ) → length (places first count) ≡ count
length-places first zero = refl
length-places first (suc count) = ap suc (length-places (suc first) count)

drop_places : (k first count : ℕ) → drop k (places first count) ≡ places (first + k) (count - k)
drop_places zero first count = let same : first ≡ first + 0 = omega arith in let all : count ≡ count - 0 = omega arith in (λ i. places (same i) (all i))
drop_places (suc k) first zero = let none : 0 ≡ 0 - suc k = omega arith in ap (places (first + suc k)) none
drop_places (suc k) first (suc count) =
    let same : suc first + k ≡ first + suc k = omega arith in
    let less : count - k ≡ suc count - suc k = omega arith in
    drop_places k (suc first) count ∙ (λ i. places (same i) (less i))

module _ (index : List (List Key)) (pred : ℕ) (key : Key) where
  abbrev left_from : (next end : ℕ) → List ℕ
  left_from next end = clauses_left index pred key next end

  -- as many are left as there are places
  pub length-left : (next end : ℕ) → length (left_from next end) ≡ end - next
  length-left next end = length-map (places next (end - next)) (clause_number index pred key) ∙ length-places next (end - next)

  pub clauses_short : (next end left new : ℕ) → new ≡ max next (end - left) → left_from new end ≡ drop (length (left_from next end) - left) (left_from next end)
  clauses_short next end left new is =
      let number = clause_number index pred key in
      let size : length (left_from next end) ≡ end - next = length-left next end in
      let from : new ≡ next + ((end - next) - left) = omega (arith, is) in
      let count : end - new ≡ (end - next) - ((end - next) - left) = omega (arith, is) in
      (λ i. map number (places (from i) (count i)))
      ∙ sym (ap (map number) (drop_places ((end - next) - left) next (end - next)))
      ∙ drop_map number ((end - next) - left) (places next (end - next))
      ∙ ap (λ n. drop (n - left) (left_from next end)) (sym size)

-- an alternative with one clause at most
pub width_short : (index : List (List Key)) (notes : List ℕ) (key : Key) (next end : ℕ) (c : code_pending.Pending) (a : code_a.Alternative) → a ≡ code_alternative.Retries key next end c → end - next ≤ 1 → width (as_alternative index notes a) ≤ 1
width_short index notes key next end c a is le = subst (λ n. n ≤ 1) (sym (ap (λ x. width (as_alternative index notes x)) is ∙ length-left index c.exit.pred key next end)) le

-- cutting

module _ (index : List (List Key)) (notes : List ℕ) (height : ℕ) (points new : List code.ChoicePoint) (p : code.ChoicePoint) (at_end : IsNewest points p) where
  -- the newest is taken off
  pub cut_off : new ≡ take (length points - 1) points → height ≤ p.below → cut_points height (as_points index notes new) ≡ cut_points height (as_points index notes points)
  cut_off is le =
      let older = as_points index notes at_end.older in
      let short = λ (x : ChoicePoint). record x { alternative = shortened (height - x.below) x.alternative } in
      ap (λ ps. cut_points height (as_points index notes ps)) (older_are points p at_end new is)
      ∙ sym (ap (cut_points height) (points_are index notes points p at_end) ∙ ap (λ b. if b then cut_points height older else short (as_point index notes p) ∷ older) (le-leb height p.below le))

  -- the newest is shortened
  pub cut_here : (q : code.ChoicePoint) (n : ℕ) → n + 1 ≡ length points → new ≡ slice_set points n q → p.below < height
      → as_point index notes q ≡ record (as_point index notes p) { alternative = shortened (height - p.below) (as_alternative index notes p.alternative) } → as_points index notes new ≡ cut_points height (as_points index notes points)
  cut_here q n e is less is_q =
      let older = as_points index notes at_end.older in
      let short = λ (x : ChoicePoint). record x { alternative = shortened (height - x.below) x.alternative } in
      changed_are index notes points p at_end q n new e is
      ∙ ap (λ x. x ∷ older) is_q
      ∙ sym (ap (cut_points height) (points_are index notes points p at_end) ∙ ap (λ b. if b then cut_points height older else short (as_point index notes p) ∷ older) (lt-leb height p.below less))

-- taking the newest choice

taken_whole : (p : ChoicePoint) (ps : List ChoicePoint) → width p.alternative ≤ 1 → IsTaken (p ∷ ps) p ps
taken_whole p ps single = record {
  choices = λ changes links query. refl;
  single = single;
  counted = λ are. are.1;
  in_order = λ trail are. are;
  held = λ links are. (are.0, are.2);
}

taken_clause : (p : ChoicePoint) (ps : List ChoicePoint) (x : ℕ) (left : List ℕ) (c : Pending) →
    IsTaken (record p { alternative = Retries (x ∷ left) c } ∷ ps) (record p { alternative = Retries (x ∷ []) c }) (record p { alternative = Retries left c } ∷ ps)
taken_clause p ps x left c = record {
  choices = λ changes links query. refl;
  single = omega arith;
  counted = λ are. are;
  in_order = λ trail are. (are.0, (omega arith, are.1));
  held = λ links are. (are.0, (omega arith, are.1, are.2));
}

module _ (index : List (List Key)) (notes : List ℕ) (points new : List code.ChoicePoint) (p : code.ChoicePoint) (at_end : IsNewest points p) where
  pub whole : new ≡ take (length points - 1) points → width (as_alternative index notes p.alternative) ≤ 1 → IsTaken (as_points index notes points) (as_point index notes p) (as_points index notes new)
  whole is single =
      subst (λ ps. IsTaken (as_points index notes points) (as_point index notes p) (as_points index notes ps)) (sym (older_are points p at_end new is))
      (subst (λ ps. IsTaken ps (as_point index notes p) (as_points index notes at_end.older)) (sym (points_are index notes points p at_end))
      (taken_whole (as_point index notes p) (as_points index notes at_end.older) single))

  module _ (key : Key) (next end : ℕ) (c : code_pending.Pending) (is_p : p.alternative ≡ code_alternative.Retries key next end c) (q r : code.ChoicePoint) (n : ℕ) (size : n + 1 ≡ length points) (is_new : new ≡ slice_set points n q)
      (is_q : q ≡ record p { alternative = code_alternative.Retries key (next + 1) end c }) (is_r : r ≡ record p { alternative = code_alternative.Retries key next (next + 1) c }) (more : 1 < end - next) where
    pub clause : IsTaken (as_points index notes points) (as_point index notes r) (as_points index notes new)
    clause =
        let older = as_points index notes at_end.older in
        let number = clause_number index c.exit.pred key in
        let left : List ℕ = clauses_left index c.exit.pred key (next + 1) end in
        let with_left = λ (xs : List ℕ). record (as_point index notes p) { alternative = Retries xs (as_pending notes c) } in
        let count : end - next ≡ suc (end - (next + 1)) = omega (arith, more) in
        let after : suc next ≡ next + 1 = omega arith in
        let one : (next + 1) - next ≡ suc zero = omega arith in
        let all : as_point index notes p ≡ with_left (number next ∷ left) =
        ap (λ a. record (as_point index notes p) { alternative = as_alternative index notes a }) is_p
        ∙ ap (λ m. with_left (map number (places next m))) count
        ∙ ap (λ m. with_left (number next ∷ map number (places m (end - (next + 1))))) after in
        let first : as_point index notes r ≡ with_left (number next ∷ []) = ap (as_point index notes) is_r ∙ ap (λ m. with_left (map number (places next m))) one in
        let rest : as_point index notes q ≡ with_left left = ap (as_point index notes) is_q in
        let is_points : as_points index notes points ≡ with_left (number next ∷ left) ∷ older = points_are index notes points p at_end ∙ ap (λ x. x ∷ older) all in
        let is_rest : as_points index notes new ≡ with_left left ∷ older = changed_are index notes points p at_end q n new size is_new ∙ ap (λ x. x ∷ older) rest in
        subst (λ ps. IsTaken (as_points index notes points) (as_point index notes r) ps) (sym is_rest)
        (subst (λ x. IsTaken (as_points index notes points) x (with_left left ∷ older)) (sym first)
        (subst (λ ps. IsTaken ps (with_left (number next ∷ [])) (with_left left ∷ older)) (sym is_points)
        (taken_clause (as_point index notes p) older (number next) left (as_pending notes c))))

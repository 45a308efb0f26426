-- The choice point of a mark.
use Rattle.std.proofs.Common.{◌≡◌, ◌<◌, ◌≤◌, ℕ, zero, suc, ◌+◌, List, [], ◌∷◌, ◌++◌, map, length, take, drop, reverse, get_or, refl, sym, ap, subst, ◌∙◌, arith}
use Rattle.std.specs.Prelude.{if◌then◌else◌, slice_set}
use Rattle.std.proofs.lemmas.Bool.{eq-eqb, ne_eqb}
use Rattle.std.proofs.lemmas.List.{length-append, append_assoc, append-nil, reverse-append, map-append, take-append-drop, length-take-le, drop_more, get_or_at, set_at}
use Rattle.std.specs.List.{AllByRecursion}
use Rattle.clause_index.specs.declared.keys.Key.{Key}
use Rattle.engine_state.specs.declared.points.ChoicePoint as code
use Rattle.engine_state.specs.Engines.{ChoicePoint}
use Rattle.engine_state.specs.Stacks.{no_mark, mark_in, mark_at_height, exited_alternative, exit_points}
use Rattle.engine_state.specs.Views.{as_alternative, as_point, as_points}
use Rattle.engine_state.specs.Newest.{AreRising, AreElsewhere, IsFound}
use Rattle.engine_state.specs.Notes.{IsAlternativeNoted, ArePointsNoted}
use Rattle.engine_state.proofs.EachLaws.{each_weaker, each_at, one_more_each}

rising_before : (points : List code.ChoicePoint) (i : ℕ) (d : code.ChoicePoint) → i < length points → AreRising points → AllByRecursion (λ q. q.below < (get_or points i d).below) (take i points)
rising_before [] i d less are = absurd (omega (arith, less))
rising_before (p ∷ ps) zero d less are = tt
rising_before (p ∷ ps) (suc i) d less are = (each_at (λ q. p.below < q.below) ps i d (omega (arith, less)) are.0, rising_before ps i d (omega (arith, less)) are.1)

rising_behind : (points : List code.ChoicePoint) (i : ℕ) (d : code.ChoicePoint) → i < length points → AreRising points → AllByRecursion (λ q. (get_or points i d).below < q.below) (drop (suc i) points)
rising_behind [] i d less are = absurd (omega (arith, less))
rising_behind (p ∷ ps) zero d less are = are.0
rising_behind (p ∷ ps) (suc i) d less are = rising_behind ps i d (omega (arith, less)) are.1

rising_after : (points : List code.ChoicePoint) (i : ℕ) (d : code.ChoicePoint) → i < length points → AreRising points → AllByRecursion (λ q. (get_or points i d).below < q.below) (drop (i + 1) points)
rising_after points i d less are = let next : suc i ≡ i + 1 = omega arith in subst (λ n. AllByRecursion (λ q. (get_or points i d).below < q.below) (drop n points)) next (rising_behind points i d less are)

module _ (height : ℕ) where
  -- looking by halves

  above_elsewhere : (points : List code.ChoicePoint) → AllByRecursion (λ p. height < p.below) points → AreElsewhere height points
  above_elsewhere [] all = tt
  above_elsewhere (p ∷ ps) all = ((λ e. omega (arith, e, all.0)), above_elsewhere ps all.1)

  below_elsewhere : (points : List code.ChoicePoint) → AllByRecursion (λ p. p.below < height) points → AreElsewhere height points
  below_elsewhere [] all = tt
  below_elsewhere (p ∷ ps) all = ((λ e. omega (arith, e, all.0)), below_elsewhere ps all.1)

  both_elsewhere : (xs ys : List code.ChoicePoint) → AreElsewhere height xs → AreElsewhere height ys → AreElsewhere height (xs ++ ys)
  both_elsewhere [] ys are others = others
  both_elsewhere (x ∷ xs) ys are others = (are.0, both_elsewhere xs ys are.1 others)

  -- the halves that are left out are all
  pub halves_meet : (points : List code.ChoicePoint) (low high : ℕ) → low ≡ high → AllByRecursion (λ p. p.below < height) (take low points) → AllByRecursion (λ p. height < p.below) (drop high points) → AreElsewhere height points
  halves_meet points low high e lower upper =
      subst (AreElsewhere height) (ap (λ n. take n points ++ drop high points) e ∙ take-append-drop high points)
      (both_elsewhere (take low points) (drop high points) (below_elsewhere (take low points) lower) (above_elsewhere (drop high points) upper))

  last_part : (points : List code.ChoicePoint) (place : ℕ) (p d : code.ChoicePoint) → place < length points → p ≡ get_or points place d → drop place points ≡ p ∷ drop (place + 1) points
  last_part points place p d less is = drop_more points place d less ∙ ap (λ q. q ∷ drop (place + 1) points) (sym is)

  module _ (points : List code.ChoicePoint) (place : ℕ) (p d : code.ChoicePoint) (rising : AreRising points) (less : place < length points) (is : p ≡ get_or points place d) where
    before_place : AllByRecursion (λ q. q.below < p.below) (take place points)
    before_place = subst (λ r. AllByRecursion (λ q. q.below < r.below) (take place points)) (sym is) (rising_before points place d less rising)

    after_place : AllByRecursion (λ q. p.below < q.below) (drop (place + 1) points)
    after_place = subst (λ r. AllByRecursion (λ q. r.below < q.below) (drop (place + 1) points)) (sym is) (rising_after points place d less rising)

    pub found_here : height ≡ p.below → IsFound height points place
    found_here here = record {
      older = take place points;
      found = p;
      newer = drop (place + 1) points;
      is = sym (take-append-drop place points) ∙ ap (λ xs. take place points ++ xs) (last_part points place p d less is);
      place_is = length-take-le place points (omega (arith, less));
      below = here;
      others = above_elsewhere (drop (place + 1) points) (each_weaker (λ q. p.below < q.below) (λ q. height < q.below) (λ q lt. omega (arith, lt, here)) (drop (place + 1) points) after_place);
    }

    -- the lower half is left out
    pub lower_half : (low : ℕ) → low ≡ place + 1 → p.below < height → AllByRecursion (λ q. q.below < height) (take low points)
    lower_half low e lt = one_more_each (λ q. q.below < height) points place low d less e
        (each_weaker (λ q. q.below < p.below) (λ q. q.below < height) (λ q below. omega (arith, below, lt)) (take place points) before_place) (subst (λ r. r.below < height) is lt)

    -- the upper half is left out
    pub upper_half : (p.below ≡ height → ⊥) → height ≤ p.below → AllByRecursion (λ q. height < q.below) (drop place points)
    upper_half ne le = let lt : height < p.below = omega (arith, ne, le) in subst (AllByRecursion (λ q. height < q.below)) (sym (last_part points place p d less is))
        (lt, each_weaker (λ q. p.below < q.below) (λ q. height < q.below) (λ q above. omega (arith, above, lt)) (drop (place + 1) points) after_place)

  pub found_is : (points : List code.ChoicePoint) (place : ℕ) (d : code.ChoicePoint) (at : IsFound height points place) → get_or points place d ≡ at.found
  found_is points place d at = ap (λ ps. get_or ps place d) at.is ∙ get_or_at at.older at.found at.newer d place at.place_is

  pub found_within : (points : List code.ChoicePoint) (place : ℕ) (at : IsFound height points place) → place < length points
  found_within points place at = omega (arith, ap length at.is, length-append at.older (at.found ∷ at.newer), at.place_is)

  -- exits

  reverse_elsewhere : (xs : List code.ChoicePoint) → AreElsewhere height xs → AreElsewhere height (reverse xs)
  reverse_elsewhere [] are = tt
  reverse_elsewhere (x ∷ xs) are = subst (AreElsewhere height) (sym (reverse-append (x ∷ []) xs)) (both_elsewhere (reverse xs) (x ∷ []) (reverse_elsewhere xs are.1) (are.0, tt))

  module _ (index : List (List Key)) (notes : List ℕ) where
    exit_past : (newer : List code.ChoicePoint) (rest : List ChoicePoint) → AreElsewhere height newer → exit_points height (map (as_point index notes) newer ++ rest) ≡ map (as_point index notes) newer ++ exit_points height rest
    exit_past [] rest are = refl
    exit_past (p ∷ newer) rest are =
        ap (λ b. if b then record (as_point index notes p) { alternative = exited_alternative (as_alternative index notes p.alternative) } ∷ (map (as_point index notes) newer ++ rest) else as_point index notes p ∷ exit_points height (map (as_point index notes) newer ++ rest)) (ne_eqb height p.below are.0)
        ∙ ap (λ ps. as_point index notes p ∷ ps) (exit_past newer rest are.1)

    pub exit_nowhere : (points : List code.ChoicePoint) → AreElsewhere height points → as_points index notes points ≡ exit_points height (as_points index notes points)
    exit_nowhere points are =
        let all = map (as_point index notes) (reverse points) in
        sym (append-nil all) ∙ sym (exit_past (reverse points) [] (reverse_elsewhere points are)) ∙ ap (exit_points height) (append-nil all)

    parts_are : (older newer : List code.ChoicePoint) (p : code.ChoicePoint) → as_points index notes (older ++ p ∷ newer) ≡ map (as_point index notes) (reverse newer) ++ as_point index notes p ∷ as_points index notes older
    parts_are older newer p =
        ap (map (as_point index notes)) (reverse-append older (p ∷ newer) ∙ ap (λ ps. ps ++ reverse older) (reverse-append (p ∷ []) newer) ∙ append_assoc (reverse newer) (p ∷ []) (reverse older))
        ∙ map-append (as_point index notes) (reverse newer) (p ∷ reverse older)

    pub exit_found : (points new : List code.ChoicePoint) (place : ℕ) (p q d : code.ChoicePoint) → IsFound height points place → p ≡ get_or points place d → new ≡ slice_set points place q →
        as_point index notes q ≡ record (as_point index notes p) { alternative = exited_alternative (as_alternative index notes p.alternative) } → as_points index notes new ≡ exit_points height (as_points index notes points)
    exit_found points new place p q d at is_p is_new is_q =
        let newer = map (as_point index notes) (reverse at.newer) in
        let older = as_points index notes at.older in
        let same : p ≡ at.found = is_p ∙ found_is points place d at in
        let x = as_point index notes at.found in
        let exited_q : as_point index notes q ≡ record x { alternative = exited_alternative x.alternative } = is_q ∙ ap (λ r. record (as_point index notes r) { alternative = exited_alternative (as_alternative index notes r.alternative) }) same in
        ap (as_points index notes) (is_new ∙ ap (λ ps. slice_set ps place q) at.is ∙ set_at at.older at.found at.newer q place at.place_is)
        ∙ parts_are at.older at.newer q
        ∙ ap (λ r. newer ++ r ∷ older) exited_q
        ∙ sym (ap (exit_points height) (ap (as_points index notes) at.is ∙ parts_are at.older at.newer at.found)
        ∙ exit_past (reverse at.newer) (x ∷ older) (reverse_elsewhere at.newer at.others)
        ∙ ap (λ b. newer ++ (if b then record x { alternative = exited_alternative x.alternative } ∷ older else x ∷ exit_points height older)) (eq-eqb height at.found.below at.below))

    -- marks that are looked at

    seen_past : (newer : List code.ChoicePoint) (rest : List ChoicePoint) → AreElsewhere height newer → mark_at_height height (map (as_point index notes) newer ++ rest) ≡ mark_at_height height rest
    seen_past [] rest are = refl
    seen_past (p ∷ newer) rest are =
        ap (λ b. if b then mark_in (as_alternative index notes p.alternative) else mark_at_height height (map (as_point index notes) newer ++ rest)) (ne_eqb height p.below are.0) ∙ seen_past newer rest are.1

    pub seen_nowhere : (points : List code.ChoicePoint) → AreElsewhere height points → no_mark ≡ mark_at_height height (as_points index notes points)
    seen_nowhere points are =
        let all = map (as_point index notes) (reverse points) in
        sym (ap (mark_at_height height) (sym (append-nil all)) ∙ seen_past (reverse points) [] (reverse_elsewhere points are))

    pub seen_found : (points : List code.ChoicePoint) (place : ℕ) (p d : code.ChoicePoint) → IsFound height points place → p ≡ get_or points place d → mark_in (as_alternative index notes p.alternative) ≡ mark_at_height height (as_points index notes points)
    seen_found points place p d at is_p =
        let older = as_points index notes at.older in
        let x = as_point index notes at.found in
        ap (λ r. mark_in (as_alternative index notes r.alternative)) (is_p ∙ found_is points place d at)
        ∙ sym (ap (mark_at_height height) (ap (as_points index notes) at.is ∙ parts_are at.older at.newer at.found)
        ∙ seen_past (reverse at.newer) (x ∷ older) (reverse_elsewhere at.newer at.others)
        ∙ ap (λ b. if b then mark_in x.alternative else mark_at_height height older) (eq-eqb height at.found.below at.below))

  pub noted_at : (held : ℕ) (points : List code.ChoicePoint) (place : ℕ) (p d : code.ChoicePoint) → place < length points → p ≡ get_or points place d → ArePointsNoted held points → IsAlternativeNoted held p.alternative
  noted_at held points place p d less is all = subst (λ r. IsAlternativeNoted held r.alternative) (sym is) (each_at (λ r. IsAlternativeNoted held r.alternative) points place d less all)

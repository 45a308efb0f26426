-- The moments of choice points of which the newest is changed or taken off.
use Rattle.std.proofs.Common.{◌≡◌, ◌≤◌, ◌<◌, ◌+◌, ◌-◌, ℕ, max, List, [], ◌∷◌, ◌++◌, take, drop, reverse, length, get_or, refl, sym, ap, subst, ◌∙◌, arith}
use Rattle.std.specs.Prelude.{slice_set}
use Rattle.std.proofs.lemmas.List.{reverse-append, length-reverse, set_at, append_assoc}
use Rattle.prog_data.specs.declared.programs.Program.{Program}
use Rattle.clause_index.specs.declared.keys.Key.{Key}
use Rattle.term_heap.specs.Changes.{Change, size_of, undone}
use Rattle.engine_state.specs.declared.tasks.Link as code_link
use Rattle.engine_state.specs.declared.points.Pending as code_pending
use Rattle.engine_state.specs.declared.points.Alternative as code_alternative
use Rattle.engine_state.specs.declared.points.Alternative.TheVariants as alternative
use Rattle.engine_state.specs.declared.points.ChoicePoint as code_point
use Rattle.engine_state.specs.Newest.{IsNewest, IsFound}
use Rattle.engine_state.specs.Moments.{IsAlternativePlaced, Moments, HasMoments, MayBecome, HasItsMoment}
use Rattle.engine_state.specs.Notes.{IsAlternativeNoted}
use Rattle.engine_state.proofs.MarkLaws.{found_is}
use Rattle.engine_state.proofs.PointLaws.{size_is, older_are}
use Rattle.engine_state.proofs.MomentLaws.{undone_length, left_length, off, made}

module _ (program : Program) where
  -- an alternative may stay, be shortened, or be exited

  pub may_stay : (a : code_alternative.Alternative) → MayBecome program a a
  may_stay a = record { placed = λ cells links is. is; noted = λ held is. is; wide = λ is. is }

  pub may_shorten : (key : Key) (next end left new : ℕ) (c : code_pending.Pending) → new ≡ max next (end - left) → 0 < left → MayBecome program (alternative.Retries key next end c) (alternative.Retries key new end c)
  may_shorten key next end left new c is some = record { placed = λ cells links are. are; noted = λ held is. is; wide = λ less. omega (arith, is, some, less) }

  pub may_exit : (p : ℕ) (conds : _) (exited now : _) → MayBecome program (alternative.Marks p conds exited) (alternative.Marks p conds now)
  may_exit p conds exited now = record { placed = λ cells links is. is; noted = λ held is. is; wide = λ is. is }

  module _ (query : ℕ) where
    -- the newest has another alternative
    with_other : (changes : List Change) (notes : ℕ) (links : List code_link.Link) (p : code_point.ChoicePoint) (ps : List code_point.ChoicePoint) (a : code_alternative.Alternative) → MayBecome program p.alternative a →
        Moments program query changes notes links (p ∷ ps) → Moments program query changes notes links (record p { alternative = a } ∷ ps)
    with_other changes notes links p ps a may are = (
      are.0,
      record {
        trail = are.1.trail;
        fewer_links = are.1.fewer_links;
        fewer_notes = are.1.fewer_notes;
        placed = may.placed (size_of (undone p.trail changes)) p.links are.1.placed;
        noted = may.noted p.notes are.1.noted;
        wide = may.wide are.1.wide;
      },
      are.2,
    )

    -- an older one has
    with_older : (changes : List Change) (notes : ℕ) (links : List code_link.Link) (newer : List code_point.ChoicePoint) (p : code_point.ChoicePoint) (ps : List code_point.ChoicePoint) (a : code_alternative.Alternative) → MayBecome program p.alternative a →
        Moments program query changes notes links (newer ++ p ∷ ps) → Moments program query changes notes links (newer ++ record p { alternative = a } ∷ ps)
    with_older changes notes links [] p ps a may are = with_other changes notes links p ps a may are
    with_older changes notes links (n ∷ newer) p ps a may are = (are.0, are.1, with_older (undone n.trail changes) n.notes (drop (length links - n.links) links) newer p ps a may are.2)

    module _ (changes : List Change) (notes : List ℕ) (links : List code_link.Link) where
      -- as the code has them

      abbrev Have : List code_point.ChoicePoint → Type 0
      Have points = HasMoments program query changes notes links points

      newest_first : (points : List code_point.ChoicePoint) (p : code_point.ChoicePoint) (at_end : IsNewest points p) → reverse points ≡ p ∷ reverse at_end.older
      newest_first points p at_end = ap reverse at_end.is ∙ reverse-append at_end.older (p ∷ [])

      module _ (points new : List code_point.ChoicePoint) (p : code_point.ChoicePoint) (at_end : IsNewest points p) where
        abbrev older : List code_point.ChoicePoint
        older = reverse at_end.older

        with_newest : Have points → Moments program query changes (length notes) (reverse links) (p ∷ older)
        with_newest are = subst (Moments program query changes (length notes) (reverse links)) (newest_first points p at_end) are

        -- the newest was taken off
        pub popped : new ≡ take (length points - 1) points → Have points → Have new
        popped is are =
            subst Have (sym (older_are points p at_end new is)) (off program query changes (length notes) (reverse links) p older (with_newest are))

        pub popped_back : new ≡ take (length points - 1) points → Have points → HasItsMoment program query changes notes links p new
        popped_back is are =
            subst (HasItsMoment program query changes notes links p) (sym (older_are points p at_end new is))
            (let were = with_newest are in
            let size : length (reverse links) ≡ length links = length-reverse links in
            record { before = were.1; moments = subst (λ n. Moments program query (undone p.trail changes) p.notes (drop (n - p.links) (reverse links)) older) size were.2 })

        -- another one stands in its place
        replaced : (q : code_point.ChoicePoint) (n : ℕ) → n + 1 ≡ length points → new ≡ slice_set points n q → new ≡ at_end.older ++ q ∷ []
        replaced q n size is = is ∙ ap (λ ps. slice_set ps n q) at_end.is ∙ set_at at_end.older p [] q n (omega (arith, size, size_is points p at_end))

        pub changed : (q : code_point.ChoicePoint) (n : ℕ) (a : code_alternative.Alternative) → n + 1 ≡ length points → new ≡ slice_set points n q → q ≡ record p { alternative = a } → MayBecome program p.alternative a → Have points → Have new
        changed q n a size is is_q may are =
            let is_new : reverse new ≡ record p { alternative = a } ∷ older = ap reverse (replaced q n size is) ∙ reverse-append at_end.older (q ∷ []) ∙ ap (λ x. x ∷ older) is_q in
            subst (Moments program query changes (length notes) (reverse links)) (sym is_new) (with_other changes (length notes) (reverse links) p older a may (with_newest are))

        module _ (key : Key) (next end : ℕ) (c : code_pending.Pending) (is_p : p.alternative ≡ alternative.Retries key next end c) (q r : code_point.ChoicePoint) (n : ℕ) (size : n + 1 ≡ length points) (is_new : new ≡ slice_set points n q)
            (is_q : q ≡ record p { alternative = alternative.Retries key (next + 1) end c }) (is_r : r ≡ record p { alternative = alternative.Retries key next (next + 1) c }) (more : 1 < end - next) where
          -- one clause was taken off
          pub clause_back : Have points → HasItsMoment program query changes notes links r new
          clause_back are =
              let were = with_newest are in
              let trail : p.trail ≤ length changes = were.1.trail in
              let fewer : p.links ≤ length (reverse links) = were.1.fewer_links in
              let moment : List Change = undone p.trail changes in
              let left : List code_link.Link = drop (length (reverse links) - p.links) (reverse links) in
              let placed = subst (λ a. IsAlternativePlaced program (size_of moment) p.links a) is_p were.1.placed in
              let noted = subst (IsAlternativeNoted p.notes) is_p were.1.noted in
              let first : code_point.ChoicePoint = record p { alternative = alternative.Retries key next (next + 1) c } in
              let rest : code_point.ChoicePoint = record p { alternative = alternative.Retries key (next + 1) end c } in
              let links_are : length left ≡ p.links = left_length p.links (reverse links) fewer in
              let rest_moments : Moments program query moment p.notes left (rest ∷ older) =
              made program query moment p.notes left rest older (sym (undone_length p.trail changes trail)) (sym links_are) refl
              (subst (λ k. IsAlternativePlaced program (size_of moment) k rest.alternative) (sym links_are) placed) noted (omega (arith, more)) were.2 in
              let is_reverse : reverse new ≡ rest ∷ older = ap reverse (replaced q n size is_new) ∙ reverse-append at_end.older (q ∷ []) ∙ ap (λ x. x ∷ older) is_q in
              let lengths : length (reverse links) ≡ length links = length-reverse links in
              subst (λ x. HasItsMoment program query changes notes links x new) (sym is_r) (record {
                before = record {
                  trail = trail;
                  fewer_links = fewer;
                  fewer_notes = were.1.fewer_notes;
                  placed = (placed.0, omega (arith, placed.1, more), placed.2);
                  noted = noted;
                  wide = omega arith;
                };
                moments = subst (λ k. Moments program query moment p.notes (drop (k - p.links) (reverse links)) (reverse new)) lengths (subst (Moments program query moment p.notes left) (sym is_reverse) rest_moments);
              })

      -- a choice point was changed at a place
      pub changed_at : (height : ℕ) (points new : List code_point.ChoicePoint) (place : ℕ) (p q d : code_point.ChoicePoint) (a : code_alternative.Alternative) (at : IsFound height points place) → p ≡ get_or points place d → new ≡ slice_set points place q →
          q ≡ record p { alternative = a } → MayBecome program p.alternative a → Have points → Have new
      changed_at height points new place p q d a at is_p is_new is_q may are =
          let older = reverse at.older in
          let newer = reverse at.newer in
          let same : p ≡ at.found = is_p ∙ found_is height points place d at in
          let parts : (x : code_point.ChoicePoint) → reverse (at.older ++ x ∷ at.newer) ≡ newer ++ x ∷ older =
          λ x. reverse-append at.older (x ∷ at.newer) ∙ ap (λ ps. ps ++ older) (reverse-append (x ∷ []) at.newer) ∙ append_assoc newer (x ∷ []) older in
          let before : Moments program query changes (length notes) (reverse links) (newer ++ p ∷ older) =
          subst (Moments program query changes (length notes) (reverse links)) (ap reverse at.is ∙ parts at.found ∙ ap (λ x. newer ++ x ∷ older) (sym same)) are in
          let after : reverse new ≡ newer ++ record p { alternative = a } ∷ older =
          ap reverse (is_new ∙ ap (λ ps. slice_set ps place q) at.is ∙ set_at at.older at.found at.newer q place at.place_is) ∙ parts q ∙ ap (λ x. newer ++ x ∷ older) is_q in
          subst (Moments program query changes (length notes) (reverse links)) (sym after) (with_older changes (length notes) (reverse links) newer p older a may before)

-- Links and notes that are pushed and let go.
use Rattle.std.proofs.Common.{◌≡◌, ◌≤◌, ◌<◌, ◌+◌, ◌-◌, ℕ, max, List, [], ◌∷◌, ◌++◌, take, drop, reverse, length, get_or, refl, sym, ap, subst, ◌∙◌, arith}
use Rattle.std.proofs.lemmas.List.{append-nil, reverse-append, reverse-reverse, length-reverse, length-take-le, take_all, take_more}
use Rattle.std.specs.List.{AllByRecursion}
use Rattle.prog_data.specs.declared.programs.Program.{Program}
use Rattle.term_heap.specs.Changes.{Change, size_of}
use Rattle.engine_state.specs.declared.tasks.Link as code_link
use Rattle.engine_state.specs.declared.points.ChoicePoint as code_point
use Rattle.engine_state.specs.Engines.{chain}
use Rattle.engine_state.specs.Views.{as_links, as_points}
use Rattle.engine_state.specs.Notes.{IsTaskNoted, IsAlternativeNoted, AreLinksNoted, ArePointsNoted}
use Rattle.engine_state.specs.Moments.{links_held, notes_held, notes_used, IsTaskPlaced, IsLinkPlaced, ArePlaced, Moments, HasMoments}
use Rattle.engine_state.specs.Kept.{IsLetGo}
use Rattle.engine_state.proofs.EachLaws.{each_reversed, each_at}
use Rattle.engine_state.proofs.LinkLaws.{kept_chain, reversed_front}
use Rattle.engine_state.proofs.MomentLaws.{used_within, placed_left, moment_now, held_within, added, let_go}
use Rattle.engine_state.proofs.GivenLaws.{task_more, placed_noted, held_noted}
use Rattle.engine_state.proofs.NoteLaws.{notes_stay}

-- the notes of the newest link
pub newest_notes : (links : List code_link.Link) (n : ℕ) (l d : code_link.Link) → n + 1 ≡ length links → l ≡ get_or links n d → notes_used (reverse links) ≡ l.notes
newest_notes links n l d e is =
    let parts : links ≡ take n links ++ l ∷ [] = sym (take_all (n + 1) links (omega (arith, e))) ∙ take_more links n d (omega (arith, e)) ∙ ap (λ x. take n links ++ x ∷ []) (sym is) in
    ap (λ ls. notes_used (reverse ls)) parts ∙ ap notes_used (reverse-append (take n links) (l ∷ []))

pub none_used : (links : List code_link.Link) → length links ≡ 0 → notes_used (reverse links) ≡ 0
none_used [] e = refl
none_used (l ∷ links) e = absurd (omega (arith, e))

-- each link is placed

each_placed : (program : Program) (cells notes most links : ℕ) (items : List code_link.Link) → notes ≤ most → length items ≤ links → ArePlaced program cells notes items → AllByRecursion (IsLinkPlaced program cells most links) items
each_placed program cells notes most links [] le few are = tt
each_placed program cells notes most links (l ∷ older) le few are = (
  record { placed = are.0; noted = task_more l.notes most l.task (omega (arith, le, are.2)) are.1; next = omega (arith, few, are.3) },
  each_placed program cells l.notes most links older (omega (arith, le, are.2)) (omega (arith, few)) are.4,
)

pub link_placed : (program : Program) (cells notes : ℕ) (items : List code_link.Link) (i : ℕ) (l d : code_link.Link) → i < length items → l ≡ get_or items i d → ArePlaced program cells notes (reverse items) → IsLinkPlaced program cells notes (length items) l
link_placed program cells notes items i l d less is are =
    let all : AllByRecursion (IsLinkPlaced program cells notes (length items)) (reverse items) = each_placed program cells notes notes (length items) (reverse items) (omega arith) (omega (arith, length-reverse items)) are in
    let forward : AllByRecursion (IsLinkPlaced program cells notes (length items)) items =
    subst (AllByRecursion (IsLinkPlaced program cells notes (length items))) (reverse-reverse items) (each_reversed (IsLinkPlaced program cells notes (length items)) (reverse items) all) in
    subst (IsLinkPlaced program cells notes (length items)) (sym is) (each_at (IsLinkPlaced program cells notes (length items)) items i d less forward)

-- notes that the newest link uses are enough for it and those below it
used_noted : (program : Program) (cells notes most : ℕ) (links : List code_link.Link) → notes_used links ≤ most → ArePlaced program cells notes links → AreLinksNoted most links
used_noted program cells notes most [] le are = tt
used_noted program cells notes most (l ∷ older) le are = placed_noted program cells most most (l ∷ older) (omega arith) (are.0, are.1, le, are.3, are.4)

module _ (program : Program) (query : ℕ) (changes : List Change) where
  front_left : (notes : List ℕ) (m : ℕ) (links : List code_link.Link) (points : List code_point.ChoicePoint) → m ≤ length links → links_held (reverse points) ≤ m → HasMoments program query changes notes links points → HasMoments program query changes notes (take m links) points
  front_left notes m links points le held are =
      let size : length (reverse links) ≡ length links = length-reverse links in
      let now = moment_now program query changes (length notes) (reverse links) (reverse points) are in
      let within = held_within program query changes (length notes) (reverse links) (reverse points) are in
      let used : notes_used (drop (length links - m) (reverse links)) ≤ length notes =
      used_within program (size_of changes) (length notes) (drop (length links - m) (reverse links)) (placed_left program (size_of changes) (length notes) (length links - m) (reverse links) now.1) in
      subst (λ ls. Moments program query changes (length notes) ls (reverse points)) (sym (reversed_front m links le))
      (let_go program query changes (length notes) (length notes) (length links - m) (reverse links) (reverse points) (omega (arith, size)) (omega (arith, size, le, held)) used within.1 are)

  -- a link is pushed on those that are kept
  pub pushed_moments : (notes : List ℕ) (held : ℕ) (old new : List code_link.Link) (l : code_link.Link) (points : List code_point.ChoicePoint) → held ≤ length old → l.next ≤ length old → new ≡ take (max held l.next) old ++ l ∷ [] →
      HasMoments program query changes notes old points → links_held (reverse points) ≤ held → IsTaskPlaced program (size_of changes) l.task → IsTaskNoted (length notes) l.task → l.notes ≡ length notes → HasMoments program query changes notes new points
  pushed_moments notes held old new l points within next is are kept placed noted notes_is =
      let m : ℕ = max held l.next in
      let enough : m ≤ length old = omega (arith, within, next) in
      let front : List code_link.Link = take m old in
      let size : length (reverse front) ≡ m = length-reverse front ∙ length-take-le m old enough in
      let is_new : reverse new ≡ l ∷ reverse front = ap reverse is ∙ reverse-append front (l ∷ []) in
      subst (λ ls. Moments program query changes (length notes) ls (reverse points)) (sym is_new)
      (added program query changes (length notes) l (reverse front) (reverse points) placed noted notes_is (omega (arith, size)) (front_left notes m old points enough (omega (arith, kept)) are))

  -- links and notes are let go
  pub lets_go : (rest : ℕ) (notes new_notes : List ℕ) (links new_links : List code_link.Link) (points : List code_point.ChoicePoint) (m n : ℕ) → m ≡ max (links_held (reverse points)) rest → new_links ≡ take m links →
      n ≡ max (notes_held (reverse points)) (notes_used (reverse new_links)) → new_notes ≡ take n notes → rest ≤ length links → HasMoments program query changes notes links points → IsLetGo program query changes rest notes links points new_notes new_links
  lets_go rest notes new_notes links new_links points m n is_m is_links is_n is_notes le are =
      let within = held_within program query changes (length notes) (reverse links) (reverse points) are in
      let size : length (reverse links) ≡ length links = length-reverse links in
      let enough : m ≤ length links = omega (arith, is_m, le, within.0, size) in
      let long : length new_links ≡ m = ap length is_links ∙ length-take-le m links enough in
      let left : HasMoments program query changes notes new_links points = subst (λ ls. HasMoments program query changes notes ls points) (sym is_links) (front_left notes m links points enough (omega (arith, is_m)) are) in
      let now = moment_now program query changes (length notes) (reverse new_links) (reverse points) left in
      let few : n ≤ length notes = omega (arith, is_n, within.1, used_within program (size_of changes) (length notes) (reverse new_links) now.1) in
      let notes_size : length new_notes ≡ n = ap length is_notes ∙ length-take-le n notes few in
      let front : take n notes ++ [] ≡ new_notes = append-nil (take n notes) ∙ sym is_notes in
      let links_noted : AreLinksNoted n new_links = subst (AreLinksNoted n) (reverse-reverse new_links) (each_reversed (λ l. IsTaskNoted n l.task) (reverse new_links) (used_noted program (size_of changes) (length notes) n (reverse new_links) (omega (arith, is_n)) now.1)) in
      let points_noted : ArePointsNoted n points =
      subst (ArePointsNoted n) (reverse-reverse points) (each_reversed (λ p. IsAlternativeNoted n p.alternative) (reverse points) (held_noted program query changes (length notes) n (reverse new_links) (reverse points) (omega (arith, is_n)) left)) in
      let still : links_held (reverse points) ≤ length (reverse new_links) = (held_within program query changes (length notes) (reverse new_links) (reverse points) left).0 in
      let same_links : as_links new_notes new_links ≡ as_links notes new_links = subst (λ ns. as_links ns new_links ≡ as_links notes new_links) front (notes_stay.links n notes [] new_links few links_noted) in
      record {
        chains = λ j under. ap (λ ls. chain ls j) same_links ∙ ap (λ ls. chain (as_links notes ls) j) is_links ∙ kept_chain notes m links j enough (omega (arith, under, is_m));
        points_are = λ index. subst (λ ns. as_points index ns points ≡ as_points index notes points) front (notes_stay.points index n notes [] points few points_noted);
        there = omega (arith, long, is_m);
        moments = subst (λ k. Moments program query changes k (reverse new_links) (reverse points)) (sym notes_size)
            (let_go program query changes (length notes) n 0 (reverse new_links) (reverse points) (omega arith) (omega (arith, still)) (omega (arith, is_n)) (omega (arith, is_n)) left);
      }

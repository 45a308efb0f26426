-- What keeps links and choice points to what was there at each moment.
use Rattle.std.proofs.Common.{◌≡◌, ◌≤◌, ◌<◌, ◌⊎◌, inl, inr, ◌+◌, ◌-◌, ℕ, zero, suc, List, [], ◌∷◌, ◌++◌, drop, length, refl, sym, ap, subst, ◌∙◌, arith}
use Rattle.std.proofs.lemmas.Bool.{cases_lt}
use Rattle.std.proofs.lemmas.List.{drop-drop, length-drop, length-append}
use Rattle.prog_data.specs.declared.programs.Program.{Program}
use Rattle.term_heap.specs.Changes.{Change, size_of, undone}
use Rattle.term_heap.proofs.HistoryLaws.{undone_here, undone_more}
use Rattle.term_heap.proofs.PastLaws.{lengths_stay, sizes_stay}
use Rattle.engine_state.specs.declared.tasks.Row.{Row}
use Rattle.engine_state.specs.declared.tasks.Task as code_task
use Rattle.engine_state.specs.declared.tasks.Task.TheVariants as task
use Rattle.engine_state.specs.declared.tasks.Link as code_link
use Rattle.engine_state.specs.declared.points.ChoicePoint as code_point
use Rattle.engine_state.specs.Notes.{IsTaskNoted, IsAlternativeNoted}
use Rattle.engine_state.specs.Moments.{links_held, notes_held, notes_used, IsWide, IsCallPlaced, IsTaskPlaced, IsAlternativePlaced, ArePlaced, IsMoment, IsMadeBefore, Moments, MomentsStay}
use Rattle.engine_state.proofs.ChoiceLaws.{undone_twice}

-- what is undone has that length
pub undone_length : (n : ℕ) (changes : List Change) → n ≤ length changes → length (undone n changes) ≡ n
undone_length n [] le = omega (arith, le)
undone_length n (c ∷ older) le = by_length (undone_length n older) (cases_lt (length older) n) where
  by_length : (n ≤ length older → length (undone n older) ≡ n) → (length older < n) ⊎ (n ≤ length older) → length (undone n (c ∷ older)) ≡ n
  by_length further (inl less) = ap length (undone_here n (c ∷ older) (omega (arith, less))) ∙ omega (arith, le, less)
  by_length further (inr more) = ap length (undone_more n c older more) ∙ further more

-- what is left of links at a moment has that length
pub left_length : (n : ℕ) (links : List code_link.Link) → n ≤ length links → length (drop (length links - n) links) ≡ n
left_length n links le = length-drop (length links - n) links ∙ omega (arith, le)

-- what is left of what was left
left_twice : (m k : ℕ) (links : List code_link.Link) → k ≤ length links → m ≤ length (drop k links) → drop (length (drop k links) - m) (drop k links) ≡ drop (length links - m) links
left_twice m k links whole le =
    let left : length (drop k links) ≡ length links - k = length-drop k links in
    let count : k + (length (drop k links) - m) ≡ length links - m = omega (arith, left, whole, le) in
    drop-drop (length (drop k links) - m) k links ∙ ap (λ n. drop n links) count

module _ (program : Program) where
  call_more : (cells more pred : ℕ) (args : Row) → cells ≤ more → IsCallPlaced program cells pred args → IsCallPlaced program more pred args
  call_more cells more pred args le is = record { there = is.there; count = is.count; within = omega (arith, le, is.within) }

  task_more : (cells more : ℕ) (t : code_task.Task) → cells ≤ more → IsTaskPlaced program cells t → IsTaskPlaced program more t
  task_more cells more (task.Runs goal base h place) le is = (is.0, is.1, omega (arith, le, is.2))
  task_more cells more (task.Cuts h) le is = tt
  task_more cells more (task.Fails h place) le is = tt
  task_more cells more (task.Leaves e) le is = (call_more cells more e.pred e.args le is.0, is.1)

  -- more cells
  placed_more : (cells more notes : ℕ) (links : List code_link.Link) → cells ≤ more → ArePlaced program cells notes links → ArePlaced program more notes links
  placed_more cells more notes [] le are = tt
  placed_more cells more notes (l ∷ older) le are = (task_more cells more l.task le are.0, are.1, are.2, are.3, placed_more cells more l.notes older le are.4)

  -- other notes, of which there are enough
  placed_noted : (cells notes other : ℕ) (links : List code_link.Link) → notes_used links ≤ other → ArePlaced program cells notes links → ArePlaced program cells other links
  placed_noted cells notes other [] le are = tt
  placed_noted cells notes other (l ∷ older) le are = (are.0, are.1, le, are.3, are.4)

  pub used_within : (cells notes : ℕ) (links : List code_link.Link) → ArePlaced program cells notes links → notes_used links ≤ notes
  used_within cells notes [] are = omega arith
  used_within cells notes (l ∷ older) are = are.2

  -- the newest links are let go
  pub placed_left : (cells notes n : ℕ) (links : List code_link.Link) → ArePlaced program cells notes links → ArePlaced program cells notes (drop n links)
  placed_left cells notes zero links are = are
  placed_left cells notes (suc n) [] are = tt
  placed_left cells notes (suc n) (l ∷ older) are =
      placed_noted cells l.notes notes (drop n older)
      (omega (arith, are.2, used_within cells l.notes (drop n older) (placed_left cells l.notes n older are.4)))
      (placed_left cells l.notes n older are.4)

  -- what is placed now, whatever the choice points
  pub moment_now : (query : ℕ) (changes : List Change) (notes : ℕ) (links : List code_link.Link) (points : List code_point.ChoicePoint) → Moments program query changes notes links points → IsMoment program query (size_of changes) notes links
  moment_now query changes notes links [] are = are
  moment_now query changes notes links (p ∷ ps) are = are.0

  moment_more : (query cells more notes : ℕ) (links : List code_link.Link) → cells ≤ more → IsMoment program query cells notes links → IsMoment program query more notes links
  moment_more query cells more notes links le is = (omega (arith, le, is.0), placed_more cells more notes links le is.1)

  -- another moment now, with the links that the newest choice point holds
  other_now : (query : ℕ) (changes : List Change) (notes other : ℕ) (links new : List code_link.Link) (points : List code_point.ChoicePoint) → IsMoment program query (size_of changes) other new → notes_held points ≤ other → links_held points ≤ length new →
      (links_held points ≤ length links → drop (length new - links_held points) new ≡ drop (length links - links_held points) links) → Moments program query changes notes links points → Moments program query changes other new points
  other_now query changes notes other links new [] now enough held same are = now
  other_now query changes notes other links new (p ∷ ps) now enough held same are = (
    now,
    record { trail = are.1.trail; fewer_links = held; fewer_notes = enough; placed = are.1.placed; noted = are.1.noted; wide = are.1.wide },
    subst (λ ls. Moments program query (undone p.trail changes) p.notes ls ps) (sym (same are.1.fewer_links)) are.2,
  )

  pub held_within : (query : ℕ) (changes : List Change) (notes : ℕ) (links : List code_link.Link) (points : List code_point.ChoicePoint) → Moments program query changes notes links points → (links_held points ≤ length links) × (notes_held points ≤ notes)
  held_within query changes notes links [] are = (omega arith, omega arith)
  held_within query changes notes links (p ∷ ps) are = (are.1.fewer_links, are.1.fewer_notes)

  -- notes are added
  pub more_notes : (query : ℕ) (changes : List Change) (notes more : ℕ) (links : List code_link.Link) (points : List code_point.ChoicePoint) → notes ≤ more → Moments program query changes notes links points → Moments program query changes more links points
  more_notes query changes notes more links points le are =
      let now = moment_now query changes notes links points are in
      let within = held_within query changes notes links points are in
      let used = used_within (size_of changes) notes links now.1 in
      other_now query changes notes more links links points (now.0, placed_noted (size_of changes) notes more links (omega (arith, used, le)) now.1) (omega (arith, within.1, le)) within.0 (λ held. refl) are

  -- a link is added
  pub added : (query : ℕ) (changes : List Change) (notes : ℕ) (l : code_link.Link) (links : List code_link.Link) (points : List code_point.ChoicePoint) → IsTaskPlaced program (size_of changes) l.task → IsTaskNoted notes l.task →
      l.notes ≡ notes → l.next ≤ length links → Moments program query changes notes links points → Moments program query changes notes (l ∷ links) points
  added query changes notes l links points placed noted is next are =
      let now = moment_now query changes notes links points are in
      let within = held_within query changes notes links points are in
      let below = subst (λ n. ArePlaced program (size_of changes) n links) (sym is) now.1 in
      let count : links_held points ≤ length links → length (l ∷ links) - links_held points ≡ suc (length links - links_held points) = λ held. omega (arith, held) in
      other_now query changes notes notes links (l ∷ links) points
      (now.0, (placed, subst (λ n. IsTaskNoted n l.task) (sym is) noted, omega (arith, is), next, below))
      within.1 (omega (arith, within.0)) (λ held. ap (λ n. drop n (l ∷ links)) (count held)) are

  -- links and notes are let go
  pub let_go : (query : ℕ) (changes : List Change) (notes left n : ℕ) (links : List code_link.Link) (points : List code_point.ChoicePoint) → n ≤ length links → links_held points ≤ length links - n → notes_used (drop n links) ≤ left → notes_held points ≤ left →
      Moments program query changes notes links points → Moments program query changes left (drop n links) points
  let_go query changes notes left n links points whole held used enough are =
      let now = moment_now query changes notes links points are in
      let size : length (drop n links) ≡ length links - n = length-drop n links in
      let within : links_held points ≤ length (drop n links) = omega (arith, held, size) in
      other_now query changes notes left links (drop n links) points
      (now.0, placed_noted (size_of changes) notes left (drop n links) used (placed_left (size_of changes) notes n links now.1)) enough within (λ all. left_twice (links_held points) n links whole within) are

  before_later : (more changes : List Change) (notes : ℕ) (links : List code_link.Link) (p : code_point.ChoicePoint) → IsMadeBefore program changes notes links p → IsMadeBefore program (more ++ changes) notes links p
  before_later more changes notes links p is = record {
    trail = omega (arith, is.trail, length-append more changes);
    fewer_links = is.fewer_links;
    fewer_notes = is.fewer_notes;
    placed = subst (λ cs. IsAlternativePlaced program (size_of cs) p.links p.alternative) (sym (lengths_stay p.trail more changes is.trail)) is.placed;
    noted = is.noted;
    wide = is.wide;
  }

  pub later : (query : ℕ) (more changes : List Change) (notes : ℕ) (links : List code_link.Link) (points : List code_point.ChoicePoint) → Moments program query changes notes links points → Moments program query (more ++ changes) notes links points
  later query more changes notes links [] are = moment_more query (size_of changes) (size_of (more ++ changes)) notes links (sizes_stay more changes) are
  later query more changes notes links (p ∷ ps) are = (
    moment_more query (size_of changes) (size_of (more ++ changes)) notes links (sizes_stay more changes) are.0,
    before_later more changes notes links p are.1,
    subst (λ cs. Moments program query cs p.notes (drop (length links - p.links) links) ps) (sym (lengths_stay p.trail more changes are.1.trail)) are.2,
  )

  before_off : (changes : List Change) (notes : ℕ) (links : List code_link.Link) (p q : code_point.ChoicePoint) → IsMadeBefore program changes notes links p →
      IsMadeBefore program (undone p.trail changes) p.notes (drop (length links - p.links) links) q → IsMadeBefore program changes notes links q
  before_off changes notes links p q is older =
      let trails : length (undone p.trail changes) ≡ p.trail = undone_length p.trail changes is.trail in
      let left : length (drop (length links - p.links) links) ≡ length links - (length links - p.links) = length-drop (length links - p.links) links in
      record {
        trail = omega (arith, trails, older.trail, is.trail);
        fewer_links = omega (arith, left, older.fewer_links, is.fewer_links);
        fewer_notes = omega (arith, older.fewer_notes, is.fewer_notes);
        placed = subst (λ cs. IsAlternativePlaced program (size_of cs) q.links q.alternative) (undone_twice q.trail p.trail changes (omega (arith, trails, older.trail))) older.placed;
        noted = older.noted;
        wide = older.wide;
      }

  pub off : (query : ℕ) (changes : List Change) (notes : ℕ) (links : List code_link.Link) (p : code_point.ChoicePoint) (ps : List code_point.ChoicePoint) → Moments program query changes notes links (p ∷ ps) → Moments program query changes notes links ps
  off query changes notes links p [] are = are.0
  off query changes notes links p (q ∷ qs) are =
      let trails : length (undone p.trail changes) ≡ p.trail = undone_length p.trail changes are.1.trail in
      let left : length (drop (length links - p.links) links) ≡ length links - (length links - p.links) = length-drop (length links - p.links) links in
      let older = are.2.1 in
      let same_changes : undone q.trail (undone p.trail changes) ≡ undone q.trail changes = undone_twice q.trail p.trail changes (omega (arith, trails, older.trail)) in
      let same_links : drop (length (drop (length links - p.links) links) - q.links) (drop (length links - p.links) links) ≡ drop (length links - q.links) links = left_twice q.links (length links - p.links) links (omega arith) older.fewer_links in
      (are.0, before_off changes notes links p q are.1 older, subst (λ cs. Moments program query cs q.notes (drop (length links - q.links) links) qs) same_changes (subst (λ ls. Moments program query (undone q.trail (undone p.trail changes)) q.notes ls qs) same_links are.2.2))

  pub made : (query : ℕ) (changes : List Change) (notes : ℕ) (links : List code_link.Link) (p : code_point.ChoicePoint) (ps : List code_point.ChoicePoint) → p.trail ≡ length changes → p.links ≡ length links → p.notes ≡ notes →
      IsAlternativePlaced program (size_of changes) (length links) p.alternative → IsAlternativeNoted notes p.alternative → IsWide p.alternative → Moments program query changes notes links ps → Moments program query changes notes links (p ∷ ps)
  made query changes notes links p ps trail fewer_links fewer_notes placed noted wide are =
      let now : undone p.trail changes ≡ changes = undone_here p.trail changes (omega (arith, trail)) in
      let none : 0 ≡ length links - p.links = omega (arith, fewer_links) in (
        moment_now query changes notes links ps are,
        record {
          trail = omega (arith, trail);
          fewer_links = omega (arith, fewer_links);
          fewer_notes = omega (arith, fewer_notes);
          placed = subst (λ n. IsAlternativePlaced program (size_of (undone p.trail changes)) n p.alternative) (sym fewer_links) (subst (λ cs. IsAlternativePlaced program (size_of cs) (length links) p.alternative) (sym now) placed);
          noted = subst (λ n. IsAlternativeNoted n p.alternative) (sym fewer_notes) noted;
          wide = wide;
        },
        subst (λ n. Moments program query (undone p.trail changes) p.notes (drop n links) ps) none (subst (λ n. Moments program query (undone p.trail changes) n links ps) (sym fewer_notes) (subst (λ cs. Moments program query cs notes links ps) (sym now) are)),
      )

  pub moments_stay : MomentsStay program
  moments_stay = record { later = later; off = off; back = λ query changes notes links p ps are. are.2; made = made; more_notes = more_notes; added = added; let_go = let_go }

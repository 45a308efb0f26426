-- What cells and a trail tell after each change.
use Rattle.std.proofs.Common.{◌≡◌, ℕ, zero, suc, ◌+◌, ◌-◌, ◌^◌, ◌<◌, ◌≤◌, ◌⊎◌, inl, inr, List, [], ◌∷◌, ◌++◌, reverse, length, map, get_or, take, drop, replicate, refl, sym, ap, ◌∙◌, subst, arith}
use Rattle.std.specs.Prelude.{if◌then◌else◌, slice_set}
use Rattle.std.proofs.lemmas.List.{get_or-set_same, length-append, length-set, length-reverse, map-append, reverse-append, reverse-reverse, set-set, set-get_or, take_at, drop_at, take_all, drop_all, append-nil, length-drop}
use Rattle.std.proofs.lemmas.Bool.{le-leb, lt-leb, cases_lt}
use Rattle.term_heap.specs.declared.cells.Cell.{Cell}
use Rattle.term_heap.specs.declared.cells.Cell.TheVariants.{Free, Ref}
use Rattle.term_heap.specs.declared.trails.Entry.{Entry}
use Rattle.term_heap.specs.declared.trails.Entry.TheVariants.{Grew, Bound}
use Rattle.term_heap.specs.Changes.{Change, Grows, Binds, cell_at, cells_of, NameBelow, MayBind, IsMade, undone, serial_of, serials, AreUpTo}
use Rattle.term_heap.specs.Histories.{reference, entry_serial, changes_of, IsKept}

-- as many changes as entries
pub length-changes : (cells : List Cell) (es : List Entry) → length (changes_of cells es) ≡ length es
length-changes cells [] = refl
length-changes cells (Grew from s ∷ es) = ap suc (length-changes (take from cells) es)
length-changes cells (Bound at s ∷ es) = ap suc (length-changes (slice_set cells at Free) es)

pub trail_length : (cells : List Cell) (trail : List Entry) → length (changes_of cells (reverse trail)) ≡ length trail
trail_length cells trail = length-changes cells (reverse trail) ∙ length-reverse trail

-- an entry at the end of the trail is the newest
pub newest : (trail : List Entry) (e : Entry) → reverse (trail ++ e ∷ []) ≡ e ∷ reverse trail
newest trail e = reverse-append trail (e ∷ [])

-- a binding
free_again : (cells : List Cell) (at : ℕ) (c : Cell) → cell_at cells at ≡ Free → slice_set (slice_set cells at c) at Free ≡ cells
free_again cells at c free = set-set cells at c Free ∙ ap (slice_set cells at) (sym free) ∙ set-get_or cells at Free

pub bound_changes : (cells : List Cell) (trail : List Entry) (at to s : ℕ) → at < length cells → cell_at cells at ≡ Free →
    changes_of (slice_set cells at (Ref to)) (reverse (trail ++ Bound at s ∷ [])) ≡ Binds at to s ∷ changes_of cells (reverse trail)
bound_changes cells trail at to s lt free =
    ap (changes_of (slice_set cells at (Ref to))) (newest trail (Bound at s))
    ∙ ap (λ c. Binds at (reference c) s ∷ changes_of (slice_set (slice_set cells at (Ref to)) at Free) (reverse trail)) (get_or-set_same cells at (Ref to) Free lt)
    ∙ ap (λ cs. Binds at to s ∷ changes_of cs (reverse trail)) (free_again cells at (Ref to) free)

-- serials up to one are up to a later one
up_to_more : (last s : ℕ) (changes : List Change) → last ≤ s → AreUpTo last changes → AreUpTo s changes
up_to_more last s [] le up = tt
up_to_more last s (c ∷ changes) le up = (omega (arith, up.0, le), up_to_more last s changes le up.1)

-- kept cells stay kept after a binding
pub bound_kept : (cells : List Cell) (trail : List Entry) (last at to s : ℕ) → last ≤ s → s < 2 ^ 64 → IsKept cells trail last → MayBind (changes_of cells (reverse trail)) at to →
    IsKept (slice_set cells at (Ref to)) (trail ++ Bound at s ∷ []) s
bound_kept cells trail last at to s le small kept may =
    let old : List Change = changes_of cells (reverse trail) in
    let is_new : _ ≡ Binds at to s ∷ old = bound_changes cells trail at to s (subst (λ cs. at < length cs) kept.same may.bound) (ap (λ cs. cell_at cs at) (sym kept.same) ∙ may.free) in
    record {
      same = ap cells_of is_new ∙ ap (λ cs. slice_set cs at (Ref to)) kept.same;
      made = subst IsMade (sym is_new) (may, kept.made);
      given = subst (AreUpTo s) (sym is_new) (omega arith, up_to_more last s old le kept.given);
      small = small;
    }

-- new cells
pub grown_changes : (cells more : List Cell) (trail : List Entry) (from s : ℕ) → from ≡ length cells →
    changes_of (cells ++ more) (reverse (trail ++ Grew from s ∷ [])) ≡ Grows more s ∷ changes_of cells (reverse trail)
grown_changes cells more trail from s e =
    ap (changes_of (cells ++ more)) (newest trail (Grew from s))
    ∙ ap (λ cs. Grows cs s ∷ changes_of (take from (cells ++ more)) (reverse trail)) (drop_at cells more from (sym e))
    ∙ ap (λ cs. Grows more s ∷ changes_of cs (reverse trail)) (take_at cells more from (sym e))

pub grown_kept : (cells more : List Cell) (trail : List Entry) (last from s : ℕ) → last ≤ s → s < 2 ^ 64 → from ≡ length cells → IsKept cells trail last → NameBelow (length cells) more →
    IsKept (cells ++ more) (trail ++ Grew from s ∷ []) s
grown_kept cells more trail last from s le small e kept names =
    let is_new : _ ≡ Grows more s ∷ changes_of cells (reverse trail) = grown_changes cells more trail from s e in
    record {
      same = ap cells_of is_new ∙ ap (λ cs. cs ++ more) kept.same;
      made = subst IsMade (sym is_new) (subst (λ cs. NameBelow (length cs) more) (sym kept.same) names, kept.made);
      given = subst (AreUpTo s) (sym is_new) (omega arith, up_to_more last s (changes_of cells (reverse trail)) le kept.given);
      small = small;
    }

-- changes that were undone

pub undone_here : (n : ℕ) (changes : List Change) → length changes ≤ n → undone n changes ≡ changes
undone_here n [] le = refl
undone_here n (c ∷ older) le = ap (λ b. if b then c ∷ older else undone n older) (le-leb (suc (length older)) n (omega (arith, le)))

pub undone_more : (n : ℕ) (c : Change) (older : List Change) → n ≤ length older → undone n (c ∷ older) ≡ undone n older
undone_more n c older le = ap (λ b. if b then c ∷ older else undone n older) (lt-leb (suc (length older)) n (omega (arith, le)))

-- the newest change is undone

abbrev pub Undoes : (n last : ℕ) → List Cell → List Entry → List Cell → List Entry → Type 0
Undoes n last cells old new trail = IsKept new trail last × (undone n (changes_of new (reverse trail)) ≡ undone n (changes_of cells (reverse old)))

cut_off : (older cells : List Cell) (from : ℕ) → older ++ drop from cells ≡ cells → older ≡ take from cells
cut_off older cells from e = by_size (cases_lt (length cells) from) where
  by_size : (length cells < from) ⊎ (from ≤ length cells) → older ≡ take from cells
  by_size (inl less) =
      sym (append-nil older) ∙ ap (λ cs. older ++ cs) (sym (drop_all from cells (omega (arith, less)))) ∙ e ∙ sym (take_all from cells (omega (arith, less)))
  by_size (inr le) =
      let sizes : length older + (length cells - from) ≡ length cells = ap (λ n. length older + n) (sym (length-drop from cells)) ∙ sym (length-append older (drop from cells)) ∙ ap length e in
      sym (take_at older (drop from cells) from (omega (arith, sizes, le))) ∙ ap (take from) e

pub undoes_grew : (n last : ℕ) (cells : List Cell) (old trail : List Entry) (from s : ℕ) → old ≡ trail ++ Grew from s ∷ [] → IsKept cells old last → n ≤ length trail →
    Undoes n last cells old (take from cells) trail
undoes_grew n last cells old trail from s e kept le =
    let older : List Change = changes_of (take from cells) (reverse trail) in
    let is_old : changes_of cells (reverse old) ≡ Grows (drop from cells) s ∷ older = ap (λ es. changes_of cells (reverse es)) e ∙ ap (changes_of cells) (newest trail (Grew from s)) in
    let made : IsMade (Grows (drop from cells) s ∷ older) = subst IsMade is_old kept.made in
    let whole : cells_of older ++ drop from cells ≡ cells = ap cells_of (sym is_old) ∙ kept.same in (
      (record { same = cut_off (cells_of older) cells from whole; made = made.1; given = (subst (AreUpTo last) is_old kept.given).1; small = kept.small }),
      sym (ap (undone n) is_old ∙ undone_more n (Grows (drop from cells) s) older (subst (λ k. n ≤ k) (sym (trail_length (take from cells) trail)) le)),
    )

pub undoes_bound : (n last : ℕ) (cells : List Cell) (old trail : List Entry) (at s : ℕ) → old ≡ trail ++ Bound at s ∷ [] → IsKept cells old last → n ≤ length trail →
    Undoes n last cells old (slice_set cells at Free) trail
undoes_bound n last cells old trail at s e kept le =
    let older : List Change = changes_of (slice_set cells at Free) (reverse trail) in
    let to : ℕ = reference (cell_at cells at) in
    let is_old : changes_of cells (reverse old) ≡ Binds at to s ∷ older = ap (λ es. changes_of cells (reverse es)) e ∙ ap (changes_of cells) (newest trail (Bound at s)) in
    let made : IsMade (Binds at to s ∷ older) = subst IsMade is_old kept.made in
    let whole : slice_set (cells_of older) at (Ref to) ≡ cells = ap cells_of (sym is_old) ∙ kept.same in
    let before : cells_of older ≡ slice_set cells at Free = sym (free_again (cells_of older) at (Ref to) made.0.free) ∙ ap (λ cs. slice_set cs at Free) whole in (
      (record { same = before; made = made.1; given = (subst (AreUpTo last) is_old kept.given).1; small = kept.small }),
      sym (ap (undone n) is_old ∙ undone_more n (Binds at to s) older (subst (λ k. n ≤ k) (sym (trail_length (slice_set cells at Free) trail)) le)),
    )

-- a cell that the newest entry bound is there
pub bound_within : (cells : List Cell) (old trail : List Entry) (last at s : ℕ) → old ≡ trail ++ Bound at s ∷ [] → IsKept cells old last → at < length cells
bound_within cells old trail last at s e kept =
    let older : List Change = changes_of (slice_set cells at Free) (reverse trail) in
    let to : ℕ = reference (cell_at cells at) in
    let is_old : changes_of cells (reverse old) ≡ Binds at to s ∷ older = ap (λ es. changes_of cells (reverse es)) e ∙ ap (changes_of cells) (newest trail (Bound at s)) in
    let made : IsMade (Binds at to s ∷ older) = subst IsMade is_old kept.made in
    let whole : slice_set (cells_of older) at (Ref to) ≡ cells = ap cells_of (sym is_old) ∙ kept.same in
    omega (arith, made.0.bound, length-set (cells_of older) at (Ref to), ap length whole)

-- free cells

pub frees_below : (n count : ℕ) → NameBelow n (replicate count Free)
frees_below n zero = tt
frees_below n (suc count) = (tt, frees_below (suc n) count)

pub frees_added : (cells new : List Cell) (from size count k : ℕ) → new ≡ take size cells ++ replicate k Free → from ≡ length cells → size ≡ from + count → k ≡ size - from → new ≡ cells ++ replicate count Free
frees_added cells new from size count k is_new is_from is_size is_k =
    is_new ∙ ap (λ cs. cs ++ replicate k Free) (take_all size cells (omega (arith, is_from, is_size))) ∙ ap (λ n. cells ++ replicate n Free) (omega (arith, is_size, is_k))

-- serials

map_reverse : {X Y : Type 0} (f : X → Y) (xs : List X) → map f (reverse xs) ≡ reverse (map f xs)
map_reverse f [] = refl
map_reverse f (x ∷ xs) = ap (map f) (reverse-append (x ∷ []) xs) ∙ map-append f (reverse xs) (x ∷ []) ∙ ap (λ ys. ys ++ f x ∷ []) (map_reverse f xs) ∙ sym (reverse-append (f x ∷ []) (map f xs))

all_serials : (cells : List Cell) (es : List Entry) → map serial_of (changes_of cells es) ≡ map entry_serial es
all_serials cells [] = refl
all_serials cells (Grew from s ∷ es) = ap (λ ss. s ∷ ss) (all_serials (take from cells) es)
all_serials cells (Bound at s ∷ es) = ap (λ ss. s ∷ ss) (all_serials (slice_set cells at Free) es)

pub trail_serials : (cells : List Cell) (trail : List Entry) → serials (changes_of cells (reverse trail)) ≡ map entry_serial trail
trail_serials cells trail =
    map_reverse serial_of (changes_of cells (reverse trail)) ∙ ap reverse (all_serials cells (reverse trail) ∙ map_reverse entry_serial trail) ∙ reverse-reverse (map entry_serial trail)

pub serial_there : (trail : List Entry) (at : ℕ) (e : Entry) → at < length trail → e ≡ get_or trail at e → entry_serial e ≡ get_or (map entry_serial trail) at 0
serial_there [] at e lt is = absurd (omega (arith, lt))
serial_there (x ∷ xs) zero e lt is = ap entry_serial is
serial_there (x ∷ xs) (suc at) e lt is = serial_there xs at e (omega (arith, lt)) is

-- Later changes leave what was there.
use Rattle.std.proofs.Common.{◌≡◌, ◌≤◌, ◌<◌, ◌⊎◌, inl, inr, ◌+◌, ◌^◌, ℕ, List, [], ◌∷◌, ◌++◌, length, refl, sym, ap, ◌∙◌, arith}
use Rattle.std.specs.List.{AllByRecursion}
use Rattle.std.proofs.lemmas.Bool.{cases_eq, cases_lt}
use Rattle.std.proofs.lemmas.List.{append_assoc, length-append, length-set, get_or_append_left, get_or-set_other}
use Rattle.term_heap.specs.declared.cells.Cell.{Cell}
use Rattle.term_heap.specs.declared.cells.Cell.TheVariants.{Free, Ref}
use Rattle.term_heap.specs.Changes.{Change, Grows, Binds, cells_of, cell_at, size_of, undone, History, IsMade, ComesAfter, serial_of, next_serial}
use Rattle.term_heap.specs.PastStays.{GoesOn, with_change}
use Rattle.term_heap.proofs.HistoryLaws.{undone_more}

pub lengths_stay : (n : ℕ) (more old : List Change) → n ≤ length old → undone n (more ++ old) ≡ undone n old
lengths_stay n [] old le = refl
lengths_stay n (c ∷ more) old le = undone_more n c (more ++ old) (omega (arith, le, length-append more old)) ∙ lengths_stay n more old le

pub sizes_stay : (more old : List Change) → size_of old ≤ size_of (more ++ old)
sizes_stay [] old = omega arith
sizes_stay (Grows cells s ∷ more) old = omega (arith, sizes_stay more old, length-append (cells_of (more ++ old)) cells)
sizes_stay (Binds at to s ∷ more) old = omega (arith, sizes_stay more old, length-set (cells_of (more ++ old)) at (Ref to))

pub cells_stay : (more old : List Change) (i : ℕ) → IsMade (more ++ old) → i < size_of old → (cell_at (cells_of old) i ≡ Free → ⊥) → cell_at (cells_of (more ++ old)) i ≡ cell_at (cells_of old) i
cells_stay [] old i made lt bound = refl
cells_stay (Grows cells s ∷ more) old i made lt bound =
    get_or_append_left (cells_of (more ++ old)) cells Free i (omega (arith, lt, sizes_stay more old)) ∙ cells_stay more old i made.1 lt bound
cells_stay (Binds at to s ∷ more) old i made lt bound = by_place (cells_stay more old i made.1 lt bound) (cases_eq i at) where
  by_place : cell_at (cells_of (more ++ old)) i ≡ cell_at (cells_of old) i → (i ≡ at) ⊎ (i ≡ at → ⊥) → cell_at (cells_of (Binds at to s ∷ more ++ old)) i ≡ cell_at (cells_of old) i
  by_place before (inl e) = absurd (bound (sym before ∙ ap (cell_at (cells_of (more ++ old))) e ∙ made.0.free))
  by_place before (inr ne) = get_or-set_other (cells_of (more ++ old)) at i (Ref to) Free ne ∙ before

-- serials

pub serial_after : (last : ℕ) → ComesAfter last (next_serial last)
serial_after last = by_size (cases_lt (last + 1) (2 ^ 64)) where
  by_size : (last + 1 < 2 ^ 64) ⊎ (2 ^ 64 ≤ last + 1) → ComesAfter last (next_serial last)
  by_size (inl less) = inl (omega (arith, less))
  by_size (inr more) = inr (omega (arith, more))

pub grows_on : (old : History) (cells : List Cell) → old.last < 2 ^ 64 → GoesOn old (with_change old (Grows cells))
grows_on old cells small = record { more = Grows cells (next_serial old.last) ∷ []; is_new = refl; serials = (serial_after old.last, tt); last = omega (arith, small) }

pub binds_on : (old : History) (at to : ℕ) → old.last < 2 ^ 64 → GoesOn old (with_change old (Binds at to))
binds_on old at to small = record { more = Binds at to (next_serial old.last) ∷ []; is_new = refl; serials = (serial_after old.last, tt); last = omega (arith, small) }

pub after_earlier : (first last s : ℕ) → first ≤ last → ComesAfter last s → ComesAfter first s
after_earlier first last s le (inl less) = inl (omega (arith, less, le))
after_earlier first last s le (inr at_end) = inr at_end

all_earlier : (first last : ℕ) (more : List Change) → first ≤ last → AllByRecursion (λ c. ComesAfter last (serial_of c)) more → AllByRecursion (λ c. ComesAfter first (serial_of c)) more
all_earlier first last [] le all = tt
all_earlier first last (c ∷ more) le all = (after_earlier first last (serial_of c) le all.0, all_earlier first last more le all.1)

all_after : (last : ℕ) (xs ys : List Change) → AllByRecursion (λ c. ComesAfter last (serial_of c)) xs → AllByRecursion (λ c. ComesAfter last (serial_of c)) ys → AllByRecursion (λ c. ComesAfter last (serial_of c)) (xs ++ ys)
all_after last [] ys all others = others
all_after last (c ∷ xs) ys all others = (all.0, all_after last xs ys all.1 others)

pub goes_further : (first mid last : History) → GoesOn first mid → GoesOn mid last → GoesOn first last
goes_further first mid last one two = record {
  more = two.more ++ one.more;
  is_new = two.is_new ∙ ap (λ cs. two.more ++ cs) one.is_new ∙ sym (append_assoc two.more one.more first.changes);
  serials = all_after first.last two.more one.more (all_earlier first.last mid.last two.more one.last two.serials) one.serials;
  last = omega (arith, one.last, two.last);
}

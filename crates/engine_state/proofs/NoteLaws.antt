-- Notes that are added behind those that are held.
use Rattle.std.proofs.Common.{◌≡◌, ◌≤◌, ◌+◌, ◌-◌, ℕ, List, [], ◌∷◌, ◌++◌, map, length, take, drop, reverse, refl, sym, ap, ◌∙◌, arith}
use Rattle.std.proofs.lemmas.List.{length-drop, length-take-le, drop-append-le, drop-take, take-append-le, take-take, reverse-append, map-append}
use Rattle.std.specs.List.{AllByRecursion}
use Rattle.clause_index.specs.declared.keys.Key.{Key}
use Rattle.engine_state.specs.declared.tasks.Row.{Row}
use Rattle.engine_state.specs.declared.tasks.Task as code_task
use Rattle.engine_state.specs.declared.tasks.Task.TheVariants as task
use Rattle.engine_state.specs.declared.points.Alternative as code_alternative
use Rattle.engine_state.specs.declared.points.Alternative.TheVariants as alternative
use Rattle.engine_state.specs.Engines.{Leaves, Retries, Marks}
use Rattle.engine_state.specs.Selections.{clauses_left}
use Rattle.engine_state.specs.Views.{row_of, as_exit, as_task, as_link, as_alternative, as_point}
use Rattle.engine_state.specs.Notes.{IsRowWithin, IsTaskNoted, IsAlternativeNoted, NotesStay}

-- part of a front, seen in the whole
within_front : (first count held : ℕ) (xs : List ℕ) → first + count ≤ held → take count (drop first (take held xs)) ≡ take count (drop first xs)
within_front first count held xs le =
    let split : held ≡ first + (held - first) = omega (arith, le) in
    ap (λ n. take count (drop first (take n xs))) split
    ∙ ap (take count) (drop-take first (held - first) xs)
    ∙ take-take count (held - first) (drop first xs) (omega (arith, le))

module _ (held : ℕ) (old more : List ℕ) (enough : held ≤ length old) where
  abbrev new : List ℕ
  new = take held old ++ more

  size : length (take held old) ≡ held
  size = length-take-le held old enough

  row_stays : (row : Row) → IsRowWithin held row → row_of new row ≡ row_of old row
  row_stays row le =
      let front = take held old in
      let left : length (drop row.first front) ≡ length front - row.first = length-drop row.first front in
      ap (take row.count) (drop-append-le row.first front more (omega (arith, size, le)))
      ∙ take-append-le row.count (drop row.first front) more (omega (arith, size, left, le))
      ∙ within_front row.first row.count held old le

  task_stays : (t : code_task.Task) → IsTaskNoted held t → as_task new t ≡ as_task old t
  task_stays (task.Runs goal base h place) within = refl
  task_stays (task.Cuts h) within = refl
  task_stays (task.Fails h place) within = refl
  task_stays (task.Leaves e) within = ap (λ noted. Leaves (record (as_exit old e) { noted = noted })) (row_stays e.noted within)

  alternative_stays : (index : List (List Key)) (a : code_alternative.Alternative) → IsAlternativeNoted held a → as_alternative index new a ≡ as_alternative index old a
  alternative_stays index (alternative.Resumes rest) within = refl
  alternative_stays index (alternative.Retries key next end c) within =
      ap (λ noted. Retries (clauses_left index c.exit.pred key next end) (record { exit = record (as_exit old c.exit) { noted = noted }; height = c.height; rest = c.rest })) (row_stays c.exit.noted within)
  alternative_stays index (alternative.Marks p conds exited) within = ap (λ noted. Marks p noted exited) (row_stays conds within)

-- a map over a list in reverse
reversed_same : {X Y : Type 0} (f g : X → Y) (P : X → Type 0) (xs : List X) → ((x : X) → P x → f x ≡ g x) → AllByRecursion P xs → map f (reverse xs) ≡ map g (reverse xs)
reversed_same f g P [] same all = refl
reversed_same f g P (x ∷ xs) same all =
    ap (map f) (reverse-append (x ∷ []) xs) ∙ map-append f (reverse xs) (x ∷ [])
    ∙ (λ i. reversed_same f g P xs same all.1 i ++ same x all.0 i ∷ [])
    ∙ sym (ap (map g) (reverse-append (x ∷ []) xs) ∙ map-append g (reverse xs) (x ∷ []))

pub notes_stay : NotesStay
notes_stay = record {
  rows = λ held old more row enough within. row_stays held old more enough row within;
  links = λ held old more items enough all.
      reversed_same (as_link (take held old ++ more)) (as_link old) (λ l. IsTaskNoted held l.task) items (λ l within. ap (λ t. record { task = t; next = l.next }) (task_stays held old more enough l.task within)) all;
  points = λ index held old more items enough all.
      reversed_same (as_point index (take held old ++ more)) (as_point index old) (λ p. IsAlternativeNoted held p.alternative) items
      (λ p within. ap (λ a. record { trail = p.trail; links = p.links; below = p.below; alternative = a }) (alternative_stays held old more enough index p.alternative within)) all;
}

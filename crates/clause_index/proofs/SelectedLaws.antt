-- What is selected of the keys of a program.
use Rattle.std.proofs.Common.{◌≡◌, ◌+◌, ◌<◌, ◌≤◌, ℕ, zero, suc, true, false, ◌⊎◌, inl, inr, List, [], ◌∷◌, map, length, get_or, refl, ap, sym, ◌∙◌, subst, arith}
use Rattle.std.specs.Prelude.{filter, slice_get, None, Some}
use Rattle.std.specs.List.{list_all, AllByRecursion}
use Rattle.std.specs.Option.{option_map_or}
use Rattle.std.proofs.lemmas.Bool.{and_parts}
use Rattle.std.proofs.lemmas.List.{get_or_past}
use Rattle.std.proofs.lemmas.Option.{slice_get-get_or, slice_get_cases}
use Rattle.term_core.specs.declared.terms.Term.{Term}
use Rattle.prog_data.specs.declared.programs.Clause.{Clause}
use Rattle.prog_data.specs.declared.programs.Pred.{Pred}
use Rattle.prog_data.specs.declared.programs.Program.{Program}
use Rattle.prog_data.specs.Goals.{no_pred, pred_of}
use Rattle.prog_data.specs.Ranges.{is_clause_of}
use Rattle.prog_data.specs.Programs.{IsProgram}
use Rattle.clause_index.specs.declared.keys.Key.{Key}
use Rattle.clause_index.specs.declared.keys.Key.TheVariants.{Free}
use Rattle.clause_index.specs.Keys.{first_key, head_key, agrees}
use Rattle.clause_index.specs.Selected.{numbers, selected, program_keys, keys_at, can_match}
use Rattle.clause_index.specs.Laws.{SelectsInOrder, SelectsAll}
use Rattle.clause_index.proofs.KeyLaws.{equal_numbers, agrees_free}
use Rattle.clause_index.proofs.PlaceLaws.{places_from, by_numbers, places_map, all_places, selected_is}

at_map : {A B : Type 0} (f : A → B) (xs : List A) (i : ℕ) (d : A) → get_or (map f xs) i (f d) ≡ f (get_or xs i d)
at_map f [] i d = refl
at_map f (x ∷ xs) zero d = refl
at_map f (x ∷ xs) (suc i) d = at_map f xs i d

module _ (program : Program) (p : ℕ) where
  abbrev clauses : List Clause
  clauses = (pred_of program p).clauses

  -- the keys of a predicate are those of its clauses
  keys_are : keys_at (program_keys program) p ≡ map head_key clauses
  keys_are = at_map (λ pred. map head_key pred.clauses) program.preds p no_pred

  -- so the places of the clauses with a key that agrees are selected
  in_places : (key : Key) → selected (keys_at (program_keys program) p) key ≡ places_from (λ clause. agrees key (head_key clause)) 0 clauses
  in_places key = ap (λ keys. selected keys key) keys_are ∙ selected_is (map head_key clauses) key ∙ places_map head_key (agrees key) 0 clauses

  in_order : (key : Key) → selected (keys_at (program_keys program) p) key ≡ filter (can_match program p key) (numbers 0 (length clauses))
  in_order key =
      in_places key
      ∙ sym (by_numbers (λ clause. agrees key (head_key clause)) (can_match program p key) 0 clauses
      (λ i clause e. let place : 0 + i ≡ i = omega arith in ap (can_match program p key) place ∙ ap (λ o. option_map_or (λ c. agrees key (head_key c)) o false) e))

  -- all are, where each agrees
  all_of : (key : Key) → AllByRecursion (λ clause. agrees key (head_key clause) ≡ true) clauses → selected (keys_at (program_keys program) p) key ≡ numbers 0 (length clauses)
  all_of key all = in_places key ∙ all_places (λ clause. agrees key (head_key clause)) 0 clauses all

pub in_order_all : SelectsInOrder
in_order_all = in_order

-- a free key agrees with each
free_agrees : (cs : List Clause) → AllByRecursion (λ clause. agrees Free (head_key clause) ≡ true) cs
free_agrees [] = tt
free_agrees (c ∷ cs) = (refl, free_agrees cs)

-- so does each key with a head that has no arguments
no_argument : (key : Key) (ts : List Term) → length ts ≡ 0 → agrees key (first_key ts) ≡ true
no_argument key [] none = agrees_free key Free refl
no_argument key (t ∷ ts) none = absurd (omega (arith, none))

none_agree : (program : Program) (arity : ℕ) (key : Key) (cs : List Clause) → arity ≡ 0 → list_all (is_clause_of program arity) cs ≡ true → AllByRecursion (λ clause. agrees key (head_key clause) ≡ true) cs
none_agree program arity key [] none is = tt
none_agree program arity key (c ∷ cs) none is =
    let parts = and_parts (is_clause_of program arity c) (list_all (is_clause_of program arity) cs) is in
    let head = and_parts _ _ (and_parts _ _ parts.0).0 in
    (no_argument key c.head (equal_numbers (length c.head) arity head.0 ∙ none), none_agree program arity key cs none parts.1)

no_arguments : (program : Program) → IsProgram program → (p : ℕ) (key : Key) → (pred_of program p).arity ≡ 0 → selected (keys_at (program_keys program) p) key ≡ numbers 0 (length (pred_of program p).clauses)
no_arguments program is p key none = all_of program p key (by_place (slice_get_cases program.preds p).1)
  where
    by_place : ((x : Pred) × (p < length program.preds) × (slice_get program.preds p ≡ Some x) × (get_or program.preds p x ≡ x)) ⊎ ((length program.preds ≤ p) × (slice_get program.preds p ≡ None)) →
        AllByRecursion (λ clause. agrees key (head_key clause) ≡ true) (pred_of program p).clauses
    by_place (inl l) = none_agree program (pred_of program p).arity key (pred_of program p).clauses none (is.preds p (pred_of program p) (slice_get-get_or program.preds p no_pred l.1)).clauses
    by_place (inr r) = subst (λ pred. AllByRecursion (λ clause. agrees key (head_key clause) ≡ true) pred.clauses) (sym (get_or_past program.preds p no_pred r.0)) tt

pub selects_all : SelectsAll
selects_all = record { free = λ program p. all_of program p Free (free_agrees (pred_of program p).clauses); no_arguments = no_arguments }

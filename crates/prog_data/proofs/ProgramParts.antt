-- In a program in range the conditions of a predicate are those that name it.
use Rattle.std.proofs.Common.{◌≡◌, ◌<◌, ◌≤◌, ℕ, zero, suc, true, ◌⊎◌, inl, inr, List, [], ◌∷◌, map, length, get_or, refl, ap, sym, ◌∙◌, subst, arith}
use Rattle.std.proofs.lemmas.List.{get_or_past}
use Rattle.std.proofs.lemmas.Bool.Decides.{nat_tests}
use Rattle.std.proofs.lemmas.Option.{slice_get-get_or, slice_get_cases, same_Some, none-some}
use Rattle.std.specs.Prelude.{Contains, filter, slice_get, None, Some, ◌==◌}
use Rattle.prog_data.specs.declared.conditions.Cond.{Cond}
use Rattle.prog_data.specs.declared.programs.Pred.{Pred}
use Rattle.prog_data.specs.declared.programs.Program.{Program}
use Rattle.prog_data.specs.Goals.{no_pred, pred_of}
use Rattle.prog_data.specs.Programs.{conditions_of, IsPred, IsProgram}
use Rattle.prog_data.specs.RangeLaws.{empty_program, PartsAgree}
use Rattle.prog_data.proofs.Leaves.{In, here, later, in_filter, filter_in}
use Rattle.prog_data.proofs.MembershipLaws.{in_contains, contains_in}

in_map : {A B : Type 0} {x : A} (f : A → B) (xs : List A) → In x xs → In (f x) (map f xs)
in_map f [] i = elim i [ ]
in_map f (x ∷ xs) here = here
in_map f (y ∷ xs) (later i) = later (in_map f xs i)

map_in : {A B : Type 0} {y : B} (f : A → B) (xs : List A) → In y (map f xs) → (x : A) × In x xs × (f x ≡ y)
map_in f [] i = elim i [ ]
map_in f (x ∷ xs) here = (x, here, refl)
map_in f (x ∷ xs) (later i) = let m = map_in f xs i in (m.0, later m.1, m.2)

-- an element has a place
place_in : {A : Type 0} {x : A} (xs : List A) → In x xs → (k : ℕ) × (slice_get xs k ≡ Some x)
place_in [] i = elim i [ ]
place_in (x ∷ xs) here = (0, refl)
place_in (y ∷ xs) (later i) = let m = place_in xs i in (suc m.0, m.1)

in_place : {A : Type 0} (x : A) (xs : List A) (k : ℕ) → slice_get xs k ≡ Some x → In x xs
in_place x [] k at = absurd (none-some x at)
in_place {A} x (y ∷ xs) zero at = subst (λ z. In z (y ∷ xs)) (same_Some y x at) here
in_place x (y ∷ xs) (suc k) at = later (in_place x xs k at)

equal : (a b : ℕ) → (a == b) ≡ true → a ≡ b
equal a b e = grind (arith, nat_tests)

same : (a b : ℕ) → a ≡ b → (a == b) ≡ true
same a b e = grind (arith, nat_tests)

module _ (program : Program) (is : IsProgram program) where
  -- a predicate that is there
  there : (p : ℕ) → p < length program.preds → IsPred program p (pred_of program p)
  there p lt = is.preds p (pred_of program p) (slice_get-get_or program.preds p no_pred lt)

  -- a condition among those that name a predicate names it, and has its number
  named : (p c : ℕ) (condition : Cond) → In c (conditions_of program p) → slice_get program.conds c ≡ Some condition → condition.pred ≡ p
  named p c condition i at =
      let m = map_in (λ cond. cond.id) (filter (λ cond. cond.pred == p) program.conds) i in
      let f = filter_in (λ cond. cond.pred == p) program.conds m.1 in
      let k = place_in program.conds f.0 in
      let number : k.0 ≡ c = sym (is.conds k.0 m.0 k.1).id ∙ m.2 in
      let one = same_Some m.0 condition (sym k.1 ∙ ap (slice_get program.conds) number ∙ at) in
      sym (ap (λ cond. cond.pred) one) ∙ equal m.0.pred p f.1

  own : (p c : ℕ) (condition : Cond) → Contains (pred_of program p).conds c → slice_get program.conds c ≡ Some condition → condition.pred ≡ p
  own p c condition has at = by_place (slice_get_cases program.preds p).1
    where
      by_place : ((x : Pred) × (p < length program.preds) × (slice_get program.preds p ≡ Some x) × (get_or program.preds p x ≡ x)) ⊎ ((length program.preds ≤ p) × (slice_get program.preds p ≡ None)) → condition.pred ≡ p
      by_place (inl l) = named p c condition (contains_in c (conditions_of program p) (subst (λ cs. Contains cs c) (there p l.1).conds has)) at
      by_place (inr r) = elim (contains_in c [] (subst (λ pred. Contains pred.conds c) (get_or_past program.preds p no_pred r.0) has)) [ ]

  -- and each that names it is one of its own
  all : (c : ℕ) (condition : Cond) → slice_get program.conds c ≡ Some condition → Contains (pred_of program condition.pred).conds c
  all c condition at =
      let found = is.conds c condition at in
      let i = in_filter (λ cond. cond.pred == condition.pred) program.conds (same condition.pred condition.pred refl) (in_place condition program.conds c at) in
      let m = subst (λ k. In k (conditions_of program condition.pred)) found.id (in_map (λ cond. cond.id) (filter (λ cond. cond.pred == condition.pred) program.conds) i) in
      subst (λ cs. Contains cs c) (sym (there condition.pred found.pred).conds) (in_contains (conditions_of program condition.pred) m)

empty : IsProgram empty_program
empty = record {
  ops = refl;
  files = refl;
  preds = λ p pred at. absurd (none-some pred at);
  conds = λ c condition at. absurd (none-some condition at);
  claims = refl;
  grammar = record { basic = refl; few = omega arith; closed = refl };
  rules = refl;
  exports = refl;
  entries = refl;
}

pub parts_agree : PartsAgree
parts_agree = record { own = own; all = all; empty = empty }

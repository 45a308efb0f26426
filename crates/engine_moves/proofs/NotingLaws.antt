-- Notes that are taken one after the other.
use Rattle.std.proofs.Common.{◌≡◌, ◌+◌, ◌-◌, ◌^◌, ℕ, min, Bool, true, false, List, [], ◌∷◌, ◌++◌, length, filter, refl, sym, ap, subst, ◌∙◌, append_assoc, arith}
use Rattle.std.proofs.lemmas.List.{append-nil, length-append}
use Rattle.std.proofs.lemmas.List.Concat.{flat_map-append}
use Rattle.std.proofs.lemmas.List.Elements.{filter-append}
use Rattle.std.specs.Prelude.{cond, flat_map}
use Rattle.term_core.specs.declared.terms.Term.{Term}
use Rattle.prog_data.specs.declared.programs.Program.{Program}
use Rattle.prog_data.specs.Conditions.{kind_of, pre_holds}
use Rattle.engine_state.specs.StepsMade.{whose_pre_holds}
use Rattle.engine_moves.specs.Looking.{IsNoted}

-- one more piece of lists that are put together
pub one_more_piece : {X : Type 0} (f : X → List ℕ) (xs : List X) (x : X) → flat_map f (xs ++ x ∷ []) ≡ flat_map f xs ++ f x
one_more_piece f xs x = flat_map-append f xs (x ∷ []) ∙ ap (λ ys. flat_map f xs ++ ys) (append-nil (f x))

module _ (program : Program) (args : List Term) where
  abbrev passes : ℕ → Bool
  passes c = pre_holds program.grammar args (kind_of program c)

  -- nothing was looked at
  pub none_noted : (notes : List ℕ) → IsNoted program args [] notes notes 0
  none_noted notes = record { notes_are = sym (append-nil notes); tests_are = omega arith }

  -- one condition was looked at
  pub one_noted : (c : ℕ) (old new : List ℕ) → passes c ≡ true → new ≡ old ++ c ∷ [] → IsNoted program args (c ∷ []) old new 1
  one_noted c old new holds is =
      let one : length (c ∷ []) ≡ 1 = refl in
      record { notes_are = is ∙ ap (λ b. old ++ cond b (c ∷ []) []) (sym holds); tests_are = omega (arith, one) }

  pub one_passed_over : (c : ℕ) (notes : List ℕ) → passes c ≡ false → IsNoted program args (c ∷ []) notes notes 1
  one_passed_over c notes fails =
      let one : length (c ∷ []) ≡ 1 = refl in
      record { notes_are = sym (append-nil notes) ∙ ap (λ b. notes ++ cond b (c ∷ []) []) (sym fails); tests_are = omega (arith, one) }

  -- one condition, if it passes a test
  pub one_kept : (test : ℕ → Bool) (c : ℕ) (old new : List ℕ) (tests : ℕ) → test c ≡ true → IsNoted program args (c ∷ []) old new tests → IsNoted program args (filter test (c ∷ [])) old new tests
  one_kept test c old new tests holds is = subst (λ b. IsNoted program args (cond b (c ∷ []) []) old new tests) (sym holds) is

  pub one_left_out : (test : ℕ → Bool) (c : ℕ) (notes : List ℕ) → test c ≡ false → IsNoted program args (filter test (c ∷ [])) notes notes 0
  one_left_out test c notes fails = subst (λ b. IsNoted program args (cond b (c ∷ []) []) notes notes 0) (sym fails) (none_noted notes)

  -- some, and then others
  pub both_noted : (xs ys : List ℕ) (old mid new : List ℕ) (m n total : ℕ) → IsNoted program args xs old mid m → IsNoted program args ys mid new n → total ≡ min (m + n) (2 ^ 64 - 1) → IsNoted program args (xs ++ ys) old new total
  both_noted xs ys old mid new m n total first second sum = record {
    notes_are = second.notes_are ∙ ap (λ zs. zs ++ whose_pre_holds program args ys) first.notes_are
        ∙ append_assoc old (whose_pre_holds program args xs) (whose_pre_holds program args ys)
        ∙ ap (λ zs. old ++ zs) (sym (filter-append passes xs ys));
    tests_are = omega (arith, sum, first.tests_are, second.tests_are, length-append xs ys);
  }

  -- the turn of a loop, in which one more element was looked at
  pub turn_noted : {X : Type 0} (looked : List X → List ℕ) (f : X → List ℕ) → ((xs : List X) (x : X) → looked (xs ++ x ∷ []) ≡ looked xs ++ f x) → (before after : List X) (x : X) → after ≡ before ++ x ∷ [] → (old mid new : List ℕ) (m n total : ℕ) →
      IsNoted program args (looked before) old mid m → IsNoted program args (f x) mid new n → total ≡ min (m + n) (2 ^ 64 - 1) → IsNoted program args (looked after) old new total
  turn_noted looked f more before after x is old mid new m n total first second sum =
      subst (λ ys. IsNoted program args ys old new total) (sym (ap looked is ∙ more before x)) (both_noted (looked before) (f x) old mid new m n total first second sum)

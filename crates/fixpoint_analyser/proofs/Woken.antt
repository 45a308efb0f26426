-- Who waits after a row has changed.
use Rattle.std.proofs.Common.{◌≡◌, ℕ, ◌<◌, Bool, true, false, ◌||◌, ◌&&◌, List, length, ap, sym, ◌∙◌, refl, subst}
use Rattle.std.proofs.lemmas.List.{length-set}
use Rattle.std.specs.Prelude.{◌==◌, slice_set}
use Rattle.fixpoint_analyser.specs.Callers.{stands_in}
use Rattle.fixpoint_analyser.specs.Waits.{waits}
use Rattle.fixpoint_analyser.specs.Progress.{Wakes}
use Rattle.fixpoint_analyser.proofs.WaitLaws.{waits_set}

or_false : (a : Bool) → a ≡ (a || false)
or_false true = refl
or_false false = refl

or_assoc : (a b c : Bool) → ((a || b) || c) ≡ (a || (b || c))
or_assoc true b c = refl
or_assoc false b c = refl

-- the predicate alone
pub woken_itself : (old new : List Bool) (p : ℕ) (exits : Bool) (list : List ℕ) → new ≡ slice_set old p true → exits ≡ false → Wakes old new (λ q. (p == q) || (exits && stands_in list q))
woken_itself old new p exits list is e = record {
  count = ap length is ∙ length-set old p true;
  each = λ q lt. ap (λ fs. waits fs q) is ∙ waits_set old p q lt ∙ ap (λ b. waits old q || b) (or_false (p == q) ∙ ap (λ b. (p == q) || (b && stands_in list q)) (sym e));
}

-- and those that call it
pub woken_both : (old mid new : List Bool) (p : ℕ) (exits : Bool) (list ns : List ℕ) → mid ≡ slice_set old p true → exits ≡ true → ns ≡ list → length new ≡ length mid →
    ((q : ℕ) → q < length mid → waits new q ≡ (waits mid q || stands_in ns q)) → Wakes old new (λ q. (p == q) || (exits && stands_in list q))
woken_both old mid new p exits list ns is e same count each =
    let as_many : length mid ≡ length old = ap length is ∙ length-set old p true in record {
      count = count ∙ as_many;
      each = λ q lt.
          each q (subst (λ n. q < n) (sym as_many) lt) ∙ ap (λ b. b || stands_in ns q) (ap (λ fs. waits fs q) is ∙ waits_set old p q lt) ∙ or_assoc (waits old q) (p == q) (stands_in ns q)
          ∙ ap (λ xs. waits old q || ((p == q) || stands_in xs q)) same ∙ ap (λ b. waits old q || ((p == q) || (b && stands_in list q))) (sym e);
    }

-- those that call it alone
pub woken_callers : (old new : List Bool) (list ns : List ℕ) → ns ≡ list → length new ≡ length old → ((q : ℕ) → q < length old → waits new q ≡ (waits old q || stands_in ns q)) → Wakes old new (λ q. stands_in list q)
woken_callers old new list ns same count each = record { count = count; each = λ q lt. each q lt ∙ ap (λ xs. waits old q || stands_in xs q) same }

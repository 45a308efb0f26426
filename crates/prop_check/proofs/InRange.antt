-- A grammar in range has few names, and gnd has its own rule alone.
use Rattle.std.proofs.Common.{◌≡◌, ◌<◌, ℕ, zero, suc, List, [], ◌∷◌, take, refl, sym, ap, ◌∙◌, arith}
use Rattle.std.specs.Prelude.{slice_index_or}
use Rattle.prog_data.specs.declared.grammars.Grammar.{Grammar}
use Rattle.prog_data.specs.GrammarRange.{IsGrammar}
use Rattle.prop_check.specs.Sets.{Fits}

in_front : {A : Type 0} (xs : List A) (k i : ℕ) (d : A) → i < k → slice_index_or (take k xs) i d ≡ slice_index_or xs i d
in_front xs zero i d lt = absurd (omega (arith, lt))
in_front [] (suc k) i d lt = refl
in_front (x ∷ xs) (suc k) zero d lt = refl
in_front (x ∷ xs) (suc k) (suc i) d lt = in_front xs k i d (omega (arith, lt))

pub fits_in_range : (g : Grammar) → IsGrammar g → Fits g
fits_in_range g is = record { few = is.few; gnd = sym (in_front g.rules 10 5 [] (omega arith)) ∙ ap (λ rs. slice_index_or rs 5 []) is.basic }

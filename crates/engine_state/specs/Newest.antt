-- The newest of the choice points, and the one with so many choices below it.
-- The headline does not rest on this file.
use Rattle.std.specs.Prelude.{◌≡◌, ◌<◌, ℕ, List, [], ◌∷◌, ◌++◌, length, ⊤}
use Rattle.std.specs.List.{AllByRecursion}
use Rattle.engine_state.specs.declared.points.ChoicePoint as code

-- a choice point stands behind all others
pub record IsNewest (points : List code.ChoicePoint) (p : code.ChoicePoint) : Type 0 where
  pub older : List code.ChoicePoint
  pub is : points ≡ older ++ p ∷ []

-- each has fewer choices below it than those behind it
abbrev pub AreRising : List code.ChoicePoint → Type 0
AreRising [] = ⊤
AreRising (p ∷ newer) = AllByRecursion (λ q. p.below < q.below) newer × AreRising newer

-- none of these has so many choices below it
abbrev pub AreElsewhere : ℕ → List code.ChoicePoint → Type 0
AreElsewhere height [] = ⊤
AreElsewhere height (p ∷ ps) = (height ≡ p.below → ⊥) × AreElsewhere height ps

-- the last one with so many choices below it stands at this place
pub record IsFound (height : ℕ) (points : List code.ChoicePoint) (place : ℕ) : Type 0 where
  pub older : List code.ChoicePoint
  pub found : code.ChoicePoint
  pub newer : List code.ChoicePoint
  pub is : points ≡ older ++ found ∷ newer
  pub place_is : length older ≡ place
  pub below : height ≡ found.below
  pub others : AreElsewhere height newer

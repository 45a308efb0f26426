-- Choices are cut as the choice points are that stand for them.
use Rattle.std.proofs.Common.{◌≡◌, ◌≤◌, ◌<◌, ℕ, zero, suc, ◌+◌, ◌-◌, ◌⊎◌, inl, inr, List, [], ◌∷◌, ◌++◌, map, length, drop, refl, sym, ap, ◌∙◌, subst, arith}
use Rattle.std.specs.Prelude.{Bool, true, false, if◌then◌else◌, nat_le}
use Rattle.std.proofs.lemmas.Bool.{cases_lt, le-leb, lt-leb}
use Rattle.std.proofs.lemmas.List.{length-append, length-map}
use Rattle.term_core.specs.declared.terms.Term.{Term}
use Rattle.machine_model.specs.State.{Choice, Try, cut}
use Rattle.term_heap.specs.Changes.{Change, value_of, undone}
use Rattle.engine_state.specs.Engines.{Link, chain, Alternative, Resumes, Retries, Marks, ChoicePoint, call_with, alternative_choices, point_choices, choices_of, AreInOrder, rest_of, AreHeld}
use Rattle.engine_state.specs.Stacks.{width, height_of, AreCounted, shortened, cut_points}

-- choices

-- choices of which all are above a height are taken off whole
cut_whole : (h : ℕ) (newer older : List Choice) → h ≤ length older → cut h (newer ++ older) ≡ cut h older
cut_whole h [] older le = refl
cut_whole h (c ∷ newer) older le =
    ap (λ b. if b then cut h (newer ++ older) else c ∷ newer ++ older) (le-leb h (length (newer ++ older)) (omega (arith, le, length-append newer older))) ∙ cut_whole h newer older le

-- choices that are no more than the height stay
cut_none : (h : ℕ) (cs : List Choice) → length cs ≤ h → cut h cs ≡ cs
cut_none h [] le = refl
cut_none h (c ∷ cs) le = ap (λ b. if b then cut h cs else c ∷ cs) (lt-leb h (length cs) (omega (arith, le)))

-- so many of the newer ones are taken off, where the height is above the older ones
cut_partly : (h n : ℕ) (newer older : List Choice) → length older ≤ h → n ≡ length newer - (h - length older) → cut h (newer ++ older) ≡ drop n newer ++ older
cut_partly h zero [] older le e = cut_none h older le
cut_partly h (suc n) [] older le e = absurd (omega (arith, e))
cut_partly h zero (c ∷ newer) older le e = cut_none h (c ∷ newer ++ older) (omega (arith, e, le, length-append newer older))
cut_partly h (suc n) (c ∷ newer) older le e =
    ap (λ b. if b then cut h (newer ++ older) else c ∷ newer ++ older) (le-leb h (length (newer ++ older)) (omega (arith, e, le, length-append newer older)))
    ∙ cut_partly h n newer older le (omega (arith, e, le))

-- the newer choices are those of one choice point
cut_point : (h below width : ℕ) (own older : List Choice) → length own ≡ width → below ≡ length older → below < h → cut h (own ++ older) ≡ drop (width - (h - below)) own ++ older
cut_point h below width own older many is less = cut_partly h (width - (h - below)) own older (omega (arith, is, less)) (omega (arith, many, is))

pub drop_map : {A B : Type 0} (f : A → B) (n : ℕ) (xs : List A) → map f (drop n xs) ≡ drop n (map f xs)
drop_map f zero xs = refl
drop_map f (suc n) [] = refl
drop_map f (suc n) (x ∷ xs) = drop_map f n xs

-- alternatives

module _ (value : ℕ → Term) (links : List Link) (query : ℕ) where
  as_many : (a : Alternative) → length (alternative_choices value links query a) ≡ width a
  as_many (Resumes rest) = refl
  as_many (Retries left c) = length-map left (λ k. Try k (call_with value (chain links c.rest) query c))
  as_many (Marks p conds exited) = refl

  shorter : (n : ℕ) (a : Alternative) → 0 < n → alternative_choices value links query (shortened n a) ≡ drop (width a - n) (alternative_choices value links query a)
  shorter n (Resumes rest) some = let none : 0 ≡ 1 - n = omega (arith, some) in ap (λ k. drop k (alternative_choices value links query (Resumes rest))) none
  shorter n (Retries left c) some = drop_map (λ k. Try k (call_with value (chain links c.rest) query c)) (length left - n) left
  shorter n (Marks p conds exited) some = let none : 0 ≡ 1 - n = omega (arith, some) in ap (λ k. drop k (alternative_choices value links query (Marks p conds exited))) none

same_rest : (n : ℕ) (a : Alternative) → rest_of (shortened n a) ≡ rest_of a
same_rest n (Resumes rest) = refl
same_rest n (Retries left c) = refl
same_rest n (Marks p conds exited) = refl

-- choice points

module _ (changes : List Change) (links : List Link) (query : ℕ) where
  pub heights : (points : List ChoicePoint) → AreCounted points → length (choices_of changes links query points) ≡ height_of points
  heights [] are = refl
  heights (p ∷ ps) are =
      let own = point_choices changes links query p in
      let older = choices_of changes links query ps in
      let many : length own ≡ width p.alternative = as_many (value_of (undone p.trail changes)) links query p.alternative in
      let rest : length older ≡ height_of ps = heights ps are.1 in
      let sum : length (own ++ older) ≡ length own + length older = length-append own older in
      omega (arith, sum, many, rest, are.0)

  module _ (height : ℕ) where
    abbrev left : List ChoicePoint → List Choice
    left points = choices_of changes links query (cut_points height points)

    abbrev short : ChoicePoint → ChoicePoint
    short p = record p { alternative = shortened (height - p.below) p.alternative }

    pub cuts : (points : List ChoicePoint) → AreCounted points → left points ≡ cut height (choices_of changes links query points)
    cuts [] are = refl
    cuts (p ∷ ps) are = by_height (cuts ps are.1) (cases_lt p.below height) where
      own : List Choice
      own = point_choices changes links query p

      older : List Choice
      older = choices_of changes links query ps

      by_height : left ps ≡ cut height older → (p.below < height) ⊎ (height ≤ p.below) → left (p ∷ ps) ≡ cut height (own ++ older)
      by_height further (inl less) =
          let value : ℕ → Term = value_of (undone p.trail changes) in
          let below : p.below ≡ length older = are.0 ∙ sym (heights ps are.1) in
          ap (λ b. choices_of changes links query (if b then cut_points height ps else short p ∷ ps)) (lt-leb height p.below less)
          ∙ ap (λ cs. cs ++ older) (shorter value links query (height - p.below) p.alternative (omega (arith, less)))
          ∙ sym (cut_point height p.below (width p.alternative) own older (as_many value links query p.alternative) below less)
      by_height further (inr le) =
          ap (λ b. choices_of changes links query (if b then cut_points height ps else short p ∷ ps)) (le-leb height p.below le)
          ∙ further
          ∙ sym (cut_whole height own older (subst (λ n. height ≤ n) (are.0 ∙ sym (heights ps are.1)) le))

longer : (most trail : ℕ) (points : List ChoicePoint) → trail ≤ most → AreInOrder trail points → AreInOrder most points
longer most trail [] le are = tt
longer most trail (p ∷ ps) le are = (omega (arith, le, are.0), are.1)

more_held : (most links : ℕ) (points : List ChoicePoint) → links ≤ most → AreHeld links points → AreHeld most points
more_held most links [] le are = tt
more_held most links (p ∷ ps) le are = (omega (arith, le, are.0), are.1, are.2)

module _ (height : ℕ) where
  pub counted : (points : List ChoicePoint) → AreCounted points → AreCounted (cut_points height points)
  counted [] are = tt
  counted (p ∷ ps) are = by_test (nat_le height p.below) (counted ps are.1) where
    by_test : (b : Bool) → AreCounted (cut_points height ps) → AreCounted (if b then cut_points height ps else record p { alternative = shortened (height - p.below) p.alternative } ∷ ps)
    by_test true further = further
    by_test false further = are

  pub in_order : (trail : ℕ) (points : List ChoicePoint) → AreInOrder trail points → AreInOrder trail (cut_points height points)
  in_order trail [] are = tt
  in_order trail (p ∷ ps) are = by_test (nat_le height p.below) (in_order p.trail ps are.1) where
    by_test : (b : Bool) → AreInOrder p.trail (cut_points height ps) → AreInOrder trail (if b then cut_points height ps else record p { alternative = shortened (height - p.below) p.alternative } ∷ ps)
    by_test true further = longer trail p.trail (cut_points height ps) are.0 further
    by_test false further = are

  pub held : (links : ℕ) (points : List ChoicePoint) → AreHeld links points → AreHeld links (cut_points height points)
  held links [] are = tt
  held links (p ∷ ps) are = by_test (nat_le height p.below) (held p.links ps are.2) where
    by_test : (b : Bool) → AreHeld p.links (cut_points height ps) → AreHeld links (if b then cut_points height ps else record p { alternative = shortened (height - p.below) p.alternative } ∷ ps)
    by_test true further = more_held links p.links (cut_points height ps) are.0 further
    by_test false further = (are.0, subst (λ k. k ≤ p.links) (sym (same_rest (height - p.below) p.alternative)) are.1, are.2)

-- Each unification ends: a move makes the equations smaller, and a binding leaves one variable less.
use Rattle.std.proofs.Common.{◌≡◌, ℕ, zero, suc, ◌<◌, true, List, [], ◌∷◌, ◌++◌, refl, ap, sym, ◌∙◌, arith, ⊎_elim, nat_eq}
use Rattle.std.specs.List.{list_any}
use Rattle.std.proofs.lemmas.Bool.{or_cases, or_left, or_right}
use Rattle.std.proofs.lemmas.List.Folds.{list_any-append}
use Rattle.term_core.specs.declared.equations.Equation.{Equation}
use Rattle.term_core.specs.declared.equations.Binding.{Binding}
use Rattle.term_core.specs.declared.equations.Outcome.{Outcome}
use Rattle.term_core.specs.declared.equations.Outcome.TheVariants.{Solved, Clash, Cyclic}
use Rattle.term_core.specs.Unify.{Move, Becomes, Binds, Clashes, Cycles, move, replace_all, Stage, Open, Ended, after, solve, solves}
use Rattle.term_core.specs.Unify.{occurs_at, occurs_in}
use Rattle.term_core.proofs.Sizes.{weight, weight-append, move_becomes, move_binds}
use Rattle.term_core.proofs.Counting.{all_in, count, count_le, count_falls, all_found, gone_from_all, within_all}

-- a stage ends in some number of steps
abbrev pub StageEnds : Stage → Type 0
StageEnds s = (k : ℕ) × (o : Outcome) × (solves k s ≡ Ended o)

one_more : (s : Stage) → StageEnds (solve s) → StageEnds s
one_more s e = (suc e.0, e.1, e.2)

-- the variables of the equations are among these
abbrev pub Among : List ℕ → List Equation → Type 0
Among ks es = (k : ℕ) → occurs_in k es ≡ true → list_any (nat_eq k) ks ≡ true

ended : (ks : List ℕ) (n m : ℕ) (es : List Equation) (bs : List Binding) → Among ks es → count ks es < n → weight es < m → StageEnds (Open es bs)
ended ks zero m es bs among few small = absurd (omega (arith, few))
ended ks (suc n) zero es bs among few small = absurd (omega (arith, small))
ended ks (suc n) (suc m) [] bs among few small = (1, Solved bs, refl)
ended ks (suc n) (suc m) (e ∷ rest) bs among few small =
    by_move (move e) refl (λ es bs among few small. ended ks (suc n) m es bs among few small) (λ es bs among few. ended ks n (suc (weight es)) es bs among few (omega arith))
  where
    by_move : (mv : Move) → move e ≡ mv → ((es : List Equation) (bs : List Binding) → Among ks es → count ks es < suc n → weight es < m → StageEnds (Open es bs)) →
        ((es : List Equation) (bs : List Binding) → Among ks es → count ks es < n → StageEnds (Open es bs)) → StageEnds (Open (e ∷ rest) bs)
    by_move (Becomes es) is smaller fewer =
        let s = move_becomes e es is in
        let within : (k : ℕ) → occurs_in k (es ++ rest) ≡ true → occurs_in k (e ∷ rest) ≡ true =
        λ k h. ⊎_elim (λ p. or_left _ _ (s.1 k p)) (λ p. or_right (occurs_at k e) _ p) (or_cases _ _ (sym (list_any-append (occurs_at k) es rest) ∙ h)) in
        let less = count_le ks (es ++ rest) (e ∷ rest) within in
        let light = weight-append es rest in
        let first = s.0 in
        let r = smaller (es ++ rest) bs (λ k h. among k (within k h)) (omega (arith, less, few)) (omega (arith, light, first, small)) in
        (suc r.0, r.1, ap (λ mv. solves r.0 (after mv rest bs)) is ∙ r.2)
    by_move (Binds v t) is smaller fewer =
        let f = move_binds e v t is in
        let left = replace_all v t rest in
        let within : (k : ℕ) → occurs_in k left ≡ true → occurs_in k (e ∷ rest) ≡ true =
        λ k h. ⊎_elim (λ p. or_left _ _ (f.2 k p)) (λ p. or_right (occurs_at k e) _ p) (or_cases _ _ (within_all k v t rest h)) in
        let was : occurs_in v (e ∷ rest) ≡ true = or_left _ _ f.1 in
        let less = count_falls ks v left (e ∷ rest) within (gone_from_all v t rest f.0) was (among v was) in
        let r = fewer left (bs ++ record { variable = v; value = t } ∷ []) (λ k h. among k (within k h)) (omega (arith, less, few)) in
        (suc r.0, r.1, ap (λ mv. solves r.0 (after mv rest bs)) is ∙ r.2)
    by_move Clashes is smaller fewer = (1, Clash, ap (λ mv. after mv rest bs) is)
    by_move Cycles is smaller fewer = (1, Cyclic, ap (λ mv. after mv rest bs) is)

pub stage_ends : (s : Stage) → StageEnds s
stage_ends (Ended o) = (0, o, refl)
stage_ends (Open es bs) = ended (all_in es) (suc (count (all_in es) es)) (suc (weight es)) es bs (λ k h. all_found k es h) (omega arith) (omega arith)

-- The first of faults that are found one list after the other.
use Rattle.std.proofs.Common.{◌≡◌, ℕ, ◌+◌, ◌<◌, List, [], ◌∷◌, ◌++◌, length, get_or, drop, Option, Some, refl, ap, sym, ◌∙◌}
use Rattle.std.specs.Prelude.{flat_map}
use Rattle.std.proofs.lemmas.List.{at_drop_more}
use Rattle.term_core.proofs.Turns.{turn}
use Rattle.program_link.specs.FaultOrder.{sooner, least_from}
use Rattle.program_link.specs.declared.faults.Fault.{Fault}

-- those behind others
pub least_behind : (found : Option Fault) (fs gs : List Fault) → least_from found (fs ++ gs) ≡ least_from (least_from found fs) gs
least_behind found [] gs = refl
least_behind found (f ∷ fs) gs = least_behind (sooner found (Some f)) fs gs

-- two lists, one behind the other
pub then_more : (found a b : Option Fault) (fs gs : List Fault) → a ≡ least_from found fs → b ≡ least_from a gs → b ≡ least_from found (fs ++ gs)
then_more found a b fs gs first second = second ∙ ap (λ o. least_from o gs) first ∙ sym (least_behind found fs gs)

-- five lists, one behind the other
pub five_in_turn : (found a b c d e : Option Fault) (ps qs rs ss ts : List Fault) → a ≡ least_from found ps → b ≡ least_from a qs → c ≡ least_from b rs → d ≡ least_from c ss → e ≡ least_from d ts
    → e ≡ least_from found (ps ++ (qs ++ (rs ++ (ss ++ ts))))
five_in_turn found a b c d e ps qs rs ss ts first second third fourth fifth =
    then_more found a e ps (qs ++ (rs ++ (ss ++ ts))) first
    (then_more a b e qs (rs ++ (ss ++ ts)) second (then_more b c e rs (ss ++ ts) third (then_more c d e ss ts fourth fifth)))

-- a turn of a loop over what has faults
pub least_next : {X : Type 0} (faults : X → List Fault) (old new : Option Fault) (xs : List X) (i : ℕ) (x : X) → i < length xs → x ≡ get_or xs i x → new ≡ least_from old (faults x)
    → least_from new (flat_map faults (drop (i + 1) xs)) ≡ least_from old (flat_map faults (drop i xs))
least_next faults old new xs i x lt e is =
    then_more old new (least_from new (flat_map faults (drop (i + 1) xs))) (faults x) (flat_map faults (drop (i + 1) xs)) is refl
    ∙ sym (turn (λ ys. least_from old (flat_map faults ys)) xs i x lt e)

-- the same over what is copied
pub least_next_copy : {X : Type 0} (faults : X → List Fault) (old new : Option Fault) (xs : List X) (i : ℕ) (x : X) → i < length xs → new ≡ least_from old (faults (get_or xs i x))
    → least_from new (flat_map faults (drop (i + 1) xs)) ≡ least_from old (flat_map faults (drop i xs))
least_next_copy faults old new xs i x lt is =
    then_more old new (least_from new (flat_map faults (drop (i + 1) xs))) (faults (get_or xs i x)) (flat_map faults (drop (i + 1) xs)) is refl
    ∙ sym (at_drop_more (λ ys. least_from old (flat_map faults ys)) xs i x lt)

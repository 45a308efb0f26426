-- Cuts that leave choices as they are, or take only newer ones off.
use Rattle.std.proofs.Common.{◌≡◌, ◌≤◌, ℕ, ◌+◌, List, [], ◌∷◌, ◌++◌, length, refl, ap, ◌∙◌, arith}
use Rattle.std.specs.Prelude.{if◌then◌else◌}
use Rattle.std.proofs.lemmas.Bool.{le-leb, lt-leb}
use Rattle.std.proofs.lemmas.List.{length-append}
use Rattle.machine_model.specs.State.{Choice, cut}
use Rattle.engine_state.specs.MoveLaws.{CutsStay}

cut_none : (h : ℕ) (cs : List Choice) → length cs ≤ h → cut h cs ≡ cs
cut_none h [] le = refl
cut_none h (c ∷ cs) le = ap (λ b. if b then cut h cs else c ∷ cs) (lt-leb h (length cs) (omega (arith, le)))

cut_newer : (newer older : List Choice) → cut (length older) (newer ++ older) ≡ older
cut_newer [] older = cut_none (length older) older (omega arith)
cut_newer (c ∷ newer) older =
    ap (λ b. if b then cut (length older) (newer ++ older) else c ∷ newer ++ older) (le-leb (length older) (length (newer ++ older)) (omega (arith, length-append newer older))) ∙ cut_newer newer older

pub cuts_stay : CutsStay
cuts_stay = record { none = cut_none; newer = cut_newer }

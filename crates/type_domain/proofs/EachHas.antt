-- Values and names place by place.
use Rattle.std.proofs.Common.{◌≡◌, ℕ, false, ◌&&◌, List, [], ◌∷◌, length, map, refl, ap, ◌∙◌, arith}
use Rattle.std.proofs.Math.Bool.{and-false}
use Rattle.prog_data.specs.Values.{seen}
use Rattle.prog_data.specs.declared.tables.Value.{Value}
use Rattle.type_domain.specs.Values.{has_name, each_has}

pub each_has_apart : (vs : List Value) (ns : List ℕ) → (length vs ≡ length ns → ⊥) → each_has (map seen vs) ns ≡ false
each_has_apart [] [] d = absurd (d refl)
each_has_apart [] (n ∷ ns) d = refl
each_has_apart (v ∷ vs) [] d = refl
each_has_apart (v ∷ vs) (n ∷ ns) d = ap (λ b. has_name (seen v) n && b) (each_has_apart vs ns (λ e. d (omega (arith, e)))) ∙ and-false (has_name (seen v) n)

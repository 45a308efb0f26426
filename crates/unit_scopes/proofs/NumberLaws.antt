-- Predicates numbered behind others.
use Rattle.std.proofs.Common.{◌≡◌, ℕ, suc, ◌+◌, List, [], ◌∷◌, ◌++◌, length, refl, ap, ◌∙◌, append_assoc, arith}
use Rattle.body_code.specs.declared.faults.Indicator.{Indicator}
use Rattle.body_code.specs.declared.scopes.Named.{Named}
use Rattle.unit_scopes.specs.Numbering.{numbered}

-- the first of those that are left is numbered
pub number_next : (ns : List Named) (n next : ℕ) (p : Indicator) (ps : List Indicator) (m : Named) → m ≡ record { name = p.name; arity = p.arity; pred = n } → next ≡ n + 1
    → (ns ++ m ∷ []) ++ numbered next ps ≡ ns ++ numbered n (p ∷ ps)
number_next ns n next p ps m is e =
    let same : next ≡ suc n = omega (arith, e) in
    append_assoc ns (m ∷ []) (numbered next ps) ∙ (λ i. ns ++ is i ∷ numbered (same i) ps)

use Rattle.std.proofs.Common.{◌≡◌, ℕ, arith, Result, Ok, inl, inr, IsErrOf}
use Rattle.std.proofs.lemmas.Bool.{cases_lt}
use Rattle.byte_io.specs.Outside.{HasCause}

-- where this failure is not told, the count of faults is as before
pub stays : {T E : Type 0} (failure : E) (before now : ℕ) (result : Result T E) → (IsErrOf result failure → ⊥) → HasCause failure before now result → now ≡ before
stays failure before now result other cause = elim (cases_lt before now) [
  | inl rose ↦ absurd (other (cause.rose rose))
  | inr fell ↦ omega (arith, fell, cause.later)
]

pub stays_at_ok : {T E : Type 0} (failure : E) (before now : ℕ) (result : Result T E) (x : T) → result ≡ Ok x → HasCause failure before now result → now ≡ before
stays_at_ok failure before now result x is = stays failure before now result (λ failed. cc (is, failed))

-- Flags and a queue of what waits; how many wait.
use Rattle.std.proofs.Common.{◌≡◌, ℕ, zero, suc, ◌+◌, ◌<◌, ◌≤◌, Bool, true, false, ◌||◌, List, [], ◌∷◌, ◌++◌, length, get_or, refl, ap, sym, ◌∙◌, subst, arith}
use Rattle.std.proofs.lemmas.Bool.{false≢true}
use Rattle.std.proofs.lemmas.Bool.Decides.{nat_tests}
use Rattle.std.proofs.lemmas.List.{length-set, set_comm, set-get_or, get_or-set_same, get_or-set_other}
use Rattle.std.proofs.lemmas.Option.{slice_get_read}
use Rattle.std.specs.Prelude.{◌==◌, not, slice_get, slice_set, Some, MatchBool}
use Rattle.fixpoint_analyser.specs.Waits.{waits, number_waiting, IsQueue}

-- flags

pub waits_there : (flags : List Bool) (p : ℕ) → waits flags p ≡ true → p < length flags
waits_there [] p e = absurd (false≢true e)
waits_there (f ∷ fs) zero e = omega arith
waits_there (f ∷ fs) (suc p) e = let lt = waits_there fs p e in omega (arith, lt)

pub waits_read : (flags : List Bool) (p : ℕ) (f : Bool) → Some f ≡ slice_get flags p → waits flags p ≡ f
waits_read [] p f e = cc
waits_read (g ∷ fs) zero f e = cc
waits_read (g ∷ fs) (suc p) f e = waits_read fs p f e

pub set_back : (flags : List Bool) (p : ℕ) (f : Bool) → waits flags p ≡ false → slice_set (slice_set flags p f) p false ≡ flags
set_back [] p f e = refl
set_back (g ∷ fs) zero f e = ap (λ h. h ∷ fs) (sym e)
set_back (g ∷ fs) (suc p) f e = ap (λ hs. g ∷ hs) (set_back fs p f e)

-- a flag that is set stays so
pub idle_there : (flags : List Bool) (p : ℕ) (f : Bool) → p < length flags → f ≡ get_or flags p f → MatchBool (not f) (slice_get flags p ≡ Some false) (slice_set flags p true ≡ flags)
idle_there flags p true lt read = ap (slice_set flags p) read ∙ set-get_or flags p true
idle_there flags p false lt read = slice_get_read flags (length flags) p false refl lt read

-- which wait then
pub waits_set : (flags : List Bool) (p q : ℕ) → q < length flags → waits (slice_set flags p true) q ≡ (waits flags q || (p == q))
waits_set flags p q lt = by_test (p == q) refl
  where
    or_true : (a : Bool) → true ≡ (a || true)
    or_true true = refl
    or_true false = refl

    or_false : (a : Bool) → a ≡ (a || false)
    or_false true = refl
    or_false false = refl

    by_test : (b : Bool) → (p == q) ≡ b → waits (slice_set flags p true) q ≡ (waits flags q || (p == q))
    by_test true e =
        let same : q ≡ p = grind (arith, nat_tests, e) in
        ap (λ n. waits (slice_set flags p true) n) same ∙ get_or-set_same flags p true false (subst (λ n. n < length flags) same lt) ∙ or_true (waits flags q) ∙ ap (λ b. waits flags q || b) (sym e)
    by_test false e =
        get_or-set_other flags p q true false (λ same. let f : (p == q) ≡ true = grind (arith, nat_tests, same) in false≢true (sym e ∙ f)) ∙ or_false (waits flags q) ∙ ap (λ b. waits flags q || b) (sym e)

-- the queue

there : (flags : List Bool) (p : ℕ) → slice_get flags p ≡ Some false → p < length flags
there [] p e = cc
there (f ∷ fs) zero e = omega arith
there (f ∷ fs) (suc p) e = let lt = there fs p e in omega (arith, lt)

queue_more : (flags : List Bool) (queue : List ℕ) (p : ℕ) → waits flags p ≡ false → p < length flags → IsQueue flags queue → IsQueue (slice_set flags p true) (queue ++ p ∷ [])
queue_more flags [] p off lt kept = (get_or-set_same flags p true false lt, λ q. ap (λ fs. waits fs q) (set_back flags p true off) ∙ kept q)
queue_more flags (q ∷ queue) p off lt kept =
    let other : p ≡ q → ⊥ = λ same. false≢true (sym off ∙ ap (waits flags) same ∙ kept.0) in
    let rest = queue_more (slice_set flags q false) queue p (get_or-set_other flags q p false false other ∙ off) (subst (λ n. p < n) (sym (length-set flags q false)) lt) kept.1 in
    (get_or-set_other flags p q true false (λ same. other (sym same)) ∙ kept.0, subst (λ fs. IsQueue fs (queue ++ p ∷ [])) (set_comm flags q p false true (λ same. other (sym same))) rest)

pub pushed_queue : (flags : List Bool) (queue new : List ℕ) (p : ℕ) → slice_get flags p ≡ Some false → new ≡ queue ++ p ∷ [] → IsQueue flags queue → IsQueue (slice_set flags p true) new
pushed_queue flags queue new p idle is kept = subst (IsQueue (slice_set flags p true)) (sym is) (queue_more flags queue p (waits_read flags p false (sym idle)) (there flags p idle) kept)

-- how many

pub waiting_within : (flags : List Bool) → number_waiting flags ≤ length flags
waiting_within [] = omega arith
waiting_within (true ∷ fs) = let l = waiting_within fs in omega (arith, l)
waiting_within (false ∷ fs) = let l = waiting_within fs in omega (arith, l)

pub taken_fewer : (flags : List Bool) (p : ℕ) → waits flags p ≡ true → number_waiting (slice_set flags p false) + 1 ≡ number_waiting flags
taken_fewer [] p e = absurd (false≢true e)
taken_fewer (true ∷ fs) zero e = omega arith
taken_fewer (false ∷ fs) zero e = absurd (false≢true e)
taken_fewer (f ∷ fs) (suc p) e = let l = taken_fewer fs p e in omega (arith, l)

pub added_more : (flags : List Bool) (p : ℕ) → number_waiting (slice_set flags p true) ≤ number_waiting flags + 1
added_more [] p = omega arith
added_more (true ∷ fs) zero = omega arith
added_more (false ∷ fs) zero = omega arith
added_more (f ∷ fs) (suc p) = let l = added_more fs p in omega (arith, l)

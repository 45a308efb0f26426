-- The statuses that the definitions have.
use Rattle.std.proofs.Common.{◌≡◌, ◌⊎◌, inl, inr, refl, ℕ, zero, suc, ◌+◌, ◌<◌, ◌≤◌, List, Option, Some, None, sym, ◌∙◌, arith}
use Rattle.prog_data.specs.declared.events.Event.{Event}
use Rattle.prog_data.specs.declared.events.Ending.{Ending}
use Rattle.prog_data.specs.declared.events.Ending.TheVariants.{NoMore, Bound, Violated, Cyclic, Arithmetic}
use Rattle.ciao_top.specs.declared.stops.Reason.{Reason}
use Rattle.ciao_top.specs.declared.stops.Reason.TheVariants as reason
use Rattle.ciao_top.specs.Lines.{reason_status}
use Rattle.run_report.specs.RunText.{ending_status}
use Rattle.ciao_top.specs.Limits.{up_to_limit, told_status, limited_status}

-- two numbers in order are not equal
pub apart : (a b : ℕ) → a < b → a ≡ b → ⊥
apart a b lt is = omega (lt, is, arith)

-- nor in the other order
pub above : (a b : ℕ) → a < b → b ≤ a → ⊥
above a b lt le = omega (lt, le, arith)

-- the status of an answer of a command that was accepted
pub record IsOfRun (status : ℕ) : Type 0 where
  pub small : status < 7
  pub not_two : status ≡ 2 → ⊥

-- a status that is a number other than 2
of_number : (n status : ℕ) → status ≡ n → n < 7 → (n ≡ 2 → ⊥) → IsOfRun status
of_number n status is small other = record { small = omega arith; not_two = λ two. other (sym is ∙ two) }

of_ending : (e : Ending) (status : ℕ) → status ≡ ending_status e → IsOfRun status
of_ending NoMore status is = of_number 0 status is (omega arith) (apart 0 2 (omega arith))
of_ending Bound status is = of_number 5 status is (omega arith) (λ x. apart 2 5 (omega arith) (sym x))
of_ending (Violated c) status is = of_number 1 status is (omega arith) (apart 1 2 (omega arith))
of_ending (Cyclic place) status is = of_number 6 status is (omega arith) (λ x. apart 2 6 (omega arith) (sym x))
of_ending (Arithmetic kind place) status is = of_number 6 status is (omega arith) (λ x. apart 2 6 (omega arith) (sym x))

-- and of a run with an answer limit
of_told : (told : Option (List Event)) (e : Ending) (status : ℕ) → status ≡ told_status told e → IsOfRun status
of_told None e status is = of_ending e status is
of_told (Some told) e status is = of_number 0 status is (omega arith) (apart 0 2 (omega arith))

pub of_limited : (limit : Option ℕ) (events : List Event) (e : Ending) (status : ℕ) → status ≡ limited_status limit events e → IsOfRun status
of_limited limit events e status is = of_told (up_to_limit limit events) e status is

-- the status of words that are refused
pub reason_small : (why : Reason) → reason_status why < 7
reason_small reason.NoCommand = omega arith
reason_small (reason.OfFiles line) = omega arith
reason_small reason.QueryUnread = omega arith
reason_small reason.QueryNotExported = omega arith
reason_small reason.QueryNoEntry = omega arith

-- which is 2 where they are no command alone
pub reason_two : (why : Reason) → reason_status why ≡ 2 → why ≡ reason.NoCommand
reason_two reason.NoCommand is = refl
reason_two (reason.OfFiles line) is = absurd (apart 2 3 (omega arith) (sym is))
reason_two reason.QueryUnread is = absurd (apart 2 4 (omega arith) (sym is))
reason_two reason.QueryNotExported is = absurd (apart 2 4 (omega arith) (sym is))
reason_two reason.QueryNoEntry is = absurd (apart 2 4 (omega arith) (sym is))

-- a status is below 7 or a fault of a device or want of memory
pub small_or_fault : (s : ℕ) → s ≤ 9 → (s < 7) ⊎ ((s ≡ 7) ⊎ ((s ≡ 8) ⊎ (s ≡ 9)))
small_or_fault zero le = inl (omega arith)
small_or_fault (suc zero) le = inl (omega arith)
small_or_fault (suc (suc zero)) le = inl (omega arith)
small_or_fault (suc (suc (suc zero))) le = inl (omega arith)
small_or_fault (suc (suc (suc (suc zero)))) le = inl (omega arith)
small_or_fault (suc (suc (suc (suc (suc zero))))) le = inl (omega arith)
small_or_fault (suc (suc (suc (suc (suc (suc zero)))))) le = inl (omega arith)
small_or_fault (suc (suc (suc (suc (suc (suc (suc zero))))))) le = inr (inl refl)
small_or_fault (suc (suc (suc (suc (suc (suc (suc (suc zero)))))))) le = inr (inr (inl refl))
small_or_fault (suc (suc (suc (suc (suc (suc (suc (suc (suc zero))))))))) le = inr (inr (inr refl))
small_or_fault (suc (suc (suc (suc (suc (suc (suc (suc (suc (suc n)))))))))) le = absurd (above 9 (10 + n) (omega arith) (omega (le, arith)))

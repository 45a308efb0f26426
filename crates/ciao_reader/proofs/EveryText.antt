-- Each text has sentences or a fault, and is a goal or has a fault.
use Rattle.std.proofs.Common.{◌⊎◌, inl, inr, ℕ, List, refl}
use Rattle.term_core.specs.declared.operators.Operators.{Operators}
use Rattle.term_core.specs.Standard.{standard}
use Rattle.ciao_tokens.specs.declared.kinds.Token.{Token}
use Rattle.ciao_tokens.specs.declared.kinds.TextFault.{TextFault}
use Rattle.ciao_tokens.specs.Tokens.{HasTokens}
use Rattle.ciao_tokens.specs.Faults as token_faults
use Rattle.ciao_tokens.proofs.EveryText as tokens
use Rattle.ciao_reader.specs.Faults.{as_read, HasFault, of_tokens, of_sentences}
use Rattle.ciao_reader.specs.Laws.{EveryText, EveryGoal}
use Rattle.ciao_reader.specs.declared.sentences.ReadFault.{ReadFault}
use Rattle.ciao_reader.proofs.EveryOutcome.{every_source, every_goal}

-- tokens or a fault of them, whatever is said of tokens
every_of : (Wrong : List (List ℕ) → List Token → ReadFault → Type 0) (bytes : List ℕ) (before : List (List ℕ)) → ((f : ReadFault) → HasFault Wrong bytes before f → ⊥)
    → ((after : List (List ℕ)) (ts : List Token) → HasTokens bytes before after ts → ((f : ReadFault) → Wrong after ts f → ⊥) → ⊥) → ⊥
every_of Wrong bytes before free go_on = by (tokens.every_text bytes before)
  where
    by : ((after : List (List ℕ)) × (ts : List Token) × HasTokens bytes before after ts) ⊎ ((found : TextFault) × token_faults.HasFault bytes found) → ⊥
    by (inl (after, ts, has)) = go_on after ts has (λ f w. free f (of_sentences after ts has w))
    by (inr (found, fault)) = free (as_read found) (of_tokens found fault refl)

pub every_text : (bytes : List ℕ) → EveryText bytes
every_text bytes before unread free = every_of _ bytes before free (λ after ts has none. every_source after standard ts (λ ss last r. unread after (record { sentences = ss; ops = last }) (record { tokens = ts; has = has; reads = r })) none)

pub every_goal_text : (ops : Operators) (bytes : List ℕ) → EveryGoal ops bytes
every_goal_text ops bytes before unread free = every_of _ bytes before free (λ after ts has none. every_goal after ops ts (λ s is. unread after s (record { tokens = ts; has = has; is = is })) none)

-- Faults of what was cut and read, as faults of the text.
use Rattle.std.proofs.Common.{◌≡◌, ℕ, List, [], length, refl, ap, ◌∙◌, subst, inl, inr}
use Rattle.term_core.specs.declared.operators.Operators.{Operators}
use Rattle.term_core.specs.Standard.{standard}
use Rattle.ciao_tokens.specs.declared.kinds.Token.{Token}
use Rattle.ciao_tokens.specs.declared.kinds.TextFault.{TextFault}
use Rattle.ciao_tokens.specs.declared.kinds.TextFault.TheVariants as text
use Rattle.ciao_tokens.specs.Tokens.{HasTokens}
use Rattle.ciao_tokens.specs.Faults as token_faults
use Rattle.std.specs.List.{list_any}
use Rattle.ciao_reader.specs.Sentences.{is_end, Splits, IsAlone, line_of}
use Rattle.ciao_reader.specs.Faults.{HasNone, IsUnreadOr, IsWrongOr, FirstFaultOr, FailsAsGoalOr, as_read, of_tokens, of_sentences, IsFaultOf, IsGoalFaultOf}
use Rattle.ciao_reader.specs.declared.sentences.ReadFault.{ReadFault}
use Rattle.ciao_reader.specs.declared.sentences.ReadFault.TheVariants.{NotUtf8, BadToken, IntRange, Syntax, TooDeep, OpRefused, NoEnd, NoMemory}
use Rattle.ciao_reader.proofs.OneSentence.{one_split, no_split, one_alone}

-- tokens with words behind the first end are no sentence alone
pub not_alone : (tokens inner rest : List Token) → Splits tokens inner rest → (length rest ≡ 0 → ⊥) → (ts : List Token) → IsAlone tokens ts → ⊥
not_alone tokens inner rest s some ts (inl t) = some (ap length (one_split tokens inner ts rest [] s t).1)
not_alone tokens inner rest s some ts (inr t) = no_split tokens inner rest (ap (list_any is_end) t.0 ∙ t.1) s

module _ (names : List (List ℕ)) (ops : Operators) where
  pub unread_wrong : (ts : List Token) (first : ℕ) (f : ReadFault) → IsUnreadOr names ops ts first f → IsWrongOr names ops ts first f
  unread_wrong ts first NoMemory w = tt
  unread_wrong ts first (OpRefused line) w = absurd w
  unread_wrong ts first (Syntax line) w = w
  unread_wrong ts first (TooDeep line) w = w
  unread_wrong ts first (IntRange line) w = w
  unread_wrong ts first other w = absurd w

  pub unread_goal : (tokens inner : List Token) → IsAlone tokens inner → (f : ReadFault) → IsUnreadOr names ops inner (line_of tokens) f → FailsAsGoalOr names ops tokens f
  unread_goal tokens inner a NoMemory w = tt
  unread_goal tokens inner a (OpRefused line) w = absurd w
  unread_goal tokens inner a (Syntax line) w = (λ ts b. subst (HasNone names ops) (one_alone tokens inner ts a b) w.0, w.1)
  unread_goal tokens inner a (TooDeep line) w = record { inner = inner; alone = a; wrong = w }
  unread_goal tokens inner a (IntRange line) w = record { inner = inner; alone = a; wrong = w }
  unread_goal tokens inner a other w = absurd w

module _ (bytes : List ℕ) (before : List (List ℕ)) where
  pub tokens_fault : (f : TextFault) → token_faults.IsFaultOf bytes f → IsFaultOf bytes before (as_read f)
  tokens_fault text.NoMemory w = tt
  tokens_fault (text.NotUtf8 line) w = of_tokens (text.NotUtf8 line) w refl
  tokens_fault (text.BadToken line) w = of_tokens (text.BadToken line) w refl
  tokens_fault (text.IntRange line) w = of_tokens (text.IntRange line) w refl

  pub tokens_goal_fault : (ops : Operators) (f : TextFault) → token_faults.IsFaultOf bytes f → IsGoalFaultOf ops bytes before (as_read f)
  tokens_goal_fault ops text.NoMemory w = tt
  tokens_goal_fault ops (text.NotUtf8 line) w = of_tokens (text.NotUtf8 line) w refl
  tokens_goal_fault ops (text.BadToken line) w = of_tokens (text.BadToken line) w refl
  tokens_goal_fault ops (text.IntRange line) w = of_tokens (text.IntRange line) w refl

  module _ (after : List (List ℕ)) (tokens : List Token) (has : HasTokens bytes before after tokens) where
    pub sentences_fault : (f : ReadFault) → FirstFaultOr after standard tokens f → IsFaultOf bytes before f
    sentences_fault NoMemory w = tt
    sentences_fault (NotUtf8 line) w = of_sentences after tokens has w
    sentences_fault (BadToken line) w = of_sentences after tokens has w
    sentences_fault (IntRange line) w = of_sentences after tokens has w
    sentences_fault (Syntax line) w = of_sentences after tokens has w
    sentences_fault (TooDeep line) w = of_sentences after tokens has w
    sentences_fault (OpRefused line) w = of_sentences after tokens has w
    sentences_fault (NoEnd line) w = of_sentences after tokens has w

    pub goal_fault : (ops : Operators) (f : ReadFault) → FailsAsGoalOr after ops tokens f → IsGoalFaultOf ops bytes before f
    goal_fault ops NoMemory w = tt
    goal_fault ops (NotUtf8 line) w = of_sentences after tokens has w
    goal_fault ops (BadToken line) w = of_sentences after tokens has w
    goal_fault ops (IntRange line) w = of_sentences after tokens has w
    goal_fault ops (Syntax line) w = of_sentences after tokens has w
    goal_fault ops (TooDeep line) w = of_sentences after tokens has w
    goal_fault ops (OpRefused line) w = of_sentences after tokens has w
    goal_fault ops (NoEnd line) w = of_sentences after tokens has w

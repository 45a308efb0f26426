-- A text has at most one list of sentences or one fault, and is at most one goal or has one fault.
use Rattle.std.proofs.Common.{◌≡◌, ℕ, List, refl, ap, sym, ◌∙◌, subst}
use Rattle.term_core.specs.declared.operators.Operators.{Operators}
use Rattle.term_core.specs.Standard.{IsMade, start, standard}
use Rattle.ciao_tokens.specs.declared.kinds.Token.{Token}
use Rattle.ciao_tokens.specs.Tokens.{HasTokens}
use Rattle.ciao_tokens.proofs.OneAnswer as tokens
use Rattle.ciao_reader.specs.Sentences.{ReadsAll, IsGoal}
use Rattle.ciao_reader.specs.Faults.{as_read, HasFault, of_tokens, of_sentences, FirstFault, FailsAsGoal}
use Rattle.ciao_reader.specs.Laws.{OneSource, NoFault, OneFault, OneGoal, NoGoalFault, OneGoalFault}
use Rattle.ciao_reader.specs.declared.sentences.Source.{Source}
use Rattle.ciao_reader.specs.declared.sentences.ReadFault.{ReadFault}
use Rattle.ciao_reader.proofs.OneOutcome.{one_stop, end_stops, no_first_fault, one_first_fault, one_goal, no_goal_fault, one_goal_fault}

standard_made : IsMade standard
standard_made = start refl

-- what is said of tokens, whatever the names
module _ (Wrong : List (List ℕ) → List Token → ReadFault → Type 0) (bytes : List ℕ) (before : List (List ℕ)) where
  no_fault_of : (after : List (List ℕ)) (ts : List Token) (f : ReadFault) → HasTokens bytes before after ts → (Wrong after ts f → ⊥) → HasFault Wrong bytes before f → ⊥
  no_fault_of after ts f has none (of_tokens found fault e) = tokens.no_fault bytes before after ts found has fault
  no_fault_of after ts f has none (of_sentences later us has' wrong) =
      let same = tokens.one_list bytes before later after us ts has' has in
      none (subst (λ x. Wrong x ts f) same.1 (subst (λ x. Wrong later x f) same.0 wrong))

  one_fault_of : (f g : ReadFault) → ((names : List (List ℕ)) (ts : List Token) → Wrong names ts f → Wrong names ts g → f ≡ g) → HasFault Wrong bytes before f → HasFault Wrong bytes before g → f ≡ g
  one_fault_of f g one (of_tokens found fault e) (of_tokens found' fault' e') = e ∙ ap as_read (tokens.one_fault bytes found found' fault fault') ∙ sym e'
  one_fault_of f g one (of_tokens found fault e) (of_sentences after ts has wrong) = absurd (tokens.no_fault bytes before after ts found has fault)
  one_fault_of f g one (of_sentences after ts has wrong) (of_tokens found fault e) = absurd (tokens.no_fault bytes before after ts found has fault)
  one_fault_of f g one (of_sentences after ts has wrong) (of_sentences later us has' wrong') =
      let same = tokens.one_list bytes before later after us ts has' has in
      one after ts wrong (subst (λ x. Wrong x ts g) same.1 (subst (λ x. Wrong later x g) same.0 wrong'))

pub one_source : (bytes : List ℕ) → OneSource bytes
one_source bytes before after later s u a b =
    let same = tokens.one_list bytes before later after b.tokens a.tokens b.has a.has in
    let reads : ReadsAll after standard a.tokens u.sentences u.ops = subst (λ x. ReadsAll x standard a.tokens u.sentences u.ops) same.1 (subst (λ x. ReadsAll later standard x u.sentences u.ops) same.0 b.reads) in
    let one = one_stop after standard_made a.reads reads (end_stops after s.ops) (end_stops after u.ops) in
    (same_source s u one.0 one.2, sym same.1)
  where
    same_source : (s u : Source) → s.sentences ≡ u.sentences → s.ops ≡ u.ops → s ≡ u
    same_source s u e d = λ i. record { sentences = e i; ops = d i }

pub no_fault : (bytes : List ℕ) → NoFault bytes
no_fault bytes before after s f a w = no_fault_of (λ names. FirstFault names standard) bytes before after a.tokens f a.has (no_first_fault after standard s.ops a.tokens s.sentences f standard_made a.reads) w

pub one_fault : (bytes : List ℕ) → OneFault bytes
one_fault bytes before f g w v = one_fault_of (λ names. FirstFault names standard) bytes before f g (λ names ts. one_first_fault names standard ts f g standard_made) w v

module _ (ops : Operators) (made : IsMade ops) (bytes : List ℕ) where
  pub one_goal_text : OneGoal ops bytes
  one_goal_text before after later s u a b =
      let same = tokens.one_list bytes before later after b.tokens a.tokens b.has a.has in
      let is : IsGoal after ops a.tokens u = subst (λ x. IsGoal x ops a.tokens u) same.1 (subst (λ x. IsGoal later ops x u) same.0 b.is) in
      (one_goal after ops a.tokens s u made a.is is, sym same.1)

  pub no_goal_fault_text : NoGoalFault ops bytes
  no_goal_fault_text before after s f a w = no_fault_of (λ names. FailsAsGoal names ops) bytes before after a.tokens f a.has (no_goal_fault after ops a.tokens s f made a.is) w

  pub one_goal_fault_text : OneGoalFault ops bytes
  one_goal_fault_text before f g w v = one_fault_of (λ names. FailsAsGoal names ops) bytes before f g (λ names ts. one_goal_fault names ops ts f g made) w v

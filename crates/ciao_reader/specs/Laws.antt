-- The laws of reading.
-- The headline does not rest on this file.
use Rattle.std.specs.Prelude.{◌≡◌, ℕ, zero, suc, List, [], ◌∷◌, ◌++◌}
use Rattle.term_core.specs.Terms.{vars}
use Rattle.term_core.specs.declared.operators.Operators.{Operators}
use Rattle.term_core.specs.Standard.{IsMade}
use Rattle.term_core.specs.Operators.{greatest_priority}
use Rattle.ciao_tokens.specs.declared.kinds.Token.{Token}
use Rattle.ciao_reader.specs.declared.words.Word.{Word}
use Rattle.ciao_reader.specs.Derivations.{Tree, Derives}
use Rattle.ciao_reader.specs.Sentences.{IsSentence, HasSentences, HasGoal}
use Rattle.ciao_reader.specs.Faults.{IsUnread, IsNoGoal}
use Rattle.ciao_reader.specs.declared.sentences.Sentence.{Sentence}
use Rattle.ciao_reader.specs.declared.sentences.Source.{Source}
use Rattle.ciao_reader.specs.declared.sentences.ReadFault.{ReadFault}

-- words have at most one derivation that a sentence may have
abbrev pub OneTree : Operators → Type 0
OneTree ops = (ws : List Word) (t u : Tree) → Derives ops ws greatest_priority t → Derives ops ws greatest_priority u → t ≡ u

-- by every table of operators that can be made
abbrev pub OneReading : Type 0
OneReading = (ops : Operators) → IsMade ops → OneTree ops

-- a text has at most one list of sentences, and makes of the names before it one list
abbrev pub OneSource : List ℕ → Type 0
OneSource bytes = (before after later : List (List ℕ)) (s u : Source) → HasSentences bytes before after s → HasSentences bytes before later u → (s ≡ u) × (after ≡ later)

-- a text with sentences has no fault
abbrev pub NoFault : List ℕ → Type 0
NoFault bytes = (before after : List (List ℕ)) (s : Source) (fault : ReadFault) → HasSentences bytes before after s → IsUnread bytes before fault → ⊥

-- a text has at most one fault, at one line
abbrev pub OneFault : List ℕ → Type 0
OneFault bytes = (before : List (List ℕ)) (f g : ReadFault) → IsUnread bytes before f → IsUnread bytes before g → f ≡ g

-- a text is at most one goal
abbrev pub OneGoal : Operators → List ℕ → Type 0
OneGoal ops bytes = (before after later : List (List ℕ)) (s u : Sentence) → HasGoal ops bytes before after s → HasGoal ops bytes before later u → (s ≡ u) × (after ≡ later)

-- a goal has no fault
abbrev pub NoGoalFault : Operators → List ℕ → Type 0
NoGoalFault ops bytes = (before after : List (List ℕ)) (s : Sentence) (fault : ReadFault) → HasGoal ops bytes before after s → IsNoGoal ops bytes before fault → ⊥

-- a text has at most one fault as a goal, at one line
abbrev pub OneGoalFault : Operators → List ℕ → Type 0
OneGoalFault ops bytes = (before : List (List ℕ)) (f g : ReadFault) → IsNoGoal ops bytes before f → IsNoGoal ops bytes before g → f ≡ g

-- a text has sentences or a fault: it is not so that there is neither
abbrev pub EveryText : List ℕ → Type 0
EveryText bytes = (before : List (List ℕ)) → ((after : List (List ℕ)) (s : Source) → HasSentences bytes before after s → ⊥) → ((fault : ReadFault) → IsUnread bytes before fault → ⊥) → ⊥

-- a text is a goal or has a fault as one
abbrev pub EveryGoal : Operators → List ℕ → Type 0
EveryGoal ops bytes = (before : List (List ℕ)) → ((after : List (List ℕ)) (s : Sentence) → HasGoal ops bytes before after s → ⊥) → ((fault : ReadFault) → IsNoGoal ops bytes before fault → ⊥) → ⊥

-- the numbers below a bound
abbrev pub below : ℕ → List ℕ
below zero = []
below (suc n) = below n ++ n ∷ []

-- the variables of a sentence are numbered from 0 by first appearance
abbrev pub NumberedFromZero : Type 0
NumberedFromZero = (names : List (List ℕ)) (ops : Operators) (ts : List Token) (s : Sentence) → IsSentence names ops ts s → vars s.term ≡ below s.vars

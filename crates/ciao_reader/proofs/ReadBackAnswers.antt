-- What comes of reading what was printed.
use Rattle.std.proofs.Common.{◌≡◌, ℕ, zero, suc, true, List, [], ◌∷◌, length, refl, ap, sym, ◌∙◌, subst}
use Rattle.std.specs.List.{AllByRecursion, IsDistinct}
use Rattle.term_core.specs.Names.{fixed_names}
use Rattle.term_core.specs.Lists.{IsPrefix}
use Rattle.std.specs.Prelude.{IsUtf8, slice_index_or, bytes_eq, Result, Ok, Err, IfOk, IfErr, MatchResult}
use Rattle.term_core.specs.Printing.{Printed}
use Rattle.term_core.specs.Standard.{IsMade}
use Rattle.term_core.specs.declared.terms.Term.{Term}
use Rattle.term_core.specs.declared.operators.Operators.{Operators}
use Rattle.ciao_tokens.specs.Written.{WrittenIsRead}
use Rattle.ciao_reader.specs.Sentences.{HasGoal}
use Rattle.ciao_reader.specs.Faults.{IsNoGoal, IsGoalFaultOf}
use Rattle.ciao_reader.specs.ReadingBack.{AreNames, is_readable, numbered_from_zero, IsShallow, IsReadAs}
use Rattle.ciao_reader.specs.declared.sentences.Sentence.{Sentence}
use Rattle.ciao_reader.specs.declared.sentences.ReadFault.{ReadFault}
use Rattle.ciao_reader.specs.declared.sentences.ReadFault.TheVariants.{NotUtf8, BadToken, IntRange, Syntax, TooDeep, OpRefused, NoEnd, NoMemory}
use Rattle.std.proofs.lemmas.Str.{IsUtf8-nil}
use Rattle.ciao_reader.proofs.ReadBack.{reads_back}
use Rattle.ciao_reader.proofs.OneText.{one_goal_text, no_goal_fault_text}

-- the texts of names are texts, and so is that of a number that is no name's
texts_at : (names : List (List ℕ)) → AllByRecursion IsUtf8 names → (n : ℕ) → IsUtf8 (slice_index_or names n [])
texts_at [] h n = IsUtf8-nil
texts_at (x ∷ xs) h zero = h.0
texts_at (x ∷ xs) h (suc n) = texts_at xs h.1 n

pub are_names : (names : List (List ℕ)) → IsPrefix fixed_names names → IsDistinct bytes_eq names → AllByRecursion IsUtf8 names → AreNames names
are_names names begin distinct texts = record { begin = begin; distinct = distinct; texts = texts_at names texts }

module _ (written : WrittenIsRead) (names : List (List ℕ)) (ops : Operators) (are : AreNames names) (made : IsMade ops) (text : List ℕ) (t : Term) (readable : is_readable (length names) t ≡ true) (is : text ≡ Printed names ops true t) (shallow : IsShallow ops text names) where
  read_as : IsReadAs ops text names t
  read_as = subst (λ bytes. IsReadAs ops bytes names t) (sym is) (reads_back written names ops t are made readable (subst (λ bytes. IsShallow ops bytes names) is shallow))

  no_fault : {P : Type 0} (fault : ReadFault) → IsNoGoal ops text names fault → P
  no_fault fault wrong = absurd (no_goal_fault_text ops made text names read_as.after read_as.goal fault read_as.has wrong)

  only_memory : (fault : ReadFault) → IsGoalFaultOf ops text names fault → fault ≡ NoMemory
  only_memory (NotUtf8 line) wrong = no_fault (NotUtf8 line) wrong
  only_memory (BadToken line) wrong = no_fault (BadToken line) wrong
  only_memory (IntRange line) wrong = no_fault (IntRange line) wrong
  only_memory (Syntax line) wrong = no_fault (Syntax line) wrong
  only_memory (TooDeep line) wrong = no_fault (TooDeep line) wrong
  only_memory (OpRefused line) wrong = no_fault (OpRefused line) wrong
  only_memory (NoEnd line) wrong = no_fault (NoEnd line) wrong
  only_memory NoMemory wrong = refl

  pub answers : (later : List (List ℕ)) (result : Result Sentence ReadFault) → IfOk result (HasGoal ops text names later) → IfErr result (IsGoalFaultOf ops text names)
      → MatchResult result (λ goal. goal.term ≡ numbered_from_zero t) (λ fault. fault ≡ NoMemory)
  answers later (Ok goal) has wrong = ap (λ (s : Sentence). s.term) (one_goal_text ops made text names later read_as.after goal read_as.goal has read_as.has).0 ∙ read_as.same
  answers later (Err fault) has wrong = only_memory fault wrong

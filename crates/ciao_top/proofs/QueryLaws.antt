-- A text is one query at most, by operators that can be made; those of the main file are such.
use Rattle.std.proofs.Common.{◌≡◌, List, [], ◌∷◌, refl, sym, ap, ◌∙◌, false}
use Rattle.std.specs.List.{AllByRecursion}
use Rattle.std.proofs.lemmas.Bool.{false≢true}
use Rattle.term_core.specs.declared.terms.Term.{Term}
use Rattle.term_core.specs.declared.operators.Operators.{Operators}
use Rattle.term_core.specs.Standard.{IsMade, start}
use Rattle.ciao_reader.specs.declared.sentences.Sentence.{Sentence}
use Rattle.ciao_reader.specs.declared.sentences.ReadFault.{ReadFault}
use Rattle.ciao_reader.specs.declared.sentences.ReadFault.TheVariants.{NotUtf8, BadToken, IntRange, Syntax, TooDeep, OpRefused, NoEnd, NoMemory}
use Rattle.ciao_reader.specs.Faults.{IsNoGoal, IsGoalFaultOf}
use Rattle.ciao_reader.specs.Laws.{OneGoal, NoGoalFault}
use Rattle.ciao_modules.specs.FileNames.{Word}
use Rattle.ciao_modules.specs.declared.units.Unit.{Unit}
use Rattle.ciao_top.specs.Queries.{main_operators, IsQuery}
use Rattle.ciao_top.specs.InnerAnswers.{wants_memory}

-- the operators of the main file can be made
pub operators_made : (units : List Unit) → AllByRecursion (λ u. IsMade u.ops) units → IsMade (main_operators units)
operators_made [] all = start refl
operators_made (main ∷ others) all = all.0

-- queries

-- a text makes of names these at most, and is one query at most
pub one_query : ((ops : Operators) → IsMade ops → (bytes : Word) → OneGoal ops bytes) → (ops : Operators) → IsMade ops → (names : List Word) (text : Word) (m n : List Word) (q r : Term)
    → IsQuery ops names text m q → IsQuery ops names text n r → (m ≡ n) × (q ≡ r)
one_query one_goal ops made names text m n q r a b =
    let same = one_goal ops made text names m n a.goal b.goal a.has b.has in
    (same.1, a.is ∙ ap (λ (s : Sentence). s.term) same.0 ∙ sym b.is)

-- a fault that is not want of memory is one of the text
no_goal_of : (ops : Operators) (bytes : Word) (before : List Word) (fault : ReadFault) → false ≡ wants_memory fault → IsGoalFaultOf ops bytes before fault → IsNoGoal ops bytes before fault
no_goal_of ops bytes before (NotUtf8 line) other a = a
no_goal_of ops bytes before (BadToken line) other a = a
no_goal_of ops bytes before (IntRange line) other a = a
no_goal_of ops bytes before (Syntax line) other a = a
no_goal_of ops bytes before (TooDeep line) other a = a
no_goal_of ops bytes before (OpRefused line) other a = a
no_goal_of ops bytes before (NoEnd line) other a = a
no_goal_of ops bytes before NoMemory other a = absurd (false≢true other)

-- a text with a fault is no query
pub fault_no_query : ((ops : Operators) → IsMade ops → (bytes : Word) → NoGoalFault ops bytes) → (ops : Operators) → IsMade ops → (names : List Word) (text : Word) (fault : ReadFault)
    → false ≡ wants_memory fault → IsGoalFaultOf ops text names fault → (more : List Word) (query : Term) → IsQuery ops names text more query → ⊥
fault_no_query no_fault ops made names text fault other a more query q = no_fault ops made text names more q.goal fault q.has (no_goal_of ops text names fault other a)

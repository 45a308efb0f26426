-- Sentences in range.
-- The headline does not rest on this file.
use Rattle.std.specs.Prelude.{ℕ, List, length}
use Rattle.std.specs.List.{AllByRecursion}
use Rattle.term_core.specs.Names.{fixed_names}
use Rattle.term_core.specs.Lists.{IsPrefix}
use Rattle.term_core.specs.Ranges.{IsInRange}
use Rattle.term_core.specs.declared.operators.Operators.{Operators}
use Rattle.ciao_reader.specs.Sentences.{HasSentences, HasGoal}
use Rattle.ciao_reader.specs.declared.sentences.Sentence.{Sentence}
use Rattle.ciao_reader.specs.declared.sentences.Source.{Source}

-- the sentence's term is in range of so many names and of the number of variables that it tells
abbrev pub IsSentenceInRange : ℕ → Sentence → Type 0
IsSentenceInRange names s = IsInRange names s.vars s.term

-- each sentence of a text is in range of the names after it
abbrev pub SentencesAreInRange : Type 0
SentencesAreInRange = (bytes : List ℕ) (before after : List (List ℕ)) (source : Source) → IsPrefix fixed_names before → HasSentences bytes before after source → AllByRecursion (IsSentenceInRange (length after)) source.sentences

-- a goal is in range of the names after it
abbrev pub GoalsAreInRange : Type 0
GoalsAreInRange = (ops : Operators) (bytes : List ℕ) (before after : List (List ℕ)) (goal : Sentence) → IsPrefix fixed_names before → HasGoal ops bytes before after goal → IsSentenceInRange (length after) goal

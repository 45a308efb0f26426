-- The law that what is printed with quotes is read again.
-- The headline does not rest on this file.
use Rattle.std.specs.Prelude.{◌≡◌, ◌≤◌, ℕ, ◌^◌, Bool, true, nat_lt, nat_eq, ℤ, pos, negsuc, List, [], length, slice_index_or, bytes_eq, IsUtf8}
use Rattle.std.specs.List.{position_or_len, IsDistinct}
use Rattle.term_core.specs.Names.{fixed_names}
use Rattle.term_core.specs.Lists.{IsPrefix}
use Rattle.term_core.specs.Ranges.{is_compound}
use Rattle.term_core.specs.Terms.{instance, vars}
use Rattle.term_core.specs.Printing.{Printed}
use Rattle.term_core.specs.Standard.{IsMade}
use Rattle.term_core.specs.declared.terms.Term.{Term}
use Rattle.term_core.specs.declared.terms.Term as term
use Rattle.term_core.specs.declared.terms.Term.TheOpen.{Term-F, Var, Int, Atom, Node}
use Rattle.term_core.specs.declared.terms.Term.TheFolds.{fold-Term}
use Rattle.term_core.specs.declared.operators.Operators.{Operators}
use Rattle.term_core.specs.Operators.{greatest_priority}
use Rattle.ciao_tokens.specs.declared.kinds.Token.{Token}
use Rattle.ciao_tokens.specs.Tokens.{HasTokens}
use Rattle.ciao_reader.specs.Readings.{Reads, depth}
use Rattle.ciao_reader.specs.Sentences.{depth_limit, HasGoal}
use Rattle.ciao_reader.specs.declared.sentences.Sentence.{Sentence}

-- distinct texts that begin with those that the language knows
pub record AreNames (names : List (List ℕ)) : Type 0 where
  pub begin : IsPrefix fixed_names names
  pub distinct : IsDistinct bytes_eq names
  pub texts : (n : ℕ) → IsUtf8 (slice_index_or names n [])

-- an integer of 64 bits
abbrev pub has_64_bits : ℤ → Bool
has_64_bits (pos n) = nat_lt n (2 ^ 63)
has_64_bits (negsuc n) = nat_lt n (2 ^ 63)

-- the next test at the outermost of a term, by those of its parts
abbrev pub readable_step : ℕ → Term-F Bool → Bool
readable_step count (Var v) = nat_lt v (2 ^ 64)
readable_step count (Int n) = has_64_bits n
readable_step count (Atom a) = nat_lt a count
readable_step count (Node f parts) = is_compound count f parts

-- whether each name in the term is among so many, each variable and each integer has 64 bits and each compound 1 to 255 arguments
abbrev pub is_readable : ℕ → Term → Bool
is_readable count = fold-Term Bool (readable_step count)

-- the term with its variables numbered from 0 by first appearance
abbrev pub numbered_from_zero : Term → Term
numbered_from_zero t = instance (λ v. term.Var (position_or_len (nat_eq v) (vars t))) t

-- each derivation of the text has a depth within the limit
abbrev pub IsShallow : Operators → List ℕ → List (List ℕ) → Type 0
IsShallow ops bytes before = (after : List (List ℕ)) (tokens : List Token) (t : Term) → HasTokens bytes before after tokens → (r : Reads after ops tokens greatest_priority t) → depth r.tree ≤ depth_limit

-- the text is a goal, and the term is this one up to the numbers of its variables
pub record IsReadAs (ops : Operators) (bytes : List ℕ) (before : List (List ℕ)) (t : Term) : Type 0 where
  pub after : List (List ℕ)
  pub goal : Sentence
  pub has : HasGoal ops bytes before after goal
  pub same : goal.term ≡ numbered_from_zero t

-- by every table of operators, what is printed of a term with quotes is read again as that term, where the text is not too deep
abbrev pub ReadsBack : Type 0
ReadsBack = (names : List (List ℕ)) (ops : Operators) (t : Term) → AreNames names → IsMade ops → is_readable (length names) t ≡ true → IsShallow ops (Printed names ops true t) names
    → IsReadAs ops (Printed names ops true t) names t

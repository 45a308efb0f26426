-- What a sentence makes of a table of operators that can be made can be made too.
use Rattle.std.proofs.Common.{◌≡◌, ℕ, List, [], ◌∷◌, refl, subst, Bool, true, false}
use Rattle.std.specs.Prelude.{◌==◌, Option, Some, None, if◌then◌else◌, codes, ℤ, bytes_eq, option_and_then}
use Rattle.term_core.specs.declared.fixed.TheConstants as fixed
use Rattle.term_core.specs.declared.operators.OpKind.{OpKind}
use Rattle.term_core.specs.declared.operators.Operators.{Operators}
use Rattle.term_core.specs.declared.terms.Term.{Term, out-Term}
use Rattle.term_core.specs.declared.terms.Term.TheOpen.{Term-F, Int, Atom, Node}
use Rattle.term_core.specs.Operators.{added}
use Rattle.term_core.specs.Standard.{IsMade, change}
use Rattle.term_core.specs.Names.{name_text}
use Rattle.ciao_reader.specs.Changes.{kind_named, names_in, added_all, after_op, after_directive, after_sentence, table_after}

-- an answer that is there can be made
abbrev IfMade : Option Operators → Type 0
IfMade o = (after : Operators) → o ≡ Some after → IsMade after

none_made : IfMade None
none_made after e = absurd (clash e)
  where
    clash : ◌≡◌ {A = Option Operators} None (Some after) → ⊥
    clash d = cc

some_made : (ops : Operators) → IsMade ops → IfMade (Some ops)
some_made ops m after e = subst IsMade (same e) m
  where
    same : Some ops ≡ Some after → ops ≡ after
    same d = cc

added_all_made : (p : ℤ) (kind : OpKind) (names : List ℕ) (ops : Operators) → IsMade ops → IfMade (added_all p kind names ops)
added_all_made p kind [] ops m = some_made ops m
added_all_made p kind (name ∷ rest) ops m = by (added p kind name ops) (λ next e. added_all_made p kind rest next (change ops p kind name m e))
  where
    by : (o : Option Operators) → ((next : Operators) → o ≡ Some next → IfMade (added_all p kind rest next)) → IfMade (option_and_then (added_all p kind rest) o)
    by None f = none_made
    by (Some next) f = f next refl

module _ (names : List (List ℕ)) (ops : Operators) (made : IsMade ops) where
  kind_made : (p : ℤ) (ns : List ℕ) (o : Option OpKind) → IfMade (option_and_then (λ kind. added_all p kind ns ops) o)
  kind_made p ns None = none_made
  kind_made p ns (Some kind) = added_all_made p kind ns ops made

  after_op_made : (p k : Term-F Term) (ns : Option (List ℕ)) → IfMade (after_op names ops p k ns)
  after_op_made (Int p) (Atom k) (Some ns) = kind_made p ns (kind_named (name_text names k))
  after_op_made p k ns = none_made

  after_directive_made : (t : Term-F Term) → IfMade (after_directive names ops t)
  after_directive_made (Node f (p ∷ k ∷ n ∷ [])) = by (bytes_eq (name_text names f) (codes "op"))
    where
      by : (b : Bool) → IfMade (if b then after_op names ops (out-Term p) (out-Term k) (names_in n) else Some ops)
      by true = after_op_made (out-Term p) (out-Term k) (names_in n)
      by false = some_made ops made
  after_directive_made other = some_made ops made

  after_sentence_made : (t : Term-F Term) → IfMade (after_sentence names ops t)
  after_sentence_made (Node f (directive ∷ [])) = by (f == fixed.NECK)
    where
      by : (b : Bool) → IfMade (if b then after_directive names ops (out-Term directive) else Some ops)
      by true = after_directive_made (out-Term directive)
      by false = some_made ops made
  after_sentence_made other = some_made ops made

  pub made_after : (t : Term) (after : Operators) → table_after names ops t ≡ Some after → IsMade after
  made_after t after e = after_sentence_made (out-Term t) after e

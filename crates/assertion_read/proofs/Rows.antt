-- Small assertions, computed.
use Rattle.std.proofs.Common.{◌≡◌, ℕ, [], ◌∷◌, refl}
use Rattle.std.specs.Prelude.{None}
use Rattle.term_core.specs.declared.terms.Term.{Term, Var, Node, out-Term}
use Rattle.term_core.specs.declared.terms.Term.TheBlock as term_block
use Rattle.ciao_reader.specs.declared.sentences.Sentence.{Sentence}
use Rattle.assertion_read.specs.Readings.{assertion_of}
use denote.Hole.Carrier

-- a name p
abbrev p : ℕ
p = 80

abbrev directive : Term → Sentence
directive t = record { term = Node 15 (t ∷ []); line = 2; vars = 2 }

abbrev two : ℕ → Term → Term → Term
two name t u = Node name (t ∷ u ∷ [])

abbrev x : Term
x = Var 0

-- :- pred p(X,X). is none
pub repeated : assertion_of (directive (Node 19 (two p x x ∷ []))) ≡ None
unfolding term_block.hidden-the_row-Term-0 term_block.shape-the_row-Term-0 term_block.shown-the_row-Term-0 out-Term Carrier.hidden Carrier.shown Carrier.out
repeated = refl

-- :- calls p(X). is none: its precondition is needed
pub needed : assertion_of (directive (Node 20 (Node p (x ∷ []) ∷ []))) ≡ None
unfolding term_block.hidden-the_row-Term-0 term_block.shape-the_row-Term-0 term_block.shown-the_row-Term-0 out-Term Carrier.hidden Carrier.shown Carrier.out
needed = refl

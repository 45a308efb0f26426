-- What is claimed of values.
-- The headline does not rest on this file.
use Rattle.std.specs.Prelude.{◌≡◌, ◌⊎◌, ℕ, ◌<◌, true, List, [], ◌∷◌, length, slice_index_or, ℤ}
use Rattle.std.specs.List.{AllByRecursion}
use Rattle.term_core.specs.declared.terms.Term.{Term}
use Rattle.term_core.specs.declared.terms.Term as term
use Rattle.prog_data.specs.declared.grammars.Grammar.{Grammar}
use Rattle.prog_data.specs.Membership.{Belongs}
use Rattle.prog_data.specs.Values.{TypeValue, IsIn, AreIn}
use Rattle.name_order.specs.Relations.{Order, order}
use Rattle.type_domain.specs.Values.{has_name, IsValue, Leq, is_coherent, join, meet, of_name, of_int, of_atom, build, project}

-- what is so of terms and values
pub record KeepTerms (g : Grammar) : Type 0 where
  -- a term that is in one of two values is in their join
  pub join : (t : Term) (a b : TypeValue) → IsIn g t a ⊎ IsIn g t b → IsIn g t (join a b)
  -- a term that is in two values is in their meet
  pub meet : (t : Term) (a b : TypeValue) → IsIn g t a → IsIn g t b → IsIn g t (meet (order g) a b)
  -- a term that belongs to a name is in its value
  pub name : (t : Term) (n : ℕ) → Belongs g t n → IsIn g t (of_name (order g) n)
  -- an integer is in its value, and each name that it belongs to is; so for an atom
  pub int : (k : ℤ) → IsIn g (term.Int k) (of_int (order g) k)
  pub whole_int : (k : ℤ) (n : ℕ) → Belongs g (term.Int k) n → has_name (of_int (order g) k) n ≡ true
  pub atom : (a : ℕ) → IsIn g (term.Atom a) (of_atom (order g) a)
  pub whole_atom : (a n : ℕ) → Belongs g (term.Atom a) n → has_name (of_atom (order g) a) n ≡ true
  -- a compound of parts that are in values is in the value that is built of them
  pub build : (f : ℕ) (ts : List Term) (vs : List TypeValue) → AreIn g ts vs → IsIn g (term.Node f ts) (build (order g) f vs)
  -- a part of a compound that is in a value is in the value's part
  pub project : (f : ℕ) (ts : List Term) (v : TypeValue) (part : ℕ) → part < length ts → IsIn g (term.Node f ts) v → IsIn g (slice_index_or ts part (term.Var 0)) (project (order g) v f (length ts) part)
  -- what is in a value is in each that says less
  pub leq : (t : Term) (a b : TypeValue) → Leq a b → IsIn g t a → IsIn g t b

-- each call gives a value of the analysis where it takes such values and names of the grammar
pub record GiveValues (o : Order) : Type 0 where
  pub join : (a b : TypeValue) → IsValue o a → IsValue o b → IsValue o (join a b)
  pub meet : (a b : TypeValue) → IsValue o a → IsValue o b → IsValue o (meet o a b)
  pub name : (n : ℕ) → n < o.size → IsValue o (of_name o n)
  pub int : (k : ℤ) → IsValue o (of_int o k)
  pub atom : (a : ℕ) → IsValue o (of_atom o a)
  pub build : (f : ℕ) (vs : List TypeValue) → AllByRecursion (IsValue o) vs → IsValue o (build o f vs)
  pub project : (v : TypeValue) (f arity part : ℕ) → IsValue o (project o v f arity part)

-- to say at least as much is an order; the join is the least value above two, and the meet the greatest one below two of the
-- coherent values, of which it is one
pub record AreOrdered (o : Order) : Type 0 where
  pub reflexive : (a : TypeValue) → Leq a a
  pub transitive : (a b c : TypeValue) → Leq a b → Leq b c → Leq a c
  pub antisymmetric : (a b : TypeValue) → Leq a b → Leq b a → a ≡ b
  pub first_join : (a b : TypeValue) → Leq a (join a b)
  pub second_join : (a b : TypeValue) → Leq b (join a b)
  pub least_join : (a b c : TypeValue) → Leq a c → Leq b c → Leq (join a b) c
  pub first_meet : (a b : TypeValue) → Leq (meet o a b) a
  pub second_meet : (a b : TypeValue) → Leq (meet o a b) b
  pub coherent_meet : (a b : TypeValue) → is_coherent o (meet o a b) ≡ true
  pub greatest_meet : (a b c : TypeValue) → is_coherent o c ≡ true → Leq c a → Leq c b → Leq c (meet o a b)

-- values that say at least as much as others, place by place
abbrev pub LeqEach : List TypeValue → List TypeValue → Type 0
LeqEach [] [] = Unit {0}
LeqEach [] (w ∷ ws) = ⊥
LeqEach (v ∷ vs) [] = ⊥
LeqEach (v ∷ vs) (w ∷ ws) = Leq v w × LeqEach vs ws

-- of what says at least as much comes what says at least as much
pub record AreMonotone (o : Order) : Type 0 where
  pub leq : (a b c d : TypeValue) → Leq a c → Leq d b → Leq c d → Leq a b
  pub join : (a b c d : TypeValue) → Leq a c → Leq b d → Leq (join a b) (join c d)
  pub meet : (a b c d : TypeValue) → Leq a c → Leq b d → Leq (meet o a b) (meet o c d)
  pub build : (f : ℕ) (vs ws : List TypeValue) → LeqEach vs ws → Leq (build o f vs) (build o f ws)
  pub project : (a b : TypeValue) (f arity part : ℕ) → Leq a b → Leq (project o a f arity part) (project o b f arity part)

-- a name below another has a value that says at least as much
abbrev pub NamesMonotone : Order → Type 0
NamesMonotone o = (n m : ℕ) → o.below n m ≡ true → Leq (of_name o n) (of_name o m)

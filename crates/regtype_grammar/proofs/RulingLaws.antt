-- How the further names grow.
use Rattle.std.proofs.Common.{◌≡◌, ℕ, ◌+◌, ◌-◌, ◌≤◌, ◌<◌, List, [], ◌∷◌, ◌++◌, map, length, ap, ◌∙◌, subst, arith}
use Rattle.std.specs.Prelude.{Option, Some, None}
use Rattle.std.proofs.lemmas.List.{length-append, length-map, append_assoc}
use Rattle.term_core.specs.declared.terms.Term.{Term}
use Rattle.ciao_reader.specs.declared.sentences.Sentence.{Sentence}
use Rattle.prog_data.specs.declared.grammars.Rule.{Rule}
use Rattle.regtype_grammar.specs.declared.literals.Literal.{Literal}
use Rattle.regtype_grammar.specs.declared.numbering.Bound.{Bound}
use Rattle.regtype_grammar.specs.declared.meanings.Meaning.{Meaning}
use Rattle.regtype_grammar.specs.declared.numbering.Listing.{Listing}
use Rattle.regtype_grammar.specs.declared.grammars.Ruling.{Ruling}
use Rattle.regtype_grammar.specs.declared.grammars.Making.{Making}
use Rattle.regtype_grammar.specs.declared.modules.RegType.{RegType}
use Rattle.regtype_grammar.specs.declared.modules.TypeModule.{TypeModule}
use Rattle.regtype_grammar.specs.TypeNames.{numbered, meaning}
use Rattle.regtype_grammar.specs.TypeClauses.{TypeClause, clause_of}
use Rattle.regtype_grammar.specs.TermRules.{names_needed, part_of}
use Rattle.regtype_grammar.specs.Grammars.{type_of, no_types, with_literals, with_rule_by, with_rule, with_clause, with_clauses, with_type, with_types, with_module, with_modules, Fits, FitsLists}
use Rattle.regtype_grammar.proofs.PartLaws.{needs_is, inner_length}
use Rattle.regtype_grammar.proofs.PartLoops.{single}

-- a clause's further names are those of the parts of its argument and the lists that it adds
pub ruled_length : (next : ℕ) (r : Ruling) (argument : Term) (l : Listing) → length (with_rule_by next r argument l).further ≡ length r.further + ((names_needed argument - 1) + length l.added)
ruled_length next r argument l =
    let part = part_of (type_of l.types) argument in
    let inner : length (map single (part.inner next)) ≡ names_needed argument - 1 = length-map (part.inner next) single ∙ inner_length (type_of l.types) argument next ∙ ap (λ n. n - 1) (needs_is (type_of l.types) argument) in
    length-append r.further (map single (part.inner next) ++ l.added)
    ∙ ap (λ n. length r.further + n) (length-append (map single (part.inner next)) l.added ∙ ap (λ n. n + length l.added) inner)

pub rule_length : (next : ℕ) (means : ℕ → Meaning) (r : Ruling) (c : TypeClause) → length (with_rule next means r c).further ≡
    length r.further + ((names_needed c.argument - 1) + length (with_literals (next + (names_needed c.argument - 1)) means (no_types r.known) c.literals).added)
rule_length next means r c = ruled_length next r c.argument (with_literals (next + (names_needed c.argument - 1)) means (no_types r.known) c.literals)

module _ (first : ℕ) (means : ℕ → Meaning) where
  pub clause_grows : (r : Ruling) (o : Option TypeClause) → length r.further ≤ length (with_clause first means r o).further
  clause_grows r None = omega arith
  clause_grows r (Some c) = let e = rule_length (length r.further + first) means r c in omega (arith, e)

  pub clauses_grow : (name : ℕ) (r : Ruling) (ss : List Sentence) → length r.further ≤ length (with_clauses first means name r ss).further
  clauses_grow name r [] = omega arith
  clauses_grow name r (s ∷ ss) = let a = clause_grows r (clause_of name s) in let b = clauses_grow name (with_clause first means r (clause_of name s)) ss in omega (arith, a, b)

  pub types_grow : (m : Making) (ts : List RegType) → length m.further ≤ length (with_types first means m ts).further
  types_grow m [] = omega arith
  types_grow m (t ∷ ts) =
      let a = clauses_grow t.name (record { rules = []; known = m.known; further = m.further }) t.clauses in
      let b = types_grow (with_type first means m t) ts in
      omega (arith, a, b)

pub modules_grow : (first : ℕ) (firsts : List ℕ) (m : Making) (ms : List TypeModule) → length m.further ≤ length (with_modules first firsts m ms).further
modules_grow first firsts m [] = omega arith
modules_grow first firsts m (one ∷ rest) =
    let a = types_grow first (meaning (numbered firsts one.visible)) m one.types in
    let b = modules_grow first firsts (with_module first firsts m one) rest in
    omega (arith, a, b)

-- a clause fits where its lists do
pub fits_of : (first n : ℕ) (means : ℕ → Meaning) (r : Ruling) (c : TypeClause) (made : Option Ruling) → n ≡ (length r.further + first) + (names_needed c.argument - 1)
    → FitsLists n (with_literals ((length r.further + first) + (names_needed c.argument - 1)) means (no_types r.known) c.literals) (with_rule (length r.further + first) means r c) made
    → Fits first (with_rule (length r.further + first) means r c) made
fits_of first n means r c None e h = let l = rule_length (length r.further + first) means r c in omega (arith, e, h, l)
fits_of first n means r c (Some made) e h =
    let l = rule_length (length r.further + first) means r c in
    let same : length made.further ≡ length (with_rule (length r.further + first) means r c).further = ap (λ x. length x.further) h.0 in
    let few = h.1 in
    (h.0, omega (arith, e, few, l, same))

-- a listing fits, by what it was before the literals
pub lists_fit : (next n : ℕ) (means : ℕ → Meaning) (r : Ruling) (argument : Term) (literals : List Literal) (start l : Listing) (made : Ruling) → start ≡ no_types r.known → l ≡ with_literals n means start literals
    → length l.added + n ≤ 512 → made ≡ with_rule_by next r argument l
    → FitsLists n (with_literals n means (no_types r.known) literals) (with_rule_by next r argument (with_literals n means (no_types r.known) literals)) (Some made)
lists_fit next n means r argument literals start l made e f few g =
    let same : l ≡ with_literals n means (no_types r.known) literals = f ∙ ap (λ s. with_literals n means s literals) e in
    (g ∙ ap (with_rule_by next r argument) same, subst (λ k. length k.added + n ≤ 512) same few)

-- and there is no room
pub lists_full : (n : ℕ) (means : ℕ → Meaning) (r : Ruling) (literals : List Literal) (start : Listing) → start ≡ no_types r.known → 512 < length (with_literals n means start literals).added + n
    → 512 < length (with_literals n means (no_types r.known) literals).added + n
lists_full n means r literals start e full = subst (λ s. 512 < length (with_literals n means s literals).added + n) e full

-- what a clause gives, piece by piece
pub ruled_is : (next : ℕ) (r : Ruling) (argument : Term) (l : Listing) (types more : List Bound) (rule : Rule) (rules : List Rule) (mid further : List (List Rule))
    → rules ≡ r.rules ++ rule ∷ [] → rule ≡ (part_of (type_of types) argument).rule next → types ≡ l.types
    → mid ≡ r.further ++ map single ((part_of (type_of more) argument).inner next) → more ≡ l.types → further ≡ mid ++ l.added
    → ◌≡◌ {A = Ruling} (record { rules = rules; known = l.known; further = further }) (with_rule_by next r argument l)
ruled_is next r argument l types more rule rules mid further a b c d e f =
    let own : rules ≡ r.rules ++ (part_of (type_of l.types) argument).rule next ∷ [] = a ∙ ap (λ x. r.rules ++ x ∷ []) (b ∙ ap (λ ts. (part_of (type_of ts) argument).rule next) c) in
    let inner : mid ≡ r.further ++ map single ((part_of (type_of l.types) argument).inner next) = d ∙ ap (λ ts. r.further ++ map single ((part_of (type_of ts) argument).inner next)) e in
    let all : further ≡ r.further ++ (map single ((part_of (type_of l.types) argument).inner next) ++ l.added) =
    f ∙ ap (λ xs. xs ++ l.added) inner ∙ append_assoc r.further (map single ((part_of (type_of l.types) argument).inner next)) l.added in
    ap (λ xs. made xs further) own ∙ ap (made (r.rules ++ (part_of (type_of l.types) argument).rule next ∷ [])) all
  where
    made : List Rule → List (List Rule) → Ruling
    made rules further = record { rules = rules; known = l.known; further = further }

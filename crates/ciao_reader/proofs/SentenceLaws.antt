-- What was read of a sentence's words says what its tokens are.
use Rattle.std.proofs.Common.{arith, ◌≡◌, ◌<◌, ◌≤◌, ℕ, ◌+◌, List, refl, ap, sym, Bool, true, false}
use Rattle.std.specs.Prelude.{nat_le, if◌then◌else◌, Some, None}
use Rattle.std.proofs.lemmas.Bool.{leb-true, leb-false}
use Rattle.term_core.specs.declared.fixed.TheConstants as fixed
use Rattle.term_core.specs.declared.terms.Term as term
use Rattle.term_core.specs.declared.operators.Operators.{Operators}
use Rattle.term_core.specs.Operators.{greatest_priority}
use Rattle.ciao_tokens.specs.declared.kinds.Token.{Token}
use Rattle.ciao_reader.specs.declared.parts.Part.{Part}
use Rattle.ciao_reader.specs.Roles.{roles, variable_count}
use Rattle.ciao_reader.specs.Derivations.{Tree, Derives}
use Rattle.ciao_reader.specs.Readings.{term_of, depth}
use Rattle.ciao_reader.specs.Sentences.{depth_limit, line_of, beyond, IsSentence}
use Rattle.ciao_reader.specs.Faults.{HasNone, IsDeep, IsBeyond}
use Rattle.ciao_reader.specs.Parts.{part_of, IsPartOf}

-- what is kept of a tree, by whether it is too deep

shallow_tree : (t : Tree) (p : Part) → p ≡ part_of t → p.depth ≤ depth_limit → (depth t ≤ depth_limit) × (term_of t ≡ p.term)
shallow_tree t p e l = by (nat_le (depth t) depth_limit) refl e
  where
    by : (b : Bool) → b ≡ nat_le (depth t) depth_limit → p ≡ (if b then record { term = term_of t; depth = depth t } else record { term = term.Atom fixed.NIL; depth = depth_limit + 1 }) → (depth t ≤ depth_limit) × (term_of t ≡ p.term)
    by true d f = (leb-true _ _ (sym d), sym (ap (λ (q : Part). q.term) f))
    by false d f = absurd (omega (arith, l, ap (λ (q : Part). q.depth) f))

deep_tree : (t : Tree) (p : Part) → p ≡ part_of t → depth_limit < p.depth → depth_limit < depth t
deep_tree t p e l = by (nat_le (depth t) depth_limit) refl e
  where
    by : (b : Bool) → b ≡ nat_le (depth t) depth_limit → p ≡ (if b then record { term = term_of t; depth = depth t } else record { term = term.Atom fixed.NIL; depth = depth_limit + 1 }) → depth_limit < depth t
    by true d f = absurd (omega (arith, l, leb-true _ _ (sym d), ap (λ (q : Part). q.depth) f))
    by false d f = leb-false (depth t) depth_limit (sym d)

module _ (names : List (List ℕ)) (ops : Operators) (ts : List Token) where
  -- of words that are those of the tokens
  pub no_reading : ((t : Tree) → Derives ops (roles names ops ts) greatest_priority t → ⊥) → HasNone names ops ts
  no_reading none t r = none r.tree r.derives

  pub deep_reading : (p : Part) → IsPartOf ops (roles names ops ts) p → depth_limit < p.depth → IsDeep names ops ts
  deep_reading p is l = record {
    term = term_of is.tree;
    reads = record { tree = is.tree; derives = is.derives; meaning = refl };
    deep = deep_tree is.tree p is.is l;
  }

  pub large_reading : (p : Part) (line : ℕ) → IsPartOf ops (roles names ops ts) p → p.depth ≤ depth_limit → beyond names ops ts ≡ Some line → IsBeyond names ops ts line
  large_reading p line is l e = record {
    term = term_of is.tree;
    reads = record { tree = is.tree; derives = is.derives; meaning = refl };
    shallow = (shallow_tree is.tree p is.is l).0;
    first = e;
  }

  pub whole_reading : (p : Part) (line vars : ℕ) → IsPartOf ops (roles names ops ts) p → p.depth ≤ depth_limit → beyond names ops ts ≡ None → line ≡ line_of ts → vars ≡ variable_count names ts
      → IsSentence names ops ts (record { term = p.term; line = line; vars = vars })
  whole_reading p line vars is l e f g = record {
    reads = record { tree = is.tree; derives = is.derives; meaning = (shallow_tree is.tree p is.is l).1 };
    shallow = (shallow_tree is.tree p is.is l).0;
    in_range = e;
    line = f;
    vars = g;
  }

-- An index of predicates, one after the other.
use Rattle.std.proofs.Common.{◌≡◌, ℕ, Bool, true, false, List, [], ◌∷◌, refl, ap, ◌∙◌, arith}
use Rattle.std.proofs.lemmas.Bool.{and_parts}
use Rattle.std.proofs.lemmas.Bool.Decides.{nat_tests}
use Rattle.std.specs.Prelude.{cond, filter, nat_eq, Some}
use Rattle.std.specs.Map.{lookup}
use Rattle.indexmap.specs.IndexMap.{IndexMap, get}
use Rattle.body_code.specs.declared.scopes.Named.{Named}
use Rattle.body_code.specs.declared.scopes.Callee.{Callee}
use Rattle.body_code.specs.declared.scopes.Callee.TheVariants.{Unknown, Several}
use Rattle.body_code.specs.Scopes.{is_named, meaning_of_preds}
use Rattle.body_code.specs.Indexes.{same_key, one_more, found_or_unknown, looked_up}

-- what is found, and the predicates of the same name that are left
abbrev pub with_more : Callee → List Named → Callee
with_more found [] = found
with_more found (n ∷ ns) = with_more (one_more found n.pred) ns

several_stays : (ns : List Named) → with_more Several ns ≡ Several
several_stays [] = refl
several_stays (n ∷ ns) = several_stays ns

-- from nothing on
pub from_nothing : (ns : List Named) → with_more Unknown ns ≡ meaning_of_preds ns
from_nothing [] = refl
from_nothing (n ∷ []) = refl
from_nothing (n ∷ m ∷ rest) = several_stays rest

-- an index of nothing
pub empty_finds : {S : Type 0} (index : IndexMap (ℕ × ℕ) Callee S) → index.entries ≡ [] → (name arity : ℕ) → looked_up index name arity ≡ Unknown
empty_finds index e name arity = ap (λ es. found_or_unknown (lookup (same_key (name, arity)) es)) e

equal : (n m : ℕ) → nat_eq n m ≡ true → n ≡ m
equal n m e = grind (arith, nat_tests)

-- an index with a predicate more
pub one_added : {S : Type 0} (old new : IndexMap (ℕ × ℕ) Callee S) (n : Named) (v : Callee) → ((q : ℕ × ℕ) → get same_key new q ≡ cond (same_key (n.name, n.arity) q) (Some v) (get same_key old q)) → v ≡ one_more (looked_up old n.name n.arity) n.pred
    → (name arity : ℕ) → looked_up new name arity ≡ cond (is_named name arity n) (one_more (looked_up old name arity) n.pred) (looked_up old name arity)
one_added old new n v updates is name arity = ap found_or_unknown (updates (name, arity)) ∙ by (same_key (n.name, n.arity) (name, arity)) refl
  where
    by : (b : Bool) → same_key (n.name, n.arity) (name, arity) ≡ b → found_or_unknown (cond b (Some v) (get same_key old (name, arity))) ≡ cond b (one_more (looked_up old name arity) n.pred) (looked_up old name arity)
    by true e =
        let parts = and_parts (nat_eq n.name name) (nat_eq n.arity arity) e in
        is ∙ ap (λ k. one_more (looked_up old k n.arity) n.pred) (equal n.name name parts.0) ∙ ap (λ k. one_more (looked_up old name k) n.pred) (equal n.arity arity parts.1)
    by false e = refl

-- one predicate more
pub next_named : (name arity : ℕ) (found : Callee) (n : Named) (ns : List Named) →
    with_more found (filter (is_named name arity) (n ∷ ns)) ≡ with_more (cond (is_named name arity n) (one_more found n.pred) found) (filter (is_named name arity) ns)
next_named name arity found n ns = by (is_named name arity n)
  where
    by : (b : Bool) → with_more found (cond b (n ∷ filter (is_named name arity) ns) (filter (is_named name arity) ns)) ≡ with_more (cond b (one_more found n.pred) found) (filter (is_named name arity) ns)
    by true = refl
    by false = refl

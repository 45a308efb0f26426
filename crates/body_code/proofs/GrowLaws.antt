-- Grammars that grow.
use Rattle.std.proofs.Common.{◌≡◌, ◌≤◌, ◌<◌, ◌+◌, ℕ, zero, suc, List, [], ◌∷◌, ◌++◌, length, take, ap, sym, ◌∙◌, subst, arith}
use Rattle.std.proofs.lemmas.List.{append-nil, append_assoc, length-append}
use Rattle.term_core.specs.Lists.{IsPrefix}
use Rattle.term_core.specs.declared.terms.Term.{Term, out-Term}
use Rattle.term_core.specs.declared.terms.Term.TheOpen as layer
use Rattle.prog_data.specs.declared.grammars.Grammar.{Grammar}
use Rattle.prog_data.specs.declared.grammars.Seen.{Seen}
use Rattle.prog_data.specs.GrammarRange.{IsGrammar}
use Rattle.regtype_grammar.specs.declared.meanings.Meaning.{Meaning}
use Rattle.regtype_grammar.specs.TypeNames.{AreKindsBelow, IsMeaningBelow, MeaningsStayInRange}
use Rattle.body_code.specs.declared.scopes.Visible.{Visible}
use Rattle.body_code.specs.Bodies.{type_at, element_type}
use Rattle.body_code.specs.Ranges.{GrowsFor, Grows}

pub prefix_self : {A : Type 0} (xs : List A) → IsPrefix xs xs
prefix_self xs = ([], append-nil xs)

prefix_then : {A : Type 0} (xs ys zs : List A) → IsPrefix xs ys → IsPrefix ys zs → IsPrefix xs zs
prefix_then xs ys zs a b = (a.0 ++ b.0, sym (append_assoc xs a.0 b.0) ∙ ap (λ ws. ws ++ b.0) a.1 ∙ b.1)

prefix_longer : {A : Type 0} (xs ys : List A) → IsPrefix xs ys → length xs ≤ length ys
prefix_longer xs ys a =
    let whole : length (xs ++ a.0) ≡ length ys = ap length a.1 in
    let parts : length (xs ++ a.0) ≡ length xs + length a.0 = length-append xs a.0 in
    omega (arith, whole, parts)

pub grows_self : (are_below : ℕ → Type 0) (g : Grammar) → GrowsFor are_below g g
grows_self are_below g = record { begins = prefix_self g.rules; range = λ is below. is; named = λ program enough is. is }

kinds_more : (n m : ℕ) (seen : List Seen) → n ≤ m → AreKindsBelow n seen → AreKindsBelow m seen
kinds_more n m [] le h = tt
kinds_more n m (s ∷ ss) le h = let below : s.kind < n = h.0 in (omega (arith, below, le), kinds_more n m ss le h.1)

pub grows_then : (visible : Visible) (old mid new : Grammar) → Grows visible old mid → Grows visible mid new → Grows visible old new
grows_then visible old mid new a b = record {
  begins = prefix_then old.rules mid.rules new.rules a.begins b.begins;
  range = λ is below. b.range (a.range is below) (kinds_more (length old.rules) (length mid.rules) visible.types (prefix_longer old.rules mid.rules a.begins) below);
  named = λ program enough is. b.named program enough (a.named program enough is);
}

-- the type that a test by lists names

as_long : {A : Type 0} (k : ℕ) (xs : List A) → length (take k xs) ≡ k → k ≤ length xs
as_long zero xs e = omega arith
as_long (suc k) [] e = let less : 0 ≡ suc k = e in absurd (omega (arith, less))
as_long (suc k) (x ∷ xs) e = let more : suc (length (take k xs)) ≡ suc k = e in let rest : k ≤ length xs = as_long k xs (omega (arith, more)) in omega (arith, rest)

ten_names : (g : Grammar) → IsGrammar g → 10 ≤ length g.rules
ten_names g is = as_long 10 g.rules (ap length is.basic)

element_below : MeaningsStayInRange → (visible : Visible) (ts : List Term) (size : ℕ) → 10 ≤ size → AreKindsBelow size visible.types → IsMeaningBelow size (element_type visible ts)
element_below stay visible [] size ten below = tt
element_below stay visible (t ∷ []) size ten below = tt
element_below stay visible (t ∷ u ∷ []) size ten below = by (out-Term u)
  where
    by : (x : layer.Term-F Term) → IsMeaningBelow size (type_at visible x)
    by (layer.Var v) = tt
    by (layer.Int n) = tt
    by (layer.Atom a) = stay visible.types a size ten below
    by (layer.Node f us) = tt
element_below stay visible (t ∷ u ∷ v ∷ ts) size ten below = tt

-- a grammar that has grown for the type of a test has grown for the types that are seen
pub tested_grows : MeaningsStayInRange → (visible : Visible) (ts : List Term) (m : Meaning) (old new : Grammar) → m ≡ element_type visible ts → GrowsFor (λ size. IsMeaningBelow size m) old new → Grows visible old new
tested_grows stay visible ts m old new is grows = record {
  begins = grows.begins;
  range = λ grammar below. grows.range grammar (subst (IsMeaningBelow (length old.rules)) (sym is) (element_below stay visible ts (length old.rules) (ten_names old grammar) below));
  named = grows.named;
}

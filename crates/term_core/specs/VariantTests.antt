-- What is said of terms that differ in the names of their variables alone, by what does not look at these names.
-- The headline does not rest on this file.
use Rattle.std.specs.Prelude.{◌≡◌, ℕ, Bool}
use Rattle.term_core.specs.declared.terms.Term.{Term}
use Rattle.term_core.specs.declared.terms.Term as term
use Rattle.term_core.specs.declared.terms.Term.TheOpen.{Term-F, Var}
use Rattle.term_core.specs.declared.terms.Term.TheFolds.{fold-Term}
use Rattle.term_core.specs.Terms.{instance, same}

-- a term and an instance of which it is an instance are one term, once each variable has the same name
abbrev pub VariantsShapedAlike : Type 0
VariantsShapedAlike = (there back : ℕ → Term) (t : Term) → instance back (instance there t) ≡ t → instance (λ v. term.Var 0) (instance there t) ≡ instance (λ v. term.Var 0) t

-- a test of a term by the tests of its parts, which does not look at the number of a variable, says the same of both
abbrev pub VariantsTestedAlike : Type 0
VariantsTestedAlike = (test : Term-F Bool → Bool) → ((v w : ℕ) → test (Var v) ≡ test (Var w)) →
    (there back : ℕ → Term) (t : Term) → instance back (instance there t) ≡ t → fold-Term Bool test (instance there t) ≡ fold-Term Bool test t

-- two terms are the same exactly where two such instances of them are
abbrev pub VariantsSameAlike : Type 0
VariantsSameAlike = (there back : ℕ → Term) (t u : Term) → instance back (instance there t) ≡ t → instance back (instance there u) ≡ u → same (instance there t) (instance there u) ≡ same t u

-- The rows of built-ins in the table: each has as many arguments as it takes, and each test of a type with one argument a basic type.
use Rattle.std.proofs.Common.{◌≡◌, ℕ, Bool, true, false, List, [], ◌∷◌, length, refl, ap, sym, ◌∙◌, arith, true≢false}
use Rattle.std.specs.Prelude.{cond, find, nat_lt, ◌==◌, ◌&&◌, Some, option_map}
use Rattle.std.specs.List.{list_all}
use Rattle.std.proofs.lemmas.Bool.{and_parts}
use Rattle.std.proofs.lemmas.Bool.Decides.{nat_tests}
use Rattle.std.proofs.lemmas.Option.{same_Some, none-some}
use Rattle.term_core.specs.declared.terms.Term.{Term}
use Rattle.prog_data.specs.declared.control.Meaning.{Meaning}
use Rattle.prog_data.specs.declared.control.Meaning.TheVariants as meaning
use Rattle.prog_data.specs.declared.goals.Builtin.{Builtin as BuiltinName}
use Rattle.prog_data.specs.declared.goals.Builtin.TheVariants as builtin
use Rattle.prog_data.specs.Control.{Predefined, predefined, meaning_among, meaning_of}
use Rattle.prog_data.specs.Ranges.{arity_of, is_builtin_of}

-- whether a built-in may have so many arguments, where a test of a type has one
abbrev takes : BuiltinName → ℕ → Bool
takes (builtin.Belongs type) arity = (arity == 1) && nat_lt type 10
takes b arity = arity == arity_of b

abbrev fits : Meaning → ℕ → Bool
fits (meaning.Builtin b) arity = takes b arity
fits other arity = true

all_fit : list_all (λ row. fits row.2 row.1) predefined ≡ true
all_fit = refl

equal : (n m : ℕ) → (n == m) ≡ true → n ≡ m
equal n m e = grind (arith, nat_tests)

among : (rows : List Predefined) (name arity : ℕ) (m : Meaning) → list_all (λ row. fits row.2 row.1) rows ≡ true → meaning_among rows name arity ≡ Some m → fits m arity ≡ true
among [] name arity m all e = absurd (none-some _ e)
among (row ∷ rows) name arity m all e = by (among rows name arity m rest) ((row.0 == name) && (row.1 == arity)) refl e
  where
    rest : list_all (λ r. fits r.2 r.1) rows ≡ true
    rest = (and_parts (fits row.2 row.1) _ all).1

    by : (meaning_among rows name arity ≡ Some m → fits m arity ≡ true) → (b : Bool) → ((row.0 == name) && (row.1 == arity)) ≡ b → option_map (λ r. r.2) (cond b (Some row) (find (λ r. (r.0 == name) && (r.1 == arity)) rows)) ≡ Some m → fits m arity ≡ true
    by others false is i = others i
    by others true is i =
        ap (λ n. fits m n) (sym (equal row.1 arity (and_parts (row.0 == name) _ is).1)) ∙ ap (λ k. fits k row.1) (sym (same_Some _ _ i)) ∙ (and_parts (fits row.2 row.1) _ all).0

-- a test of one argument
test_of : (size type : ℕ) (ts : List Term) → ((length ts == 1) && nat_lt type 10) ≡ true → is_builtin_of size (builtin.Belongs type) ts ≡ true
test_of size type [] e = absurd (true≢false (sym e))
test_of size type (t ∷ []) e = e
test_of size type (t ∷ u ∷ ts) e = let one : length (t ∷ u ∷ ts) ≡ 1 = equal (length (t ∷ u ∷ ts)) 1 (and_parts (length (t ∷ u ∷ ts) == 1) (nat_lt type 10) e).0 in absurd (omega (arith, one))

taken : (size : ℕ) (b : BuiltinName) (ts : List Term) → takes b (length ts) ≡ true → is_builtin_of size b ts ≡ true
taken size builtin.Unify ts e = e
taken size builtin.NotUnify ts e = e
taken size builtin.Same ts e = e
taken size builtin.NotSame ts e = e
taken size builtin.Is ts e = e
taken size builtin.Less ts e = e
taken size builtin.Greater ts e = e
taken size builtin.LessEq ts e = e
taken size builtin.GreaterEq ts e = e
taken size builtin.NumEq ts e = e
taken size builtin.NumNotEq ts e = e
taken size builtin.Integer ts e = e
taken size builtin.Atom ts e = e
taken size builtin.Write ts e = e
taken size builtin.Writeq ts e = e
taken size builtin.Nl ts e = e
taken size (builtin.Belongs type) ts e = test_of size type ts e
taken size builtin.IsVar ts e = e
taken size builtin.IsNonvar ts e = e
taken size builtin.IsGround ts e = e

-- a built-in of the table with its arguments is in range, whatever the grammar is
pub builtin_in : (size name : ℕ) (b : BuiltinName) (ts : List Term) → meaning_of name (length ts) ≡ Some (meaning.Builtin b) → is_builtin_of size b ts ≡ true
builtin_in size name b ts e = taken size b ts (among predefined name (length ts) (meaning.Builtin b) all_fit e)

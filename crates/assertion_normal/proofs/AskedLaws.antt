-- What a property asks: of the code that looks it up, and in range.
use Rattle.std.proofs.Common.{◌≡◌, ℕ, zero, suc, ◌<◌, ◌≤◌, ◌==◌, nat_lt, Bool, true, false, List, [], ◌∷◌, take, length, refl, ap, sym, ◌∙◌, subst, arith}
use Rattle.std.specs.Prelude.{cond, Option, Some, None, option_map}
use Rattle.std.specs.List.{AllByRecursion}
use Rattle.std.proofs.lemmas.Bool.{and_parts, and_from}
use Rattle.std.proofs.lemmas.Bool.Decides.{nat_tests}
use Rattle.term_core.specs.declared.fixed.TheConstants.{VAR, NONVAR}
use Rattle.term_core.proofs.OperandLaws.{none_part, some_part}
use Rattle.prog_data.specs.declared.conditions.Prop.{Prop}
use Rattle.prog_data.specs.declared.conditions.Prop.TheVariants.{Belongs, IsVar, IsNonvar, IsGround}
use Rattle.prog_data.specs.declared.grammars.Grammar.{Grammar}
use Rattle.prog_data.specs.declared.grammars.Seen.{Seen}
use Rattle.prog_data.specs.GrammarRange.{IsGrammar}
use Rattle.prog_data.specs.Ranges.{is_prop_of}
use Rattle.assertion_read.specs.declared.assertions.Written.{Written}
use Rattle.regtype_grammar.specs.declared.meanings.Meaning.{Meaning}
use Rattle.regtype_grammar.specs.declared.meanings.Meaning.TheVariants.{One, Unknown, Several}
use Rattle.regtype_grammar.specs.TypeNames.{meaning, IsMeaningBelow, MeaningsStayInRange}
use Rattle.regtype_grammar.specs.Grammars.{number}
use Rattle.regtype_grammar.specs.Lists.{Listed, list_of}
use Rattle.assertion_normal.specs.Properties.{mode, needs_no_type, type_name, as_type, of_type, asked}
use Rattle.assertion_normal.specs.Ranges.{AreSeen}
use Rattle.assertion_normal.proofs.GrownLaws.{lists_longer, list_grows, list_named}

-- the code, by what it tests

module _ (seen : List Seen) (g : Grammar) (w : Written) where
  pub mode_asked : needs_no_type w ≡ true → asked seen g w ≡ Some (g, mode w.property w.arg)
  mode_asked e = ap (λ b. cond b (Some (g, mode w.property w.arg)) (of_type g w.arg (number (meaning seen (type_name w))) w.element)) e

  type_asked : needs_no_type w ≡ false → asked seen g w ≡ of_type g w.arg (number (meaning seen (type_name w))) w.element
  type_asked e = ap (λ b. cond b (Some (g, mode w.property w.arg)) (of_type g w.arg (number (meaning seen (type_name w))) w.element)) e

  pub plain_asked : (type : ℕ) → needs_no_type w ≡ false → type ≡ number (meaning seen (type_name w)) → w.element ≡ None → asked seen g w ≡ Some (g, Belongs w.arg type)
  plain_asked type e is none = type_asked e ∙ ap (λ n. of_type g w.arg n w.element) (sym is) ∙ ap (of_type g w.arg type) none

  pub list_asked : (type element : ℕ) → needs_no_type w ≡ false → type ≡ number (meaning seen (type_name w)) → w.element ≡ Some element → asked seen g w ≡ option_map (as_type w.arg) (list_of g type)
  list_asked type element e is some = type_asked e ∙ ap (λ n. of_type g w.arg n w.element) (sym is) ∙ ap (of_type g w.arg type) some

-- a grammar in range has the ten basic names
as_long : {A : Type 0} (k : ℕ) (xs : List A) → length (take k xs) ≡ k → k ≤ length xs
as_long zero xs e = omega arith
as_long (suc k) [] e = let no : 0 ≡ suc k = e in absurd (omega (arith, no))
as_long (suc k) (x ∷ xs) e = let more : suc (length (take k xs)) ≡ suc k = e in let rest : k ≤ length xs = as_long k xs (omega (arith, more)) in omega (arith, rest)

pub ten_names : (g : Grammar) → IsGrammar g → 10 ≤ length g.rules
ten_names g h = as_long 10 g.rules (ap length h.basic)

-- the name of a type is one of the grammar's
number_at : (size : ℕ) → 10 ≤ size → (m : Meaning) → IsMeaningBelow size m → number m < size
number_at size ten (One n) h = h
number_at size ten Unknown h = omega (arith, ten)
number_at size ten Several h = omega (arith, ten)

pub number_below : MeaningsStayInRange → (seen : List Seen) (name size : ℕ) → 10 ≤ size → AllByRecursion (λ s. s.kind < size) seen → number (meaning seen name) < size
number_below stay seen name size ten h = number_at size ten (meaning seen name) (stay seen name size ten h)

passes : (n size : ℕ) → n < size → nat_lt n size ≡ true
passes n size lt = grind (arith, nat_tests, lt)

below : (n size : ℕ) → nat_lt n size ≡ true → n < size
below n size e = grind (arith, nat_tests, e)

-- what is in range of a grammar is in range of each larger one
pub prop_more : (arity size more : ℕ) (p : Prop) → size ≤ more → is_prop_of arity size p ≡ true → is_prop_of arity more p ≡ true
prop_more arity size more (Belongs i type) le e =
    let both = and_parts (nat_lt i arity) (nat_lt type size) e in
    let lt : type < size = below type size both.1 in
    and_from (nat_lt i arity) (nat_lt type more) both.0 (passes type more (omega (arith, lt, le)))
prop_more arity size more (IsVar i) le e = e
prop_more arity size more (IsNonvar i) le e = e
prop_more arity size more (IsGround i) le e = e

-- a property of an argument in range asks for a name of the grammar behind it
module _ (stay : MeaningsStayInRange) (seen : List Seen) (arity : ℕ) where
  abbrev IsAsked : Grammar → Grammar × Prop → Type 0
  IsAsked g r = (is_prop_of arity (length r.0.rules) r.1 ≡ true) × (length g.rules ≤ length r.0.rules)

  mode_in : (size n i : ℕ) → i < arity → is_prop_of arity size (mode n i) ≡ true
  mode_in size n i lt = by (n == VAR) (n == NONVAR)
    where
      by : (b c : Bool) → is_prop_of arity size (cond b (IsVar i) (cond c (IsNonvar i) (IsGround i))) ≡ true
      by true c = passes i arity lt
      by false true = passes i arity lt
      by false false = passes i arity lt

  listed_in : (g : Grammar) (i type : ℕ) (r : Grammar × Prop) → i < arity → option_map (as_type i) (list_of g type) ≡ Some r → IsAsked g r
  listed_in g i type r lt e = by (list_of g type) refl e
    where
      by : (o : Option Listed) → list_of g type ≡ o → option_map (as_type i) o ≡ Some r → IsAsked g r
      by None j e' = absurd (none_part r e')
      by (Some l) j e' =
          subst (IsAsked g) (some_part (as_type i l) r e')
          (and_from (nat_lt i arity) (nat_lt l.name (length l.grammar.rules)) (passes i arity lt) (passes l.name (length l.grammar.rules) (list_named g type l j)), lists_longer g l.grammar (list_grows g type l j))

  type_in : (g : Grammar) (i type : ℕ) (element : Option ℕ) (r : Grammar × Prop) → i < arity → type < length g.rules → of_type g i type element ≡ Some r → IsAsked g r
  type_in g i type None r lt own e =
      subst (IsAsked g) (some_part (g, Belongs i type) r e) (and_from (nat_lt i arity) (nat_lt type (length g.rules)) (passes i arity lt) (passes type (length g.rules) own), omega arith)
  type_in g i type (Some element) r lt own e = listed_in g i type r lt e

  pub asked_in : (g : Grammar) (w : Written) (r : Grammar × Prop) → 10 ≤ length g.rules → AreSeen g seen → w.arg < arity → asked seen g w ≡ Some r → IsAsked g r
  asked_in g w r ten h lt e = by (needs_no_type w) e
    where
      by : (b : Bool) → cond b (Some (g, mode w.property w.arg)) (of_type g w.arg (number (meaning seen (type_name w))) w.element) ≡ Some r → IsAsked g r
      by true e' = subst (IsAsked g) (some_part (g, mode w.property w.arg) r e') (mode_in (length g.rules) w.property w.arg lt, omega arith)
      by false e' = type_in g w.arg (number (meaning seen (type_name w))) w.element r lt (number_below stay seen (type_name w) (length g.rules) ten h) e'

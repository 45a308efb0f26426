-- A type has the least terms that the clauses of the types give.
use Rattle.std.proofs.Common.{◌≡◌, ◌↔◌, inl, inr, ℕ, zero, suc, ◌+◌, ◌-◌, ◌<◌, ◌≤◌, ◌==◌, nat_lt, Bool, true, false, List, [], ◌∷◌, ◌++◌, length, refl, sym, subst, arith}
use Rattle.std.specs.Prelude.{Some, slice_get, slice_index_or}
use Rattle.std.specs.List.{AllByRecursion}
use Rattle.std.proofs.lemmas.Bool.{ltb-false}
use Rattle.std.proofs.lemmas.Bool.Decides.{nat_tests}
use Rattle.std.proofs.lemmas.List.{append_assoc}
use Rattle.term_core.specs.declared.terms.Term.{Term}
use Rattle.ciao_reader.specs.declared.sentences.Sentence.{Sentence}
use Rattle.prog_data.specs.declared.grammars.Grammar.{Grammar}
use Rattle.prog_data.specs.BasicNames.{basic_grammar}
use Rattle.prog_data.specs.Membership.{Belongs}
use Rattle.term_core.proofs.OperandLaws.{none_part, some_part}
use Rattle.regtype_grammar.specs.declared.literals.Literal.{Literal}
use Rattle.regtype_grammar.specs.declared.meanings.Meaning.{Meaning}
use Rattle.regtype_grammar.specs.declared.modules.RegType.{RegType}
use Rattle.regtype_grammar.specs.declared.modules.TypeModule.{TypeModule}
use Rattle.regtype_grammar.specs.TypeNames.{count_types, starts, first_names, numbered, meaning, are_seen}
use Rattle.regtype_grammar.specs.Grammars.{number, made}
use Rattle.regtype_grammar.specs.ListTerms.{IsListOf, empty, cell}
use Rattle.regtype_grammar.specs.TypeTerms.{IsOfType, IsAsSaid, Chosen, MayStand, IsGivenBy, IsGiven, GivenWithin, Given, TypesHaveLeastTerms}
use Rattle.regtype_grammar.proofs.MadeLaws.{basic_rules_below, meant_each, made_grammar, by_made}
use Rattle.regtype_grammar.proofs.OldNames.{names_keep}
use Rattle.regtype_grammar.proofs.PartMeaning.{shape_more}
use Rattle.regtype_grammar.proofs.RuleMeaning.{ByRules, rules_wider, Has, belongs_closed, Within, belongs_within, within_belongs, within_steps}
use Rattle.regtype_grammar.proofs.TypeMeaning.{rules_mean, made_have_terms}

-- what is given stays so where more terms are had, of the types that are named
module _ (S T : ℕ → Term → Type 0) (means : ℕ → Meaning) (wider : (name : ℕ) (u : Term) → S (number (means name)) u → T (number (means name)) u) where
  list_wider : (name : ℕ) {u : Term} → IsListOf (S (number (means name))) u → IsListOf (T (number (means name))) u
  list_wider name (empty e) = empty e
  list_wider name (cell first rest e a b) = cell first rest e (wider name first a) (list_wider name b)

  said_wider : (x : Literal) (u : Term) → IsAsSaid S means x u → IsAsSaid T means x u
  said_wider x u h = by x.in_list h
    where
      by : (b : Bool) → IsOfType S (number (means x.name)) b u → IsOfType T (number (means x.name)) b u
      by true h = list_wider x.name h
      by false h = wider x.name u h

  stand_wider : (ls : List Literal) (v : ℕ) (u : Term) → MayStand S means ls v u → MayStand T means ls v u
  stand_wider [] v u h = tt
  stand_wider (x ∷ xs) v u h = by (x.variable == v) (stand_wider xs v u) h
    where
      by : (b : Bool) → (MayStand S means xs v u → MayStand T means xs v u) → Chosen b (IsAsSaid S means x u) (MayStand S means xs v u) → Chosen b (IsAsSaid T means x u) (MayStand T means xs v u)
      by true rest h = said_wider x u h
      by false rest h = rest h

  sentence_wider : (name : ℕ) (s : Sentence) (u : Term) → IsGivenBy S means name s u → IsGivenBy T means name s u
  sentence_wider name s u h = (h.0, h.1, shape_more (MayStand S means h.0.literals) (MayStand T means h.0.literals) (stand_wider h.0.literals) h.2)

  given_wider : (name : ℕ) (ss : List Sentence) (u : Term) → IsGiven S means name ss u → IsGiven T means name ss u
  given_wider name [] u h = absurd h
  given_wider name (s ∷ ss) u (inl h) = inl (sentence_wider name s u h)
  given_wider name (s ∷ ss) u (inr h) = inr (given_wider name ss u h)

-- a grammar name behind the basic ones is that of a type

record IsPlaced (n : ℕ) (ms : List TypeModule) (m : ℕ) : Type 0 where
  position : ℕ
  place : ℕ
  one : TypeModule
  declared : RegType
  of_module : slice_get ms position ≡ Some one
  of_types : slice_get one.types place ≡ Some declared
  name_is : m ≡ slice_index_or (starts n ms) position 0 + place

item_at : {A : Type 0} (xs : List A) (k : ℕ) → k < length xs → (x : A) × (slice_get xs k ≡ Some x)
item_at [] k lt = let no : k < 0 = lt in absurd (omega (arith, no))
item_at (x ∷ xs) zero lt = (x, refl)
item_at (x ∷ xs) (suc k) lt = let less : suc k < suc (length xs) = lt in item_at xs k (omega (arith, less))

each_at : {A : Type 0} (P : A → Type 0) (xs : List A) (k : ℕ) (x : A) → slice_get xs k ≡ Some x → AllByRecursion P xs → P x
each_at P [] k x e h = absurd (none_part x e)
each_at P (y ∷ ys) zero x e h = subst P (some_part y x e) h.0
each_at P (y ∷ ys) (suc k) x e h = each_at P ys k x e h.1

below_test : (a b : ℕ) → nat_lt a b ≡ true → a < b
below_test a b e = grind (arith, nat_tests, e)

above_test : (a b : ℕ) → nat_lt a b ≡ false → b ≤ a
above_test a b e = ltb-false a b e

placed : (n : ℕ) (ms : List TypeModule) (m : ℕ) → n ≤ m → m < n + count_types ms → IsPlaced n ms m
placed n [] m le lt = let no : m < n + 0 = lt in absurd (omega (arith, le, no))
placed n (x ∷ ms) m le lt = by (nat_lt m (length x.types + n)) refl (λ more less. placed (length x.types + n) ms m more less)
  where
    whole : m < n + (length x.types + count_types ms)
    whole = lt

    by : (b : Bool) → nat_lt m (length x.types + n) ≡ b → (length x.types + n ≤ m → m < (length x.types + n) + count_types ms → IsPlaced (length x.types + n) ms m) → IsPlaced n (x ∷ ms) m
    by true e later =
        let own : m < length x.types + n = below_test m (length x.types + n) e in
        let found = item_at x.types (m - n) (omega (arith, own, le)) in
        let is : m ≡ n + (m - n) = omega (arith, le) in
        record { position = zero; place = m - n; one = x; declared = found.0; of_module = refl; of_types = found.1; name_is = is }
    by false e later =
        let further : length x.types + n ≤ m = above_test m (length x.types + n) e in
        let rest = later further (omega (arith, whole)) in
        record { position = suc rest.position; place = rest.place; one = rest.one; declared = rest.declared; of_module = rest.of_module; of_types = rest.of_types; name_is = rest.name_is }

module _ (modules : List TypeModule) (seen : are_seen modules ≡ true) where
  abbrev grammar : Grammar
  grammar = made_grammar modules

  abbrev count : ℕ
  count = 10 + count_types modules

  basic_same : (n : ℕ) → n < 10 → (u : Term) → Belongs grammar u n ↔ Belongs basic_grammar u n
  basic_same n lt u =
      names_keep basic_grammar grammar ((made modules).own ++ (made modules).further) (sym (append_assoc basic_grammar.rules (made modules).own (made modules).further)) (basic_rules_below 10 (omega arith)) n lt u

  numbers : (k : ℕ) (one : TypeModule) → slice_get modules k ≡ Some one → (name : ℕ) → number (meaning (numbered (first_names modules) one.visible) name) < count
  numbers k one e =
      each_at (λ m. (name : ℕ) → number (meaning (numbered (first_names modules) m.visible) name) < count) modules k one e (meant_each modules seen count (omega arith) (omega arith))

  -- what comes by rules within so many is given within so many clauses
  step : (d : ℕ) → ((m : ℕ) → m < count → (w : Term) → Within grammar d m w → GivenWithin modules d m w) → (n : ℕ) → n < count → (u : Term) → ByRules grammar (Within grammar d) n u → GivenWithin modules (suc d) n u
  step d inner n lt u h = by (nat_lt n 10) refl
    where
      by : (b : Bool) → nat_lt n 10 ≡ b → GivenWithin modules (suc d) n u
      by true e =
          let basic = below_test n 10 e in
          inl (basic, (basic_same n basic u).0 (belongs_closed grammar n u (rules_wider (Within grammar d) (Has grammar) (within_belongs grammar d) grammar n u h)))
      by false e =
          let x = placed 10 modules n (above_test n 10 e) lt in
          let means = meaning (numbered (first_names modules) x.one.visible) in
          inr (record {
            position = x.position;
            place = x.place;
            one = x.one;
            declared = x.declared;
            of_module = x.of_module;
            of_types = x.of_types;
            name_is = x.name_is;
            given = given_wider (Within grammar d) (GivenWithin modules d) means (λ name w k. inner (number (means name)) (numbers x.position x.one x.of_module name) w k) x.declared.name x.declared.clauses u
                ((rules_mean modules (Within grammar d) (Has grammar) (within_steps grammar d) x.position x.place x.one x.declared x.of_module x.of_types u).0 (subst (λ m. ByRules grammar (Within grammar d) m u) x.name_is h));
          })

  within_given : (d n : ℕ) → n < count → (u : Term) → Within grammar d n u → GivenWithin modules d n u
  within_given zero n lt u h = absurd h
  within_given (suc d) n lt u h = step d (within_given d) n lt u h

  -- what is given belongs
  given_belongs : (d n : ℕ) (u : Term) → GivenWithin modules d n u → Belongs grammar u n
  given_belongs zero n u h = absurd h
  given_belongs (suc d) n u (inl h) = (basic_same n h.0 u).1 h.1
  given_belongs (suc d) n u (inr x) =
      let means = meaning (numbered (first_names modules) x.one.visible) in
      subst (λ m. Belongs grammar u m) (sym x.name_is)
      ((made_have_terms modules x.position x.place x.one x.declared x.of_module x.of_types u).1
      (given_wider (GivenWithin modules d) (Has grammar) means (λ name w k. given_belongs d (number (means name)) w k) x.declared.name x.declared.clauses u x.given))

  least_made : (n : ℕ) → n < count → (u : Term) → Belongs grammar u n ↔ Given modules n u
  least_made n lt u = (λ b. let w = belongs_within grammar b in (w.0, within_given w.0 n lt u w.1), λ h. given_belongs h.0 n u h.1)

pub types_have_least_terms : TypesHaveLeastTerms
types_have_least_terms modules g seen e n lt u = subst (λ h. Belongs h u n ↔ Given modules n u) (by_made modules g e) (least_made modules seen n lt u)

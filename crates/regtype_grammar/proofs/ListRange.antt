-- A grammar in range stays so where the lists of one of its names are added.
use Rattle.std.proofs.Common.{◌≡◌, ℕ, zero, suc, ◌+◌, ◌<◌, ◌≤◌, nat_lt, Bool, true, false, List, [], ◌∷◌, ◌++◌, take, length, refl, ap, sym, ◌∙◌, subst, arith}
use Rattle.std.specs.Prelude.{cond, Option, Some, None}
use Rattle.std.specs.List.{list_all}
use Rattle.std.proofs.lemmas.Bool.Decides.{nat_tests}
use Rattle.std.proofs.lemmas.List.{length-append}
use Rattle.term_core.specs.Lists.{IsPrefix}
use Rattle.prog_data.specs.declared.grammars.Rule.{Rule}
use Rattle.prog_data.specs.declared.grammars.Grammar.{Grammar}
use Rattle.prog_data.specs.GrammarRange.{names_in, is_rule_of, IsGrammar}
use Rattle.term_core.proofs.OperandLaws.{none_part, some_part}
use Rattle.regtype_grammar.specs.Lists.{most_names, list_rules, are_list_rules, list_from, found_list, Listed, with_lists_of, found_or_added, list_of, ListsStayInRange}
use Rattle.regtype_grammar.proofs.EachLaws.{each_append, test_each, each_more}
use Rattle.regtype_grammar.proofs.BelowLaws.{IsRuleBelow, AreRulesBelow, AllRulesBelow}
use Rattle.regtype_grammar.proofs.MadeLaws.{rules_test}
use Rattle.regtype_grammar.proofs.PartLoops.{with_nothing}

-- the rules of a grammar, by what is below its number of names
pub rules_below : (size : ℕ) (rules : List (List Rule)) → list_all (list_all (is_rule_of size)) rules ≡ true → AllRulesBelow size rules
rules_below size rules e = test_each (AreRulesBelow size) (list_all (is_rule_of size)) (λ rs i. test_each (IsRuleBelow size) (is_rule_of size) rule rs i) rules e
  where
    less : (n : ℕ) → nat_lt n size ≡ true → n < size
    less n e = grind (arith, nat_tests, e)

    rule : (r : Rule) → is_rule_of size r ≡ true → IsRuleBelow size r
    rule r e = test_each (λ n. n < size) (λ n. nat_lt n size) less (names_in r) e

more_names : (rules : List (List Rule)) (size : ℕ) → AllRulesBelow size rules → AllRulesBelow (suc size) rules
more_names rules size h =
    each_more (AreRulesBelow size) (AreRulesBelow (suc size)) (λ rs k. each_more (IsRuleBelow size) (IsRuleBelow (suc size)) (λ r j. each_more (λ n. n < size) (λ n. n < suc size) (λ n lt. omega (arith, lt)) (names_in r) j) rs k) rules h

-- the first rules stay
take_front : {A : Type 0} (k : ℕ) (xs ys : List A) → k ≤ length xs → take k (xs ++ ys) ≡ take k xs
take_front zero xs ys le = refl
take_front (suc k) [] ys le = let no : suc k ≤ 0 = le in absurd (omega (arith, no))
take_front (suc k) (x ∷ xs) ys le = let longer : suc k ≤ suc (length xs) = le in ap (λ zs. x ∷ zs) (take_front k xs ys (omega (arith, longer)))

as_long : {A : Type 0} (k : ℕ) (xs : List A) → length (take k xs) ≡ k → k ≤ length xs
as_long zero xs e = omega arith
as_long (suc k) [] e = let no : 0 ≡ suc k = e in absurd (omega (arith, no))
as_long (suc k) (x ∷ xs) e = let more : suc (length (take k xs)) ≡ suc k = e in let rest : k ≤ length xs = as_long k xs (omega (arith, more)) in omega (arith, rest)

ten_names : (g : Grammar) → IsGrammar g → 10 ≤ length g.rules
ten_names g h = as_long 10 g.rules (ap length h.basic)

-- a name that was found is one of the names
found_below : (element at : ℕ) (rules : List (List Rule)) (name : ℕ) → list_from element at rules ≡ Some name → name < at + length rules
found_below element at [] name e = absurd (none_part name e)
found_below element at (rs ∷ rest) name e = by (are_list_rules element at rs) (found_below element (suc at) rest name) e
  where
    by : (b : Bool) → (list_from element (suc at) rest ≡ Some name → name < suc at + length rest) → cond b (Some at) (list_from element (suc at) rest) ≡ Some name → name < at + suc (length rest)
    by true later e = let same : at ≡ name = some_part at name e in omega (arith, same)
    by false later e = let lt : name < suc at + length rest = later e in omega (arith, lt)

module _ (g : Grammar) (element : ℕ) (h : IsGrammar g) (lt : element < length g.rules) where
  added_in_range : length g.rules < 512 → IsGrammar (with_lists_of g element).grammar
  added_in_range room =
      let size = length g.rules in
      let longer : length (g.rules ++ list_rules element size ∷ []) ≡ suc size = length-append g.rules (list_rules element size ∷ []) ∙ one size in
      let own : element < suc size = omega (arith, lt) in
      let itself : size < suc size = omega arith in
      record {
        basic = take_front 10 g.rules (list_rules element size ∷ []) (ten_names g h) ∙ h.basic;
        few = omega (arith, longer, room);
        closed = ap (λ n. list_all (list_all (is_rule_of n)) (g.rules ++ list_rules element size ∷ [])) longer
            ∙ rules_test (suc size) (g.rules ++ list_rules element size ∷ [])
            (each_append (AreRulesBelow (suc size)) g.rules (list_rules element size ∷ []) (more_names g.rules size (rules_below size g.rules h.closed)) ((tt, ((own, (itself, tt)), tt)), tt));
      }
    where
      one : (n : ℕ) → n + 1 ≡ suc n
      one n = omega arith

  listed_in_range : (l : Listed) → list_of g element ≡ Some l → IsGrammar l.grammar × (l.name < length l.grammar.rules)
  listed_in_range l e = by (found_list g element) refl e
    where
      added : (b : Bool) → nat_lt (length g.rules) most_names ≡ b → cond b (Some (with_lists_of g element)) None ≡ Some l → IsGrammar l.grammar × (l.name < length l.grammar.rules)
      added false i e = absurd (none_part l e)
      added true i e =
          let room : length g.rules < 512 = grind (arith, nat_tests, i) in
          let longer : length (g.rules ++ list_rules element (length g.rules) ∷ []) ≡ length g.rules + 1 = length-append g.rules (list_rules element (length g.rules) ∷ []) in
          let last : length g.rules < length (g.rules ++ list_rules element (length g.rules) ∷ []) = omega (arith, longer) in
          subst (λ k. IsGrammar k.grammar × (k.name < length k.grammar.rules)) (some_part (with_lists_of g element) l e) (added_in_range room, last)

      by : (o : Option ℕ) → found_list g element ≡ o → found_or_added g element o ≡ Some l → IsGrammar l.grammar × (l.name < length l.grammar.rules)
      by None i e = added (nat_lt (length g.rules) most_names) refl e
      by (Some name) i e =
          let below : name < 0 + length g.rules = found_below element 0 g.rules name i in
          let one : name < length g.rules = omega (arith, below) in
          subst (λ k. IsGrammar k.grammar × (k.name < length k.grammar.rules)) (some_part _ l e) (h, one)

pub lists_stay : (g : Grammar) (element : ℕ) (new : Grammar) (name : ℕ) → list_of g element ≡ Some (record { grammar = new; name = name }) → ListsStayInRange g element new name
lists_stay g element new name e h lt = listed_in_range g element h lt (record { grammar = new; name = name }) e

-- the rules of the other names stay
pub lists_front : (g : Grammar) (element : ℕ) (new : Grammar) (name : ℕ) → list_of g element ≡ Some (record { grammar = new; name = name }) → IsPrefix g.rules new.rules
lists_front g element new name e = by (found_list g element) e
  where
    listed : Listed
    listed = record { grammar = new; name = name }

    added : (b : Bool) → cond b (Some (with_lists_of g element)) None ≡ Some listed → IsPrefix g.rules new.rules
    added false e = absurd (none_part listed e)
    added true e = (list_rules element (length g.rules) ∷ [], ap (λ k. k.grammar.rules) (some_part (with_lists_of g element) listed e))

    by : (o : Option ℕ) → found_or_added g element o ≡ Some listed → IsPrefix g.rules new.rules
    by None e = added (nat_lt (length g.rules) most_names) e
    by (Some at) e = ([], sym (with_nothing g.rules) ∙ ap (λ k. k.grammar.rules) (some_part _ listed e))

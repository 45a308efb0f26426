-- The names of lists in grammars.
use Rattle.std.proofs.Common.{◌≡◌, ℕ, suc, ◌+◌, ◌<◌, ◌≤◌, nat_lt, Bool, true, false, List, [], ◌∷◌, ◌++◌, length, refl, subst, arith}
use Rattle.std.specs.Prelude.{cond, Option, Some, None}
use Rattle.std.proofs.lemmas.List.{length-append}
use Rattle.std.proofs.lemmas.Option.{same_Some, none-some}
use Rattle.prog_data.specs.declared.grammars.Rule.{Rule}
use Rattle.prog_data.specs.declared.grammars.Grammar.{Grammar}
use Rattle.regtype_grammar.specs.Lists.{most_names, list_rules, are_list_rules, list_from, found_list, Listed, with_lists_of, found_or_added, list_of}

-- a grammar that is no smaller, and a name of it
abbrev pub IsNamedIn : Grammar → Listed → Type 0
IsNamedIn g l = (length g.rules ≤ length l.grammar.rules) × (l.name < length l.grammar.rules)

found_below : (element at : ℕ) (rules : List (List Rule)) (name : ℕ) → list_from element at rules ≡ Some name → name < at + length rules
found_below element at [] name e = absurd (none-some _ e)
found_below element at (rs ∷ rest) name e = by (are_list_rules element at rs) (found_below element (suc at) rest name) e
  where
    by : (b : Bool) → (list_from element (suc at) rest ≡ Some name → name < suc at + length rest) → cond b (Some at) (list_from element (suc at) rest) ≡ Some name → name < at + suc (length rest)
    by true later i = let same : at ≡ name = same_Some _ _ i in omega (arith, same)
    by false later i = let lt : name < suc at + length rest = later i in omega (arith, lt)

-- the lists of an element are a name of the grammar behind them
pub list_named : (g : Grammar) (element : ℕ) (l : Listed) → list_of g element ≡ Some l → IsNamedIn g l
list_named g element l e = by (found_list g element) refl e
  where
    added : (b : Bool) → cond b (Some (with_lists_of g element)) None ≡ Some l → IsNamedIn g l
    added false i = absurd (none-some _ i)
    added true i =
        let longer : length (g.rules ++ list_rules element (length g.rules) ∷ []) ≡ length g.rules + 1 = length-append g.rules (list_rules element (length g.rules) ∷ []) in
        subst (IsNamedIn g) (same_Some _ _ i) (omega (arith, longer), omega (arith, longer))

    by : (o : Option ℕ) → found_list g element ≡ o → found_or_added g element o ≡ Some l → IsNamedIn g l
    by None i j = added (nat_lt (length g.rules) most_names) j
    by (Some name) i j =
        let below : name < 0 + length g.rules = found_below element 0 g.rules name i in
        subst (IsNamedIn g) (same_Some _ _ j) (omega arith, omega (arith, below))

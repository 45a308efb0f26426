-- Grammars that grow by lists.
use Rattle.std.proofs.Common.{◌≡◌, ℕ, suc, ◌+◌, ◌<◌, ◌≤◌, nat_lt, Bool, true, false, List, [], ◌∷◌, ◌++◌, length, refl, ap, sym, ◌∙◌, subst, arith}
use Rattle.std.specs.Prelude.{cond, Option, Some, None}
use Rattle.std.proofs.lemmas.List.{append-nil, append_assoc, length-append}
use Rattle.term_core.proofs.OperandLaws.{none_part, some_part}
use Rattle.prog_data.specs.declared.grammars.Rule.{Rule}
use Rattle.prog_data.specs.declared.grammars.Grammar.{Grammar}
use Rattle.prog_data.specs.declared.grammars.Seen.{Seen}
use Rattle.regtype_grammar.specs.Lists.{most_names, list_rules, are_list_rules, list_from, found_list, Listed, with_lists_of, found_or_added, list_of}
use Rattle.regtype_grammar.specs.RuleNames.{HasNamedRules, RulesStayNamed}
use Rattle.assertion_normal.specs.Ranges.{AreSeen, AreNewLists, GrowsByLists, IsGrown}
use Rattle.assertion_normal.proofs.EachLaws.{each_more}

pub lists_self : (g : Grammar) → GrowsByLists g g
lists_self g = record { front = ([], append-nil g.rules); lists = tt }

-- new lists, and then more new ones
new_then : (before xs ys : List (List Rule)) → AreNewLists before xs → AreNewLists (before ++ xs) ys → AreNewLists before (xs ++ ys)
new_then before [] ys h k = subst (λ rules. AreNewLists rules ys) (append-nil before) k
new_then before (x ∷ xs) ys h k = (h.0, new_then (before ++ x ∷ []) xs ys h.1 (subst (λ rules. AreNewLists rules ys) (sym (append_assoc before (x ∷ []) xs)) k))

lists_then : (old mid new : Grammar) → GrowsByLists old mid → GrowsByLists mid new → GrowsByLists old new
lists_then old mid new a b = record {
  front = (a.front.0 ++ b.front.0, sym (append_assoc old.rules a.front.0 b.front.0) ∙ ap (λ rules. rules ++ b.front.0) a.front.1 ∙ b.front.1);
  lists = new_then old.rules a.front.0 b.front.0 a.lists (subst (λ rules. AreNewLists rules b.front.0) (sym a.front.1) b.lists);
}

-- where nothing was added
pub kept_grows : (old new : Grammar) → new ≡ old → GrowsByLists old new
kept_grows old new e = subst (λ g. GrowsByLists old g) (sym e) (lists_self old)

pub kept_named : (old new : Grammar) → new ≡ old → RulesStayNamed old new
kept_named old new e program fixed h = subst (λ g. HasNamedRules program g) (sym e) h

pub lists_longer : (old new : Grammar) → GrowsByLists old new → length old.rules ≤ length new.rules
lists_longer old new grows =
    let whole : length (old.rules ++ grows.front.0) ≡ length new.rules = ap length grows.front.1 in
    let parts : length (old.rules ++ grows.front.0) ≡ length old.rules + length grows.front.0 = length-append old.rules grows.front.0 in
    omega (arith, whole, parts)

pub seen_more : (seen : List Seen) (old new : Grammar) → length old.rules ≤ length new.rules → AreSeen old seen → AreSeen new seen
seen_more seen old new le h = each_more (λ s. s.kind < length old.rules) (λ s. s.kind < length new.rules) (λ s lt. omega (arith, le, lt)) seen h

module _ (seen : List Seen) where
  pub grown_self : (g : Grammar) → IsGrown seen g g
  grown_self g = record { grows = lists_self g; named = λ program fixed h. h; range = λ h s. h }

  pub grown_then : (old mid new : Grammar) → IsGrown seen old mid → IsGrown seen mid new → IsGrown seen old new
  grown_then old mid new a b = record {
    grows = lists_then old mid new a.grows b.grows;
    named = λ program fixed h. b.named program fixed (a.named program fixed h);
    range = λ h s. b.range (a.range h s) (seen_more seen old mid (lists_longer old mid a.grows) s);
  }

-- a grammar with the lists of an element
pub list_grows : (g : Grammar) (element : ℕ) (l : Listed) → list_of g element ≡ Some l → GrowsByLists g l.grammar
list_grows g element l e = by (found_list g element) refl e
  where
    added : found_list g element ≡ None → (b : Bool) → cond b (Some (with_lists_of g element)) None ≡ Some l → GrowsByLists g l.grammar
    added none false i = absurd (none_part l i)
    added none true i =
        subst (λ k. GrowsByLists g k.grammar) (some_part (with_lists_of g element) l i)
        (record { front = (list_rules element (length g.rules) ∷ [], refl); lists = ((element, none, refl), tt) })

    by : (o : Option ℕ) → found_list g element ≡ o → found_or_added g element o ≡ Some l → GrowsByLists g l.grammar
    by None none i = added none (nat_lt (length g.rules) most_names) i
    by (Some name) found i = subst (λ k. GrowsByLists g k.grammar) (some_part _ l i) (lists_self g)

found_below : (element at : ℕ) (rules : List (List Rule)) (name : ℕ) → list_from element at rules ≡ Some name → name < at + length rules
found_below element at [] name e = absurd (none_part name e)
found_below element at (rs ∷ rest) name e = by (are_list_rules element at rs) (found_below element (suc at) rest name) e
  where
    by : (b : Bool) → (list_from element (suc at) rest ≡ Some name → name < suc at + length rest) → cond b (Some at) (list_from element (suc at) rest) ≡ Some name → name < at + suc (length rest)
    by true later e = let same : at ≡ name = some_part at name e in omega (arith, same)
    by false later e = let lt : name < suc at + length rest = later e in omega (arith, lt)

-- the lists of an element are a name of the grammar behind them
pub list_named : (g : Grammar) (element : ℕ) (l : Listed) → list_of g element ≡ Some l → l.name < length l.grammar.rules
list_named g element l e = by (found_list g element) refl e
  where
    added : (b : Bool) → cond b (Some (with_lists_of g element)) None ≡ Some l → l.name < length l.grammar.rules
    added false i = absurd (none_part l i)
    added true i =
        let longer : length (g.rules ++ list_rules element (length g.rules) ∷ []) ≡ length g.rules + 1 = length-append g.rules (list_rules element (length g.rules) ∷ []) in
        let last : length g.rules < length (g.rules ++ list_rules element (length g.rules) ∷ []) = omega (arith, longer) in
        subst (λ k. k.name < length k.grammar.rules) (some_part (with_lists_of g element) l i) last

    by : (o : Option ℕ) → found_list g element ≡ o → found_or_added g element o ≡ Some l → l.name < length l.grammar.rules
    by None i e = added (nat_lt (length g.rules) most_names) e
    by (Some name) i e =
        let below : name < 0 + length g.rules = found_below element 0 g.rules name i in
        let one : name < length g.rules = omega (arith, below) in
        subst (λ k. k.name < length k.grammar.rules) (some_part _ l e) one

-- The grammar that is made of modules: where there is room for it, and that it is in range.
use Rattle.std.proofs.Common.{◌≡◌, ℕ, suc, ◌+◌, ◌<◌, ◌≤◌, nat_lt, nat_le, Bool, true, false, List, [], ◌∷◌, ◌++◌, length, refl, ap, sym, ◌∙◌, subst, arith}
use Rattle.std.specs.Prelude.{cond, Option, Some, None}
use Rattle.std.specs.List.{list_all, AllByRecursion}
use Rattle.std.proofs.lemmas.Bool.Decides.{nat_tests}
use Rattle.std.proofs.lemmas.List.{length-append}
use Rattle.prog_data.specs.declared.grammars.Rule.{Rule}
use Rattle.prog_data.specs.declared.grammars.Grammar.{Grammar}
use Rattle.prog_data.specs.declared.grammars.Seen.{Seen}
use Rattle.prog_data.specs.BasicNames.{basic_grammar}
use Rattle.prog_data.specs.GrammarRange.{names_in, is_rule_of, IsGrammar}
use Rattle.term_core.proofs.OperandLaws.{none_part, some_part}
use Rattle.regtype_grammar.specs.declared.meanings.Meaning.{Meaning}
use Rattle.regtype_grammar.specs.declared.modules.RegType.{RegType}
use Rattle.regtype_grammar.specs.declared.modules.SeenType.{SeenType}
use Rattle.regtype_grammar.specs.declared.modules.TypeModule.{TypeModule}
use Rattle.regtype_grammar.specs.declared.grammars.Making.{Making}
use Rattle.regtype_grammar.specs.Lists.{most_names}
use Rattle.regtype_grammar.specs.TypeNames.{count_types, first_names, number_of, numbered, seen_types, AreKindsBelow, meaning, are_seen}
use Rattle.regtype_grammar.specs.Grammars.{number, with_clauses, with_type, with_types, with_module, with_modules, nothing_made, made, made_rules, grammar_of, AllFit}
use Rattle.regtype_grammar.proofs.EachLaws.{each_append, each_map, each_test, each_more}
use Rattle.regtype_grammar.proofs.SeenLaws.{numbers_below, meant_below}
use Rattle.regtype_grammar.proofs.BelowLaws.{IsRuleBelow, AreRulesBelow, AllRulesBelow, modules_made}

-- how many types there are

own_types : (first : ℕ) (means : ℕ → Meaning) (m : Making) (ts : List RegType) → length (with_types first means m ts).own ≡ length m.own + length ts
own_types first means m [] = omega arith
own_types first means m (t ∷ ts) =
    let after = with_type first means m t in
    let rest : length (with_types first means after ts).own ≡ length after.own + length ts = own_types first means after ts in
    let one : length after.own ≡ length m.own + 1 = length-append m.own ((with_clauses first means t.name (record { rules = []; known = m.known; further = m.further }) t.clauses).rules ∷ []) in
    let more : length (t ∷ ts) ≡ suc (length ts) = refl in
    omega (arith, rest, one, more)

pub own_modules : (first : ℕ) (firsts : List ℕ) (m : Making) (ms : List TypeModule) → length (with_modules first firsts m ms).own ≡ length m.own + count_types ms
own_modules first firsts m [] = omega arith
own_modules first firsts m (one ∷ rest) =
    let after = with_module first firsts m one in
    let later : length (with_modules first firsts after rest).own ≡ length after.own + count_types rest = own_modules first firsts after rest in
    let now : length after.own ≡ length m.own + length one.types = own_types first (meaning (numbered firsts one.visible)) m one.types in
    omega (arith, later, now)

-- the ten basic names, the types, the further names
made_length : (modules : List TypeModule) → length (made_rules (made modules)) ≡ 10 + (count_types modules + length (made modules).further)
made_length modules =
    let own : length (made modules).own ≡ 0 + count_types modules = own_modules (count_types modules + 10) (first_names modules) nothing_made modules in
    let all : length (made_rules (made modules)) ≡ length (basic_grammar.rules ++ (made modules).own) + length (made modules).further = length-append (basic_grammar.rules ++ (made modules).own) (made modules).further in
    let front : length (basic_grammar.rules ++ (made modules).own) ≡ 10 + length (made modules).own = length-append basic_grammar.rules (made modules).own in
    omega (arith, own, all, front)

-- where there is room

at_most : (n : ℕ) → nat_le n 512 ≡ true → n ≤ 512
at_most n e = grind (arith, nat_tests, e)

many : (n : ℕ) → 512 < n → nat_le n most_names ≡ false
many n lt = by (nat_le n most_names) refl
  where
    by : (b : Bool) → nat_le n most_names ≡ b → b ≡ false
    by false e = refl
    by true e = let le : n ≤ 512 = at_most n e in absurd (omega (arith, lt, le))

few : (n : ℕ) → n ≤ 512 → nat_le n most_names ≡ true
few n le = let test : nat_le n 512 ≡ true = grind (arith, nat_tests, le) in test

abbrev with_rules : List (List Rule) → Grammar
with_rules rules = record { rules = rules }

abbrev pub made_grammar : List TypeModule → Grammar
made_grammar modules = record { rules = made_rules (made modules) }

-- the grammar that modules have is the one that is made of them
pub by_made : (modules : List TypeModule) (g : Grammar) → grammar_of modules ≡ Some g → made_grammar modules ≡ g
by_made modules g e = by (nat_le (length (made_rules (made modules))) most_names) e
  where
    by : (b : Bool) → cond b (Some (made_grammar modules)) None ≡ Some g → made_grammar modules ≡ g
    by false e = absurd (none_part g e)
    by true e = some_part (made_grammar modules) g e

-- each type has a name
pub types_named : (modules : List TypeModule) (g : Grammar) → grammar_of modules ≡ Some g → 10 + count_types modules ≤ length g.rules
types_named modules g e =
    let l = made_length modules in
    let le : 10 + count_types modules ≤ length (made_rules (made modules)) = omega (arith, l) in
    subst (λ h. 10 + count_types modules ≤ length h.rules) (by_made modules g e) le

none_by : (modules : List TypeModule) → 512 < length (made_rules (made modules)) → None ≡ grammar_of modules
none_by modules lt = ap (λ b. cond b (Some (with_rules (made_rules (made modules)))) None) (sym (many (length (made_rules (made modules))) lt))

-- there are too many types, or too many further names
pub no_room_for_types : (modules : List TypeModule) → 512 < count_types modules + 10 → None ≡ grammar_of modules
no_room_for_types modules lt = let l = made_length modules in none_by modules (omega (arith, l, lt))

module _ (modules : List TypeModule) (first : ℕ) (firsts : List ℕ) (start : Making) (is_first : first ≡ count_types modules + 10) (are_firsts : firsts ≡ first_names modules) (is_start : start ≡ nothing_made) where
  whole_is : with_modules first firsts start modules ≡ made modules
  whole_is =
      ap (λ n. with_modules n firsts start modules) is_first ∙ ap (λ fs. with_modules (count_types modules + 10) fs start modules) are_firsts
      ∙ ap (λ m. with_modules (count_types modules + 10) (first_names modules) m modules) is_start

  pub no_room : AllFit first (with_modules first firsts start modules) None → None ≡ grammar_of modules
  no_room lt =
      let l = made_length modules in
      let same : length (with_modules first firsts start modules).further ≡ length (made modules).further = ap (λ m. length m.further) whole_is in
      let full : 512 < length (with_modules first firsts start modules).further + first = lt in
      none_by modules (omega (arith, l, full, same, is_first))

  pub room : (m : Making) (grammar : Grammar) → AllFit first (with_modules first firsts start modules) (Some m) → grammar.rules ≡ made_rules m → Some grammar ≡ grammar_of modules
  room m grammar fits is =
      let l = made_length modules in
      let making : m ≡ made modules = fits.0 ∙ whole_is in
      let same : length m.further ≡ length (made modules).further = ap (λ x. length x.further) making in
      let le : length m.further + first ≤ 512 = fits.1 in
      ap (λ rules. Some (with_rules rules)) (is ∙ ap made_rules making) ∙ ap (λ b. cond b (Some (with_rules (made_rules (made modules)))) None) (sym (few (length (made_rules (made modules))) (omega (arith, l, same, le, is_first))))

-- a module's types are made where its own are
pub module_fits : (first : ℕ) (firsts : List ℕ) (m : Making) (one : TypeModule) (seen : List Seen) (types : List RegType) (o : Option Making) → seen ≡ numbered firsts one.visible → types ≡ one.types
    → AllFit first (with_types first (meaning seen) m types) o → AllFit first (with_module first firsts m one) o
module_fits first firsts m one seen types o e f h =
    subst (λ ts. AllFit first (with_types first (meaning (numbered firsts one.visible)) m ts) o) f (subst (λ s. AllFit first (with_types first (meaning s) m types) o) e h)

-- the grammar is in range

rule_test : (size : ℕ) (r : Rule) → IsRuleBelow size r → is_rule_of size r ≡ true
rule_test size r h = each_test (λ n. n < size) (λ n. nat_lt n size) (λ n lt. below n lt) (names_in r) h
  where
    below : (n : ℕ) → n < size → nat_lt n size ≡ true
    below n lt = grind (arith, nat_tests, lt)

pub rules_test : (size : ℕ) (rules : List (List Rule)) → AllRulesBelow size rules → list_all (list_all (is_rule_of size)) rules ≡ true
rules_test size rules h = each_test (AreRulesBelow size) (list_all (is_rule_of size)) (λ rs k. each_test (IsRuleBelow size) (is_rule_of size) (rule_test size) rs k) rules h

pub basic_rules_below : (size : ℕ) → 10 ≤ size → AllRulesBelow size basic_grammar.rules
basic_rules_below size ten =
    let zero_below : 0 < size = omega (arith, ten) in
    let one_below : 1 < size = omega (arith, ten) in
    let nine_below : 9 < size = omega (arith, ten) in (
      (tt, tt),
      (
        (tt, tt),
        (
          (tt, tt),
          (
            ((one_below, tt), tt),
            ((tt, tt), ((tt, tt), ((tt, (tt, tt)), ((tt, tt), ((tt, (tt, tt)), ((tt, ((zero_below, (nine_below, tt)), tt)), tt)))))),
          ),
        ),
      ),
    )

module _ (modules : List TypeModule) (seen : are_seen modules ≡ true) where
  -- the types that are seen in a module, and what names mean there, are below a number
  abbrev AreSeenBelow : ℕ → TypeModule → Type 0
  AreSeenBelow n one = AllByRecursion (λ s. number_of (first_names modules) s < n) one.visible

  abbrev IsMeantBelow : ℕ → TypeModule → Type 0
  IsMeantBelow n one = (name : ℕ) → number (meaning (numbered (first_names modules) one.visible) name) < n

  pub meant_each : (size : ℕ) → 10 ≤ size → 10 + count_types modules ≤ size → AllByRecursion (IsMeantBelow size) modules
  meant_each size ten types = each_more (AreSeenBelow (10 + count_types modules)) (IsMeantBelow size) meant modules (numbers_below modules seen)
    where
      below : (s : SeenType) → number_of (first_names modules) s < 10 + count_types modules → number_of (first_names modules) s < size
      below s lt = omega (arith, lt, types)

      meant : (one : TypeModule) → AreSeenBelow (10 + count_types modules) one → IsMeantBelow size one
      meant one h = meant_below size ten (first_names modules) one.visible (each_more (λ s. number_of (first_names modules) s < 10 + count_types modules) (λ s. number_of (first_names modules) s < size) below one.visible h)

  made_in_range : length (made_rules (made modules)) ≤ 512 → IsGrammar (with_rules (made_rules (made modules)))
  made_in_range le =
      let size = length (made_rules (made modules)) in
      let l : size ≡ 10 + (count_types modules + length (made modules).further) = made_length modules in
      let ten : 10 ≤ size = omega (arith, l) in
      let types : 10 + count_types modules ≤ size = omega (arith, l) in
      let nine : 9 < size = omega (arith, l) in
      let below = modules_made size (omega (arith, ten)) (count_types modules + 10) (first_names modules) nothing_made modules (meant_each size ten types) (record { own = tt; known = (nine, tt); further = tt }) (omega (arith, l)) in
      record {
        basic = refl;
        few = le;
        closed = rules_test size (made_rules (made modules))
            (each_append (AreRulesBelow size) (basic_grammar.rules ++ (made modules).own) (made modules).further (each_append (AreRulesBelow size) basic_grammar.rules (made modules).own (basic_rules_below size ten) below.own) below.further);
      }

  pub grammar_in_range : (g : Grammar) → grammar_of modules ≡ Some g → IsGrammar g
  grammar_in_range g e = by (nat_le (length (made_rules (made modules))) most_names) refl e
    where
      by : (b : Bool) → nat_le (length (made_rules (made modules))) most_names ≡ b → cond b (Some (with_rules (made_rules (made modules)))) None ≡ Some g → IsGrammar g
      by false i e = absurd (none_part g e)
      by true i e = subst IsGrammar (some_part (with_rules (made_rules (made modules))) g e) (made_in_range (at_most (length (made_rules (made modules))) i))

  -- the types that are seen have names of the grammar
  pub seen_below : (g : Grammar) → grammar_of modules ≡ Some g → AllByRecursion (AreKindsBelow (length g.rules)) (seen_types modules)
  seen_below g e = each_map (AreKindsBelow (length g.rules)) (λ m. numbered (first_names modules) m.visible) modules (each_more (AreSeenBelow (10 + count_types modules)) (λ m. AreKindsBelow (length g.rules) (numbered (first_names modules) m.visible)) kinds modules (numbers_below modules seen))
    where
      below : (s : SeenType) → number_of (first_names modules) s < 10 + count_types modules → number_of (first_names modules) s < length g.rules
      below s lt = let le : 10 + count_types modules ≤ length g.rules = types_named modules g e in omega (arith, lt, le)

      kinds : (m : TypeModule) → AreSeenBelow (10 + count_types modules) m → AreKindsBelow (length g.rules) (numbered (first_names modules) m.visible)
      kinds m h =
          each_map (λ s. s.kind < length g.rules) (λ s. record { name = s.name; kind = number_of (first_names modules) s }) m.visible (each_more (λ s. number_of (first_names modules) s < 10 + count_types modules) (λ s. number_of (first_names modules) s < length g.rules) below m.visible h)

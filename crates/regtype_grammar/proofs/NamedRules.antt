-- The atoms and functors in the rules of a grammar are names.
use Rattle.std.proofs.Common.{◌≡◌, ℕ, zero, suc, ◌+◌, ◌-◌, ◌<◌, ◌≤◌, nat_lt, Bool, true, false, List, [], ◌∷◌, ◌++◌, map, length, refl, sym, ◌∙◌, subst, arith}
use Rattle.std.specs.Prelude.{cond, Option, Some, None}
use Rattle.std.specs.List.{list_all, AllByRecursion}
use Rattle.std.proofs.lemmas.Bool.{and_parts}
use Rattle.std.proofs.lemmas.Bool.Decides.{nat_tests}
use Rattle.term_core.specs.declared.fixed.TheConstants.{NIL, CELL, NECK}
use Rattle.term_core.specs.declared.terms.Term.{Term}
use Rattle.term_core.specs.declared.terms.Term as term
use Rattle.term_core.specs.declared.terms.Term.TheOpen as layer
use Rattle.term_core.specs.Ranges.{has_names_step, has_names}
use Rattle.term_core.specs.Shapes.{with_mark}
use Rattle.term_core.proofs.TermFolds.{fold-Var, fold-Int, fold-Atom, fold-Node, ind_terms}
use Rattle.ciao_reader.specs.Ranges.{IsSentenceInRange}
use Rattle.ciao_reader.specs.declared.sentences.Sentence.{Sentence}
use Rattle.prog_data.specs.declared.grammars.Rule.{Rule}
use Rattle.prog_data.specs.declared.grammars.Rule.TheVariants as rule
use Rattle.prog_data.specs.declared.grammars.Grammar.{Grammar}
use Rattle.prog_data.specs.declared.programs.Program.{Program}
use Rattle.prog_data.specs.BasicNames.{basic_grammar}
use Rattle.prog_data.specs.Programs.{is_named_rule}
use Rattle.term_core.proofs.OperandLaws.{none_part, some_part}
use Rattle.regtype_grammar.specs.declared.literals.Literal.{Literal}
use Rattle.regtype_grammar.specs.declared.meanings.Meaning.{Meaning}
use Rattle.regtype_grammar.specs.declared.modules.RegType.{RegType}
use Rattle.regtype_grammar.specs.declared.modules.TypeModule.{TypeModule}
use Rattle.regtype_grammar.specs.declared.numbering.Listing.{Listing}
use Rattle.regtype_grammar.specs.declared.grammars.Making.{Making}
use Rattle.regtype_grammar.specs.declared.grammars.Ruling.{Ruling}
use Rattle.regtype_grammar.specs.Lists.{most_names, list_rules, found_list, Listed, with_lists_of, found_or_added, list_of}
use Rattle.regtype_grammar.specs.TypeNames.{count_types, first_names, numbered, meaning}
use Rattle.regtype_grammar.specs.TypeClauses.{TypeClause, clause_of}
use Rattle.regtype_grammar.specs.TermRules.{names_needed, Part, part_step, part_of, part_rules, all_rules}
use Rattle.regtype_grammar.specs.Grammars.{number, type_of, list_among, bound, with_list, with_literal, with_literals, no_types, with_rule, with_clause, with_clauses, with_type, with_types, with_module, with_modules, nothing_made, made, made_rules, grammar_of}
use Rattle.regtype_grammar.specs.RuleNames.{IsTypeInRange, AreTypesInRange, HasNamedRules, TypesGiveNamedRules, RulesStayNamed}
use Rattle.regtype_grammar.proofs.ClauseLaws.{computed_is_written}
use Rattle.regtype_grammar.proofs.EachLaws.{each_append, each_map, each_test, test_each}
use Rattle.regtype_grammar.proofs.MadeLaws.{by_made}
use Rattle.regtype_grammar.proofs.PartLoops.{single}

less : (a b : ℕ) → nat_lt a b ≡ true → a < b
less a b e = grind (arith, nat_tests, e)

-- terms whose names are below a number

named_each : (n : ℕ) (ts : List Term) → list_all (λ b. b) (map (has_names n) ts) ≡ true → AllByRecursion (λ t. has_names n t ≡ true) ts
named_each n [] e = tt
named_each n (t ∷ ts) e = let both = and_parts (has_names n t) _ e in (both.0, named_each n ts both.1)

record NodeNamed (n f : ℕ) (ts : List Term) : Type 0 where
  name : f < n
  parts : AllByRecursion (λ t. has_names n t ≡ true) ts

node_named : (n f : ℕ) (ts : List Term) → has_names n (term.Node f ts) ≡ true → NodeNamed n f ts
node_named n f ts e =
    let whole = sym (fold-Node Bool (has_names_step n) f ts) ∙ e in
    let first = and_parts (nat_lt f n) _ whole in
    record { name = less f n first.0; parts = named_each n ts (and_parts _ _ first.1).1 }

-- the head of a sentence, by its body
head_named : (n : ℕ) (t : Term) (body : Option Term) → has_names n (with_mark NECK t body) ≡ true → has_names n t ≡ true
head_named n t None e = e
head_named n t (Some body) e = (node_named n NECK (t ∷ body ∷ []) e).parts.0

argument_named : (n name : ℕ) (s : Sentence) (c : TypeClause) → clause_of name s ≡ Some c → IsSentenceInRange n s → has_names n c.argument ≡ true
argument_named n name s c e h =
    let written = computed_is_written name s c e in
    let head = head_named n (term.Node name (c.argument ∷ [])) written.body (subst (λ t. has_names n t ≡ true) written.whole h.named) in
    (node_named n name (c.argument ∷ []) head).parts.0

both_each : (n : ℕ) (P : Term → Type 0) (ts : List Term) → AllByRecursion (λ t. has_names n t ≡ true → P t) ts → AllByRecursion (λ t. has_names n t ≡ true) ts → AllByRecursion P ts
both_each n P [] h k = tt
both_each n P (t ∷ ts) h k = (h.0 k.0, both_each n P ts h.1 k.1)

-- rules whose names are below a number

module _ (n : ℕ) where
  abbrev IsRuleNamed : Rule → Type 0
  IsRuleNamed (rule.Basic b) = Unit {0}
  IsRuleNamed (rule.Int k) = Unit {0}
  IsRuleNamed (rule.Atom a) = a < n
  IsRuleNamed (rule.Node f ns) = f < n
  IsRuleNamed (rule.Unit m) = Unit {0}

  abbrev AreRulesNamed : List Rule → Type 0
  AreRulesNamed rs = AllByRecursion IsRuleNamed rs

  abbrev AllRulesNamed : List (List Rule) → Type 0
  AllRulesNamed rules = AllByRecursion AreRulesNamed rules

  -- the parts of a term

  record PartNamed (p : Part) : Type 0 where
    own : (k : ℕ) → IsRuleNamed (p.rule k)
    inner : (k : ℕ) → AreRulesNamed (p.inner k)

  one_named : (p : Part) → PartNamed p → (k : ℕ) → AreRulesNamed (part_rules p.needs k p)
  one_named p h k = by p.needs
    where
      by : (m : ℕ) → AreRulesNamed (part_rules m k p)
      by zero = tt
      by (suc m) = (h.own (suc k), h.inner (suc k))

  all_named : (ps : List Part) → AllByRecursion PartNamed ps → (k : ℕ) → AreRulesNamed (all_rules k ps)
  all_named [] h k = tt
  all_named (p ∷ ps) h k = each_append IsRuleNamed (part_rules p.needs k p) (all_rules (p.needs + k) ps) (one_named p h.0 k) (all_named ps h.1 (p.needs + k))

  part_named : (f : ℕ → ℕ) (t : Term) → has_names n t ≡ true → PartNamed (part_of f t)
  part_named f = ind_terms (λ t. has_names n t ≡ true → PartNamed (part_of f t))
      (λ v e. subst PartNamed (sym (fold-Var Part (part_step f) v)) (record { own = λ k. tt; inner = λ k. tt }))
      (λ i e. subst PartNamed (sym (fold-Int Part (part_step f) i)) (record { own = λ k. tt; inner = λ k. tt }))
      (λ a e. subst PartNamed (sym (fold-Atom Part (part_step f) a)) (record { own = λ k. less a n (sym (fold-Atom Bool (has_names_step n) a) ∙ e); inner = λ k. tt }))
      (λ g ts h e. subst PartNamed (sym (fold-Node Part (part_step f) g ts)) (compound_named f g ts h (node_named n g ts e)))
    where
      compound_named : (f : ℕ → ℕ) (g : ℕ) (ts : List Term) → AllByRecursion (λ t. has_names n t ≡ true → PartNamed (part_of f t)) ts → NodeNamed n g ts → PartNamed (part_step f (layer.Node g (map (part_of f) ts)))
      compound_named f g ts h named = record {
        own = λ k. named.name;
        inner = λ k. all_named (map (part_of f) ts) (each_map PartNamed (part_of f) ts (both_each n (λ t. PartNamed (part_of f t)) ts h named.parts)) k;
      }

  singles_named : (rs : List Rule) → AreRulesNamed rs → AllRulesNamed (map single rs)
  singles_named [] h = tt
  singles_named (r ∷ rs) h = ((h.0, tt), singles_named rs h.1)

  -- where `[]` and `.` are among the names
  module _ (nil : NIL < n) (cell : CELL < n) where
    lists_named : (element name : ℕ) → AreRulesNamed (list_rules element name)
    lists_named element name = (nil, (cell, tt))

    list_named : (next : ℕ) (l : Listing) (variable element : ℕ) (o : Option ℕ) → AllRulesNamed l.added → AllRulesNamed (with_list next l variable element o).added
    list_named next l variable element (Some name) h = h
    list_named next l variable element None h = each_append AreRulesNamed l.added (list_rules element (length l.added + next) ∷ []) h (lists_named element (length l.added + next), tt)

    module _ (means : ℕ → Meaning) where
      literal_named : (next : ℕ) (l : Listing) (x : Literal) → AllRulesNamed l.added → AllRulesNamed (with_literal next means l x).added
      literal_named next l x h = by x.in_list
        where
          type : ℕ
          type = number (means x.name)

          by : (b : Bool) → AllRulesNamed (cond b (with_list next l x.variable type (list_among l.known type)) (record { known = l.known; added = l.added; types = l.types ++ bound x.variable type ∷ [] })).added
          by true = list_named next l x.variable type (list_among l.known type) h
          by false = h

      literals_named : (next : ℕ) (l : Listing) (ls : List Literal) → AllRulesNamed l.added → AllRulesNamed (with_literals next means l ls).added
      literals_named next l [] h = h
      literals_named next l (x ∷ xs) h = literals_named next (with_literal next means l x) xs (literal_named next l x h)

      record RulingNamed (r : Ruling) : Type 0 where
        rules : AreRulesNamed r.rules
        further : AllRulesNamed r.further

      rule_named : (next : ℕ) (r : Ruling) (c : TypeClause) → has_names n c.argument ≡ true → RulingNamed r → RulingNamed (with_rule next means r c)
      rule_named next r c e h =
          let l = with_literals (next + (names_needed c.argument - 1)) means (no_types r.known) c.literals in
          let part = part_named (type_of l.types) c.argument e in
          let inner = (part_of (type_of l.types) c.argument).inner next in
          record {
            rules = each_append IsRuleNamed r.rules ((part_of (type_of l.types) c.argument).rule next ∷ []) h.rules (part.own next, tt);
            further = each_append AreRulesNamed r.further (map single inner ++ l.added) h.further
                (each_append AreRulesNamed (map single inner) l.added (singles_named inner (part.inner next)) (literals_named (next + (names_needed c.argument - 1)) (no_types r.known) c.literals tt));
          }

      module _ (first : ℕ) where
        clause_named : (name : ℕ) (r : Ruling) (s : Sentence) → IsSentenceInRange n s → RulingNamed r → RulingNamed (with_clause first means r (clause_of name s))
        clause_named name r s range h = by (clause_of name s) refl
          where
            by : (o : Option TypeClause) → clause_of name s ≡ o → RulingNamed (with_clause first means r o)
            by None e = h
            by (Some c) e = rule_named (length r.further + first) r c (argument_named n name s c e range) h

        clauses_named : (name : ℕ) (r : Ruling) (ss : List Sentence) → AllByRecursion (IsSentenceInRange n) ss → RulingNamed r → RulingNamed (with_clauses first means name r ss)
        clauses_named name r [] range h = h
        clauses_named name r (s ∷ ss) range h = clauses_named name (with_clause first means r (clause_of name s)) ss range.1 (clause_named name r s range.0 h)

    record MakingNamed (m : Making) : Type 0 where
      own : AllRulesNamed m.own
      further : AllRulesNamed m.further

    module _ (first : ℕ) where
      types_named : (means : ℕ → Meaning) (m : Making) (ts : List RegType) → AllByRecursion (IsTypeInRange n) ts → MakingNamed m → MakingNamed (with_types first means m ts)
      types_named means m [] range h = h
      types_named means m (t ∷ ts) range h =
          let start : Ruling = record { rules = []; known = m.known; further = m.further } in
          let ruled = clauses_named means first t.name start t.clauses range.0 (record { rules = tt; further = h.further }) in
          types_named means (with_type first means m t) ts range.1
          (record { own = each_append AreRulesNamed m.own ((with_clauses first means t.name start t.clauses).rules ∷ []) h.own (ruled.rules, tt); further = ruled.further })

      modules_named : (firsts : List ℕ) (m : Making) (ms : List TypeModule) → AllByRecursion (AreTypesInRange n) ms → MakingNamed m → MakingNamed (with_modules first firsts m ms)
      modules_named firsts m [] range h = h
      modules_named firsts m (one ∷ rest) range h =
          modules_named firsts (with_module first firsts m one) rest range.1 (types_named (meaning (numbered firsts one.visible)) m one.types range.0 h)

    basic_named : AllRulesNamed basic_grammar.rules
    basic_named = ((tt, tt), ((tt, tt), ((tt, tt), ((tt, tt), ((tt, tt), ((tt, tt), ((tt, (tt, tt)), ((tt, tt), ((tt, (tt, tt)), ((nil, (cell, tt)), tt))))))))))

    made_named : (modules : List TypeModule) → AllByRecursion (AreTypesInRange n) modules → AllRulesNamed (made_rules (made modules))
    made_named modules range =
        let all = modules_named (count_types modules + 10) (first_names modules) nothing_made modules range (record { own = tt; further = tt }) in
        each_append AreRulesNamed (basic_grammar.rules ++ (made modules).own) (made modules).further (each_append AreRulesNamed basic_grammar.rules (made modules).own basic_named all.own) all.further

-- the test of a program

module _ (program : Program) where
  abbrev names : ℕ
  names = length program.names

  below : (a : ℕ) → a < names → nat_lt a names ≡ true
  below a lt = grind (arith, nat_tests, lt)

  rule_test : (r : Rule) → IsRuleNamed names r → is_named_rule program r ≡ true
  rule_test (rule.Basic b) h = refl
  rule_test (rule.Int k) h = refl
  rule_test (rule.Atom a) h = below a h
  rule_test (rule.Node f ns) h = below f h
  rule_test (rule.Unit m) h = refl

  test_rule : (r : Rule) → is_named_rule program r ≡ true → IsRuleNamed names r
  test_rule (rule.Basic b) e = tt
  test_rule (rule.Int k) e = tt
  test_rule (rule.Atom a) e = less a names e
  test_rule (rule.Node f ns) e = less f names e
  test_rule (rule.Unit m) e = tt

  named_test : (rules : List (List Rule)) → AllRulesNamed names rules → list_all (list_all (is_named_rule program)) rules ≡ true
  named_test rules h = each_test (AreRulesNamed names) (list_all (is_named_rule program)) (λ rs k. each_test (IsRuleNamed names) (is_named_rule program) rule_test rs k) rules h

  test_named : (rules : List (List Rule)) → list_all (list_all (is_named_rule program)) rules ≡ true → AllRulesNamed names rules
  test_named rules e = test_each (AreRulesNamed names) (list_all (is_named_rule program)) (λ rs k. test_each (IsRuleNamed names) (is_named_rule program) test_rule rs k) rules e

  module _ (fixed : 75 ≤ names) where
    nil_below : NIL < names
    nil_below = let le : 75 ≤ length program.names = fixed in let lt : 0 < length program.names = omega (arith, le) in lt

    cell_below : CELL < names
    cell_below = let le : 75 ≤ length program.names = fixed in let lt : 1 < length program.names = omega (arith, le) in lt

    types_give : (modules : List TypeModule) → AllByRecursion (AreTypesInRange names) modules → list_all (list_all (is_named_rule program)) (made_rules (made modules)) ≡ true
    types_give modules range = named_test (made_rules (made modules)) (made_named names nil_below cell_below modules range)

    added_named : (g : Grammar) (element : ℕ) → HasNamedRules program g → HasNamedRules program (with_lists_of g element).grammar
    added_named g element h =
        let own = list_rules element (length g.rules) in
        named_test (g.rules ++ own ∷ []) (each_append (AreRulesNamed names) g.rules (own ∷ []) (test_named g.rules h) (lists_named names nil_below cell_below element (length g.rules), tt))

    listed_named : (g : Grammar) (element : ℕ) (l : Listed) → list_of g element ≡ Some l → HasNamedRules program g → HasNamedRules program l.grammar
    listed_named g element l e h = by (found_list g element) e
      where
        added : (b : Bool) → cond b (Some (with_lists_of g element)) None ≡ Some l → HasNamedRules program l.grammar
        added false e = absurd (none_part l e)
        added true e = subst (λ k. HasNamedRules program k.grammar) (some_part (with_lists_of g element) l e) (added_named g element h)

        by : (o : Option ℕ) → found_or_added g element o ≡ Some l → HasNamedRules program l.grammar
        by None e = added (nat_lt (length g.rules) most_names) e
        by (Some name) e = subst (λ k. HasNamedRules program k.grammar) (some_part _ l e) h

pub types_give_named : (modules : List TypeModule) (g : Grammar) → grammar_of modules ≡ Some g → TypesGiveNamedRules modules g
types_give_named modules g e program fixed range = subst (HasNamedRules program) (by_made modules g e) (types_give program fixed modules range)

pub lists_stay_named : (g : Grammar) (element : ℕ) (new : Grammar) (name : ℕ) → list_of g element ≡ Some (record { grammar = new; name = name }) → RulesStayNamed g new
lists_stay_named g element new name e program fixed h = listed_named program fixed g element (record { grammar = new; name = name }) e h

-- The names in the rules that are made are below the number of names.
use Rattle.std.proofs.Common.{◌≡◌, ℕ, zero, suc, ◌+◌, ◌-◌, ◌<◌, ◌≤◌, ◌==◌, Bool, true, false, List, [], ◌∷◌, ◌++◌, map, length, refl, sym, subst, arith}
use Rattle.std.specs.Prelude.{cond, Option, Some, None}
use Rattle.std.specs.List.{AllByRecursion}
use Rattle.std.proofs.lemmas.List.{length-append}
use Rattle.term_core.specs.declared.terms.Term.{Term}
use Rattle.term_core.specs.declared.terms.Term.TheOpen as layer
use Rattle.term_core.proofs.TermFolds.{fold-Var, fold-Int, fold-Atom, fold-Node, ind_terms}
use Rattle.ciao_reader.specs.declared.sentences.Sentence.{Sentence}
use Rattle.prog_data.specs.declared.grammars.Rule.{Rule}
use Rattle.prog_data.specs.GrammarRange.{names_in}
use Rattle.term_core.proofs.OperandLaws.{none_part, some_part}
use Rattle.regtype_grammar.specs.declared.literals.Literal.{Literal}
use Rattle.regtype_grammar.specs.declared.meanings.Meaning.{Meaning}
use Rattle.regtype_grammar.specs.declared.modules.RegType.{RegType}
use Rattle.regtype_grammar.specs.declared.modules.TypeModule.{TypeModule}
use Rattle.regtype_grammar.specs.declared.numbering.KnownList.{KnownList}
use Rattle.regtype_grammar.specs.declared.numbering.Bound.{Bound}
use Rattle.regtype_grammar.specs.declared.numbering.Listing.{Listing}
use Rattle.regtype_grammar.specs.declared.grammars.Making.{Making}
use Rattle.regtype_grammar.specs.declared.grammars.Ruling.{Ruling}
use Rattle.regtype_grammar.specs.Lists.{list_rules}
use Rattle.regtype_grammar.specs.TypeNames.{numbered, meaning}
use Rattle.regtype_grammar.specs.TypeClauses.{TypeClause, clause_of}
use Rattle.regtype_grammar.specs.TermRules.{names_needed, Part, part_step, part_of, part_rules, all_called, all_rules, all_needs}
use Rattle.regtype_grammar.specs.Grammars.{number, type_of, list_among, bound, with_list, with_literal, with_literals, no_types, with_rule, with_clause, with_clauses, with_type, with_types, with_module, with_modules}
use Rattle.regtype_grammar.proofs.EachLaws.{each_append, each_map}
use Rattle.regtype_grammar.proofs.GrowingLaws.{literals_grow}
use Rattle.regtype_grammar.proofs.PartLaws.{needs_is}
use Rattle.regtype_grammar.proofs.PartLoops.{single}
use Rattle.regtype_grammar.proofs.RulingLaws.{rule_length, clauses_grow, types_grow, modules_grow}

module _ (size : ℕ) where
  -- the names in a rule, in rules, in the rules of names are below the size
  abbrev pub IsRuleBelow : Rule → Type 0
  IsRuleBelow r = AllByRecursion (λ n. n < size) (names_in r)

  abbrev pub AreRulesBelow : List Rule → Type 0
  AreRulesBelow rs = AllByRecursion IsRuleBelow rs

  abbrev pub AllRulesBelow : List (List Rule) → Type 0
  AllRulesBelow rules = AllByRecursion AreRulesBelow rules

  -- a part whose names have room: what it is called, its rule and the rules of its parts
  record PartBelow (p : Part) : Type 0 where
    called : (n : ℕ) → p.needs + n ≤ size → p.called n < size
    rule : (n : ℕ) → (p.needs - 1) + n ≤ size → IsRuleBelow (p.rule n)
    inner : (n : ℕ) → (p.needs - 1) + n ≤ size → AreRulesBelow (p.inner n)

  called_below : (ps : List Part) → AllByRecursion PartBelow ps → (n : ℕ) → all_needs ps + n ≤ size → AllByRecursion (λ m. m < size) (all_called n ps)
  called_below [] h n le = tt
  called_below (p ∷ ps) h n le =
      let whole : (p.needs + all_needs ps) + n ≤ size = le in
      (h.0.called n (omega (arith, whole)), called_below ps h.1 (p.needs + n) (omega (arith, whole)))

  one_below : (p : Part) → PartBelow p → (n : ℕ) → p.needs + n ≤ size → AreRulesBelow (part_rules p.needs n p)
  one_below p h n le = by p.needs refl
    where
      by : (k : ℕ) → p.needs ≡ k → AreRulesBelow (part_rules k n p)
      by zero e = tt
      by (suc k) e = let room : (p.needs - 1) + suc n ≤ size = omega (arith, e, le) in (h.rule (suc n) room, h.inner (suc n) room)

  all_below : (ps : List Part) → AllByRecursion PartBelow ps → (n : ℕ) → all_needs ps + n ≤ size → AreRulesBelow (all_rules n ps)
  all_below [] h n le = tt
  all_below (p ∷ ps) h n le =
      let whole : (p.needs + all_needs ps) + n ≤ size = le in
      each_append IsRuleBelow (part_rules p.needs n p) (all_rules (p.needs + n) ps) (one_below p h.0 n (omega (arith, whole))) (all_below ps h.1 (p.needs + n) (omega (arith, whole)))

  -- the parts of a term, where the types of its variables are below the size
  module _ (f : ℕ → ℕ) (below : (v : ℕ) → f v < size) where
    node_below : (g : ℕ) (ps : List Part) → AllByRecursion PartBelow ps → PartBelow (part_step f (layer.Node g ps))
    node_below g ps h = record {
      called = λ n le. let room : suc (all_needs ps) + n ≤ size = le in omega (arith, room);
      rule = λ n le. let room : (suc (all_needs ps) - 1) + n ≤ size = le in called_below ps h n (omega (arith, room));
      inner = λ n le. let room : (suc (all_needs ps) - 1) + n ≤ size = le in all_below ps h n (omega (arith, room));
    }

    constant_below : (r : Rule) → IsRuleBelow r → PartBelow (record { called = λ n. n; needs = 1; rule = λ n. r; inner = λ n. [] })
    constant_below r h = record { called = λ n le. let room : 1 + n ≤ size = le in omega (arith, room); rule = λ n le. h; inner = λ n le. tt }

    part_below : (t : Term) → PartBelow (part_of f t)
    part_below = ind_terms (λ t. PartBelow (part_of f t))
        (λ v. subst PartBelow (sym (fold-Var Part (part_step f) v)) (record { called = λ n le. below v; rule = λ n le. (below v, tt); inner = λ n le. tt }))
        (λ k. subst PartBelow (sym (fold-Int Part (part_step f) k)) (constant_below ((part_step f (layer.Int k)).rule 0) tt))
        (λ a. subst PartBelow (sym (fold-Atom Part (part_step f) a)) (constant_below ((part_step f (layer.Atom a)).rule 0) tt))
        (λ g ts h. subst PartBelow (sym (fold-Node Part (part_step f) g ts)) (node_below g (map (part_of f) ts) (each_map PartBelow (part_of f) ts h)))

  -- the names of lists and types
  abbrev AreKnownBelow : List KnownList → Type 0
  AreKnownBelow ks = AllByRecursion (λ k. k.name < size) ks

  record ListingBelow (l : Listing) : Type 0 where
    known : AreKnownBelow l.known
    added : AllRulesBelow l.added
    types : AllByRecursion (λ b. b.name < size) l.types

  either_below : (t : Bool) (x y : ℕ) → x < size → y < size → cond t x y < size
  either_below true x y h k = h
  either_below false x y h k = k

  type_below : 0 < size → (bs : List Bound) → AllByRecursion (λ b. b.name < size) bs → (v : ℕ) → type_of bs v < size
  type_below some [] h v = some
  type_below some (b ∷ bs) h v = either_below (b.variable == v) b.name (type_of bs v) h.0 (type_below some bs h.1 v)

  among_below : (ks : List KnownList) (element name : ℕ) → AreKnownBelow ks → list_among ks element ≡ Some name → name < size
  among_below [] element name h e = absurd (none_part name e)
  among_below (k ∷ ks) element name h e = by (k.element == element) (among_below ks element name h.1) e
    where
      by : (t : Bool) → (list_among ks element ≡ Some name → name < size) → cond t (Some k.name) (list_among ks element) ≡ Some name → name < size
      by true rest e = subst (λ n. n < size) (some_part k.name name e) h.0
      by false rest e = rest e

  with_list_below : (next : ℕ) (l : Listing) (variable element : ℕ) (o : Option ℕ) → list_among l.known element ≡ o → element < size → ListingBelow l
      → length (with_list next l variable element o).added + next ≤ size → ListingBelow (with_list next l variable element o)
  with_list_below next l variable element (Some name) e lt h fits = record {
    known = h.known;
    added = h.added;
    types = each_append (λ b. b.name < size) l.types (bound variable name ∷ []) h.types (among_below l.known element name h.known e, tt);
  }
  with_list_below next l variable element None e lt h fits =
      let name = length l.added + next in
      let longer : length (l.added ++ list_rules element name ∷ []) ≡ length l.added + 1 = length-append l.added (list_rules element name ∷ []) in
      let room : length (l.added ++ list_rules element name ∷ []) + next ≤ size = fits in
      let own : name < size = omega (arith, longer, room) in
      record {
        known = each_append (λ k. k.name < size) l.known (record { element = element; name = name } ∷ []) h.known (own, tt);
        added = each_append AreRulesBelow l.added (list_rules element name ∷ []) h.added ((tt, ((lt, (own, tt)), tt)), tt);
        types = each_append (λ b. b.name < size) l.types (bound variable name ∷ []) h.types (own, tt);
      }

  -- where what names mean is below the size
  module _ (means : ℕ → Meaning) (below : (name : ℕ) → number (means name) < size) where
    literal_below : (next : ℕ) (l : Listing) (literal : Literal) → ListingBelow l → length (with_literal next means l literal).added + next ≤ size → ListingBelow (with_literal next means l literal)
    literal_below next l literal h fits = by literal.in_list fits
      where
        type : ℕ
        type = number (means literal.name)

        by : (b : Bool) → length (cond b (with_list next l literal.variable type (list_among l.known type)) (record { known = l.known; added = l.added; types = l.types ++ bound literal.variable type ∷ [] })).added + next ≤ size
            → ListingBelow (cond b (with_list next l literal.variable type (list_among l.known type)) (record { known = l.known; added = l.added; types = l.types ++ bound literal.variable type ∷ [] }))
        by true fits = with_list_below next l literal.variable type (list_among l.known type) refl (below literal.name) h fits
        by false fits = record { known = h.known; added = h.added; types = each_append (λ b. b.name < size) l.types (bound literal.variable type ∷ []) h.types (below literal.name, tt) }

    literals_below : (next : ℕ) (l : Listing) (ls : List Literal) → ListingBelow l → length (with_literals next means l ls).added + next ≤ size → ListingBelow (with_literals next means l ls)
    literals_below next l [] h fits = h
    literals_below next l (x ∷ xs) h fits =
        let after = with_literal next means l x in
        let room : length (with_literals next means after xs).added + next ≤ size = fits in
        let grows : length after.added ≤ length (with_literals next means after xs).added = literals_grow next means after xs in
        literals_below next after xs (literal_below next l x h (omega (arith, grows, room))) fits

    record RulingBelow (r : Ruling) : Type 0 where
      rules : AreRulesBelow r.rules
      known : AreKnownBelow r.known
      further : AllRulesBelow r.further

    singles_below : (rs : List Rule) → AreRulesBelow rs → AllRulesBelow (map single rs)
    singles_below [] h = tt
    singles_below (r ∷ rs) h = ((h.0, tt), singles_below rs h.1)

    module _ (some : 0 < size) (first : ℕ) where
      rule_below : (r : Ruling) (c : TypeClause) → RulingBelow r → length (with_rule (length r.further + first) means r c).further + first ≤ size → RulingBelow (with_rule (length r.further + first) means r c)
      rule_below r c h fits =
          let next = length r.further + first in
          let needed = names_needed c.argument - 1 in
          let l = with_literals (next + needed) means (no_types r.known) c.literals in
          let grown : length (with_rule next means r c).further ≡ length r.further + (needed + length l.added) = rule_length next means r c in
          let listed = literals_below (next + needed) (no_types r.known) c.literals (record { known = h.known; added = tt; types = tt }) (omega (arith, grown, fits)) in
          let part = part_below (type_of l.types) (type_below some l.types listed.types) c.argument in
          let needs : (part_of (type_of l.types) c.argument).needs ≡ names_needed c.argument = needs_is (type_of l.types) c.argument in
          let room : ((part_of (type_of l.types) c.argument).needs - 1) + next ≤ size = omega (arith, grown, fits, needs) in
          let inner = (part_of (type_of l.types) c.argument).inner next in
          record {
            rules = each_append IsRuleBelow r.rules ((part_of (type_of l.types) c.argument).rule next ∷ []) h.rules (part.rule next room, tt);
            known = listed.known;
            further = each_append AreRulesBelow r.further (map single inner ++ l.added) h.further (each_append AreRulesBelow (map single inner) l.added (singles_below inner (part.inner next room)) listed.added);
          }

      clause_below : (r : Ruling) (o : Option TypeClause) → RulingBelow r → length (with_clause first means r o).further + first ≤ size → RulingBelow (with_clause first means r o)
      clause_below r None h fits = h
      clause_below r (Some c) h fits = rule_below r c h fits

      clauses_below : (name : ℕ) (r : Ruling) (ss : List Sentence) → RulingBelow r → length (with_clauses first means name r ss).further + first ≤ size → RulingBelow (with_clauses first means name r ss)
      clauses_below name r [] h fits = h
      clauses_below name r (s ∷ ss) h fits =
          let after = with_clause first means r (clause_of name s) in
          let room : length (with_clauses first means name after ss).further + first ≤ size = fits in
          let grows : length after.further ≤ length (with_clauses first means name after ss).further = clauses_grow first means name after ss in
          clauses_below name after ss (clause_below r (clause_of name s) h (omega (arith, grows, room))) fits

  pub record MakingBelow (m : Making) : Type 0 where
    pub own : AllRulesBelow m.own
    pub known : AreKnownBelow m.known
    pub further : AllRulesBelow m.further

  module _ (some : 0 < size) (first : ℕ) where
    type_made : (means : ℕ → Meaning) → ((name : ℕ) → number (means name) < size) → (m : Making) (t : RegType) → MakingBelow m → length (with_type first means m t).further + first ≤ size → MakingBelow (with_type first means m t)
    type_made means below m t h fits =
        let r = with_clauses first means t.name (record { rules = []; known = m.known; further = m.further }) t.clauses in
        let ruled = clauses_below means below some first t.name (record { rules = []; known = m.known; further = m.further }) t.clauses (record { rules = tt; known = h.known; further = h.further }) fits in
        record { own = each_append AreRulesBelow m.own (r.rules ∷ []) h.own (ruled.rules, tt); known = ruled.known; further = ruled.further }

    types_made : (means : ℕ → Meaning) → ((name : ℕ) → number (means name) < size) → (m : Making) (ts : List RegType) → MakingBelow m → length (with_types first means m ts).further + first ≤ size → MakingBelow (with_types first means m ts)
    types_made means below m [] h fits = h
    types_made means below m (t ∷ ts) h fits =
        let after = with_type first means m t in
        let room : length (with_types first means after ts).further + first ≤ size = fits in
        let grows : length after.further ≤ length (with_types first means after ts).further = types_grow first means after ts in
        types_made means below after ts (type_made means below m t h (omega (arith, grows, room))) fits

    -- where what each name means in each module is below the size
    pub modules_made : (firsts : List ℕ) (m : Making) (ms : List TypeModule) → AllByRecursion (λ one. (name : ℕ) → number (meaning (numbered firsts one.visible) name) < size) ms
        → MakingBelow m → length (with_modules first firsts m ms).further + first ≤ size → MakingBelow (with_modules first firsts m ms)
    modules_made firsts m [] below h fits = h
    modules_made firsts m (one ∷ rest) below h fits =
        let after = with_module first firsts m one in
        let room : length (with_modules first firsts after rest).further + first ≤ size = fits in
        let grows : length after.further ≤ length (with_modules first firsts after rest).further = modules_grow first firsts after rest in
        modules_made firsts after rest below.1 (types_made (meaning (numbered firsts one.visible)) below.0 m one.types h (omega (arith, grows, room))) fits

-- A regular type has the terms that its clauses give.
use Rattle.std.proofs.Common.{◌≡◌, ◌↔◌, ◌⊎◌, inl, inr, ℕ, zero, suc, ◌+◌, ◌-◌, List, [], ◌∷◌, ◌++◌, map, length, refl, ap, sym, ◌∙◌, subst, arith}
use Rattle.std.specs.Prelude.{Option, Some, None, slice_get, slice_index_or}
use Rattle.std.proofs.lemmas.List.{append_assoc, length-append, length-map}
use Rattle.term_core.specs.declared.terms.Term.{Term}
use Rattle.ciao_reader.specs.declared.sentences.Sentence.{Sentence}
use Rattle.prog_data.specs.declared.basic_names.TheConstants.{TERM_TYPE}
use Rattle.prog_data.specs.declared.grammars.Basic.TheVariants as basic
use Rattle.prog_data.specs.declared.grammars.Rule.{Rule}
use Rattle.prog_data.specs.declared.grammars.Rule.TheVariants as rule
use Rattle.prog_data.specs.declared.grammars.Grammar.{Grammar}
use Rattle.prog_data.specs.BasicNames.{basic_grammar}
use Rattle.prog_data.specs.Membership.{rules_of, Belongs}
use Rattle.term_core.proofs.OperandLaws.{none_part, some_part}
use Rattle.regtype_grammar.specs.declared.meanings.Meaning.{Meaning}
use Rattle.regtype_grammar.specs.declared.modules.RegType.{RegType}
use Rattle.regtype_grammar.specs.declared.modules.TypeModule.{TypeModule}
use Rattle.regtype_grammar.specs.declared.grammars.Making.{Making}
use Rattle.regtype_grammar.specs.declared.grammars.Ruling.{Ruling}
use Rattle.regtype_grammar.specs.TypeNames.{count_types, starts, first_names, numbered, meaning}
use Rattle.regtype_grammar.specs.TypeClauses.{TypeClause, clause_of}
use Rattle.regtype_grammar.specs.TermRules.{names_needed, part_of}
use Rattle.regtype_grammar.specs.Grammars.{type_of, no_types, with_literals, with_rule, with_clause, with_clauses, with_type, with_types, with_module, with_modules, nothing_made, made}
use Rattle.regtype_grammar.specs.TypeTerms.{Shaped, MayStand, IsGivenBy, IsGiven, TypesHaveTheirTerms}
use Rattle.regtype_grammar.proofs.PartLaws.{needs_is, inner_length}
use Rattle.regtype_grammar.proofs.PartLoops.{single, with_nothing}
use Rattle.regtype_grammar.proofs.LiteralMeaning.{Longer, longer_trans, AreLists, clause_literals, variable_means}
use Rattle.regtype_grammar.proofs.MadeLaws.{own_modules, made_grammar, by_made}
use Rattle.regtype_grammar.proofs.PartMeaning.{shape_more, part_means}
use Rattle.regtype_grammar.proofs.RuleMeaning.{SomeOf, Admits, ByRules, Steps, Has, belongs_opened, belongs_closed, belongs_steps, Stand, stand_parts, all_stand}

-- further names only come behind

module _ (first : ℕ) (means : ℕ → Meaning) where
  clause_longer : (r : Ruling) (o : Option TypeClause) → Longer r.further (with_clause first means r o).further
  clause_longer r None = record { further = []; is = with_nothing r.further }
  clause_longer r (Some c) = record { further = _; is = refl }

  clauses_longer : (name : ℕ) (r : Ruling) (ss : List Sentence) → Longer r.further (with_clauses first means name r ss).further
  clauses_longer name r [] = record { further = []; is = with_nothing r.further }
  clauses_longer name r (s ∷ ss) =
      let after = with_clause first means r (clause_of name s) in
      longer_trans r.further after.further (with_clauses first means name after ss).further (clause_longer r (clause_of name s)) (clauses_longer name after ss)

  types_longer : (m : Making) (ts : List RegType) → Longer m.further (with_types first means m ts).further
  types_longer m [] = record { further = []; is = with_nothing m.further }
  types_longer m (t ∷ ts) =
      let after = with_type first means m t in
      longer_trans m.further after.further (with_types first means after ts).further (clauses_longer t.name (record { rules = []; known = m.known; further = m.further }) t.clauses) (types_longer after ts)

modules_longer : (first : ℕ) (firsts : List ℕ) (m : Making) (ms : List TypeModule) → Longer m.further (with_modules first firsts m ms).further
modules_longer first firsts m [] = record { further = []; is = with_nothing m.further }
modules_longer first firsts m (one ∷ rest) =
    let after = with_module first firsts m one in
    longer_trans m.further after.further (with_modules first firsts after rest).further (types_longer first (meaning (numbered firsts one.visible)) m one.types) (modules_longer first firsts after rest)

-- where each term of A comes by a rule, and each that comes by a rule is one of B
module _ (g : Grammar) (A B : ℕ → Term → Type 0) (steps : Steps g A B) (any : rules_of g TERM_TYPE ≡ rule.Basic basic.Term ∷ []) (first : ℕ) where
  front_stands : (xs ys : List (List Rule)) → Longer xs ys → Stand g first ys → Stand g first xs
  front_stands xs ys more stand = (stand_parts g first xs more.further (subst (Stand g first) more.is stand)).0

  module _ (means : ℕ → Meaning) where
    -- a clause's rule admits the terms that the clause gives
    record RuleMeans (c : TypeClause) (q : Rule) (r : Ruling) : Type 0 where
      pub rules : (with_rule (length r.further + first) means r c).rules ≡ r.rules ++ q ∷ []
      pub known : AreLists g (with_rule (length r.further + first) means r c).known
      pub terms : (u : Term) → (Admits A q u → Shaped (MayStand A means c.literals) c.argument u) × (Shaped (MayStand B means c.literals) c.argument u → Admits B q u)

    record SomeRule (c : TypeClause) (r : Ruling) : Type 0 where
      pub own : Rule
      pub all : RuleMeans c own r

    rule_means : (r : Ruling) (c : TypeClause) → AreLists g r.known → Stand g first (with_rule (length r.further + first) means r c).further → SomeRule c r
    rule_means r c known stand =
        let next = length r.further + first in
        let needed = names_needed c.argument - 1 in
        let l = with_literals (next + needed) means (no_types r.known) c.literals in
        let part = part_of (type_of l.types) c.argument in
        let back = (stand_parts g first r.further (map single (part.inner next) ++ l.added) stand).1 in
        let parts = stand_parts g next (map single (part.inner next)) l.added back in
        let many : length (map single (part.inner next)) ≡ needed = length-map (part.inner next) single ∙ inner_length (type_of l.types) c.argument next ∙ ap (λ n. n - 1) (needs_is (type_of l.types) c.argument) in
        let behind : length (map single (part.inner next)) + next ≡ next + needed = omega (arith, many) in
        let listed = clause_literals g A B steps any means (next + needed) r.known c.literals known (subst (λ n. Stand g n l.added) behind parts.1) in
        let whole = (part_means g A B steps (type_of l.types) c.argument).whole next parts.0 in
        record {
          own = part.rule next;
          all = record {
            rules = refl;
            known = listed.known;
            terms = λ u. (
              λ a. shape_more (λ v w. A (type_of l.types v) w) (MayStand A means c.literals) (λ v w b. (variable_means g A B steps any means l.types c.literals listed.types v w).0 b) ((whole u).0 a),
              λ s. (whole u).1 (shape_more (MayStand B means c.literals) (λ v w. B (type_of l.types v) w) (λ v w b. (variable_means g A B steps any means l.types c.literals listed.types v w).1 b) s),
            );
          };
        }

    -- clauses give what their rules admit
    abbrev TheseMean : ℕ → List Sentence → List Rule → Type 0
    TheseMean name ss new = (u : Term) → (SomeOf (λ q. Admits A q u) new → IsGiven A means name ss u) × (IsGiven B means name ss u → SomeOf (λ q. Admits B q u) new)

    record ClausesMean (name : ℕ) (r : Ruling) (ss : List Sentence) : Type 0 where
      pub new : List Rule
      pub rules : (with_clauses first means name r ss).rules ≡ r.rules ++ new
      pub known : AreLists g (with_clauses first means name r ss).known
      pub terms : TheseMean name ss new

    sentence_means : (name : ℕ) (r : Ruling) (s : Sentence) (ss : List Sentence) (o : Option TypeClause) → clause_of name s ≡ o → AreLists g r.known → Stand g first (with_clause first means r o).further
        → (AreLists g (with_clause first means r o).known → ClausesMean name (with_clause first means r o) ss)
        → (new : List Rule) × ((with_clauses first means name (with_clause first means r o) ss).rules ≡ r.rules ++ new) × (AreLists g (with_clauses first means name (with_clause first means r o) ss).known)
        × ((u : Term) → (SomeOf (λ q. Admits A q u) new → IsGivenBy A means name s u ⊎ IsGiven A means name ss u) × (IsGivenBy B means name s u ⊎ IsGiven B means name ss u → SomeOf (λ q. Admits B q u) new))
    sentence_means name r s ss None i known stand later =
        let rest = later known in
        (rest.new, rest.rules, rest.known, λ u. (λ a. inr ((rest.terms u).0 a), λ e. back u (rest.terms u).1 e))
      where
        back : (u : Term) → (IsGiven B means name ss u → SomeOf (λ q. Admits B q u) (later known).new) → IsGivenBy B means name s u ⊎ IsGiven B means name ss u → SomeOf (λ q. Admits B q u) (later known).new
        back u rest (inl e) = absurd (none_part e.0 (sym i ∙ e.1))
        back u rest (inr e) = rest e
    sentence_means name r s ss (Some c) i known stand later =
        let one = rule_means r c known stand in
        let rest = later one.all.known in (
          one.own ∷ rest.new,
          rest.rules ∙ ap (λ qs. qs ++ rest.new) one.all.rules ∙ append_assoc r.rules (one.own ∷ []) rest.new,
          rest.known,
          λ u. (λ a. forth u one.own rest.new (one.all.terms u).0 (rest.terms u).0 a, λ e. back u one.own rest.new (one.all.terms u).1 (rest.terms u).1 e),
        )
      where
        forth : (u : Term) (q : Rule) (qs : List Rule) → (Admits A q u → Shaped (MayStand A means c.literals) c.argument u) → (SomeOf (λ q. Admits A q u) qs → IsGiven A means name ss u)
            → Admits A q u ⊎ SomeOf (λ q. Admits A q u) qs → IsGivenBy A means name s u ⊎ IsGiven A means name ss u
        forth u q qs one rest (inl a) = inl (c, i, one a)
        forth u q qs one rest (inr a) = inr (rest a)

        back : (u : Term) (q : Rule) (qs : List Rule) → (Shaped (MayStand B means c.literals) c.argument u → Admits B q u) → (IsGiven B means name ss u → SomeOf (λ q. Admits B q u) qs)
            → IsGivenBy B means name s u ⊎ IsGiven B means name ss u → Admits B q u ⊎ SomeOf (λ q. Admits B q u) qs
        back u q qs one rest (inl e) = inl (one (subst (λ d. Shaped (MayStand B means d.literals) d.argument u) (sym (some_part c e.0 (sym i ∙ e.1))) e.2))
        back u q qs one rest (inr e) = inr (rest e)

    clauses_mean : (name : ℕ) (r : Ruling) (ss : List Sentence) → AreLists g r.known → Stand g first (with_clauses first means name r ss).further → ClausesMean name r ss
    clauses_mean name r [] known stand = record { new = []; rules = with_nothing r.rules; known = known; terms = λ u. (λ a. a, λ a. a) }
    clauses_mean name r (s ∷ ss) known stand =
        let after = with_clause first means r (clause_of name s) in
        let front = front_stands after.further (with_clauses first means name after ss).further (clauses_longer first means name after ss) stand in
        let all = sentence_means name r s ss (clause_of name s) refl known front (λ k. clauses_mean name after ss k stand) in
        record { new = all.0; rules = all.1; known = all.2; terms = all.3 }

    -- types have their rules, one behind the other
    abbrev EachMeans : List RegType → List (List Rule) → Type 0
    EachMeans [] [] = Unit {0}
    EachMeans [] (rs ∷ rest) = ⊥
    EachMeans (t ∷ ts) [] = ⊥
    EachMeans (t ∷ ts) (rs ∷ rest) = TheseMean t.name t.clauses rs × EachMeans ts rest

    record TypesMean (m : Making) (ts : List RegType) : Type 0 where
      pub new : List (List Rule)
      pub own : (with_types first means m ts).own ≡ m.own ++ new
      pub known : AreLists g (with_types first means m ts).known
      pub each : EachMeans ts new

    types_mean : (m : Making) (ts : List RegType) → AreLists g m.known → Stand g first (with_types first means m ts).further → TypesMean m ts
    types_mean m [] known stand = record { new = []; own = with_nothing m.own; known = known; each = tt }
    types_mean m (t ∷ ts) known stand =
        let start : Ruling = record { rules = []; known = m.known; further = m.further } in
        let after = with_type first means m t in
        let front = front_stands after.further (with_types first means after ts).further (types_longer first means after ts) stand in
        let one = clauses_mean t.name start t.clauses known front in
        let rest = types_mean after ts one.known stand in
        let rules = (with_clauses first means t.name start t.clauses).rules in
        record {
          new = rules ∷ rest.new;
          own = rest.own ∙ append_assoc m.own (rules ∷ []) rest.new;
          known = rest.known;
          each = (λ u. (λ a. (one.terms u).0 (subst (SomeOf (λ q. Admits A q u)) one.rules a), λ e. subst (SomeOf (λ q. Admits B q u)) (sym one.rules) ((one.terms u).1 e)), rest.each);
        }

    -- a type's rules, by its position
    abbrev pub IsMeant : ℕ → RegType → Term → Type 0
    IsMeant n t u = (ByRules g A n u → IsGiven A means t.name t.clauses u) × (IsGiven B means t.name t.clauses u → ByRules g B n u)

    type_at : (ts : List RegType) (rules : List (List Rule)) (n j : ℕ) (t : RegType) → EachMeans ts rules → Stand g n rules → slice_get ts j ≡ Some t → (u : Term) → IsMeant (n + j) t u
    type_at [] rules n j t each stand e u = cc
    type_at (s ∷ ts) [] n j t each stand e u = absurd each
    type_at (s ∷ ts) (rs ∷ rest) n zero t each stand e u =
        let same : s ≡ t = some_part s t e in
        let own : rules_of g (n + 0) ≡ rs = ap (rules_of g) (from_zero n) ∙ stand.0 in
        subst (λ k. IsMeant (n + 0) k u) same
        (λ b. (each.0 u).0 (subst (SomeOf (λ q. Admits A q u)) own b), λ i. subst (SomeOf (λ q. Admits B q u)) (sym own) ((each.0 u).1 i))
      where
        from_zero : (n : ℕ) → n + 0 ≡ n
        from_zero n = omega arith
    type_at (s ∷ ts) (rs ∷ rest) n (suc j) t each stand e u =
        subst (λ k. IsMeant k t u) (one_more n j) (type_at ts rest (suc n) j t each.1 stand.1 e u)
      where
        one_more : (n j : ℕ) → suc n + j ≡ n + suc j
        one_more n j = omega arith

  -- modules, by the grammar names of the first types of all modules
  module _ (firsts : List ℕ) where
    means_in : TypeModule → ℕ → Meaning
    means_in one = meaning (numbered firsts one.visible)

    -- the types of modules whose names begin at n
    abbrev pub AllMean : ℕ → List TypeModule → Type 0
    AllMean n ms = (k j : ℕ) (one : TypeModule) (t : RegType) → slice_get ms k ≡ Some one → slice_get one.types j ≡ Some t → (u : Term) → IsMeant (meaning (numbered firsts one.visible)) (slice_index_or (starts n ms) k 0 + j) t u

    record ModulesMean (m : Making) (ms : List TypeModule) : Type 0 where
      pub new : List (List Rule)
      pub own : (with_modules first firsts m ms).own ≡ m.own ++ new
      pub terms : (n : ℕ) → Stand g n new → AllMean n ms

    each_length : (means : ℕ → Meaning) (ts : List RegType) (rules : List (List Rule)) → EachMeans means ts rules → length rules ≡ length ts
    each_length means [] [] h = refl
    each_length means [] (rs ∷ rest) h = absurd h
    each_length means (t ∷ ts) [] h = absurd h
    each_length means (t ∷ ts) (rs ∷ rest) h = ap suc (each_length means ts rest h.1)

    modules_mean : (m : Making) (ms : List TypeModule) → AreLists g m.known → Stand g first (with_modules first firsts m ms).further → ModulesMean m ms
    modules_mean m [] known stand = record { new = []; own = with_nothing m.own; terms = λ n placed k j one t e f u. absurd (none_part one e) }
    modules_mean m (x ∷ ms) known stand =
        let after = with_module first firsts m x in
        let front = front_stands after.further (with_modules first firsts after ms).further (modules_longer first firsts after ms) stand in
        let types = types_mean (meaning (numbered firsts x.visible)) m x.types known front in
        let rest = modules_mean after ms types.known stand in
        record {
          new = types.new ++ rest.new;
          own = rest.own ∙ ap (λ os. os ++ rest.new) types.own ∙ append_assoc m.own types.new rest.new;
          terms = λ n placed k j one t e f u. at types.new rest.new types.each rest.terms n placed k j one t e f u;
        }
      where
        at : (own later : List (List Rule)) → EachMeans (meaning (numbered firsts x.visible)) x.types own → ((n : ℕ) → Stand g n later → AllMean n ms) → (n : ℕ) → Stand g n (own ++ later) → AllMean n (x ∷ ms)
        at own later each rest n placed zero j one t e f u =
            let same : one ≡ x = sym (some_part x one e) in
            subst (λ m. IsMeant (meaning (numbered firsts m.visible)) (n + j) t u) (sym same)
            (type_at (meaning (numbered firsts x.visible)) x.types own n j t each (stand_parts g n own later placed).0 (subst (λ m. slice_get m.types j ≡ Some t) same f) u)
        at own later each rest n placed (suc k) j one t e f u =
            rest (length x.types + n) (subst (λ m. Stand g (m + n) later) (each_length (meaning (numbered firsts x.visible)) x.types own each) (stand_parts g n own later placed).1) k j one t e f u

module _ (modules : List TypeModule) where
  first_is : length (basic_grammar.rules ++ (made modules).own) ≡ count_types modules + 10
  first_is =
      let own : length (made modules).own ≡ 0 + count_types modules = own_modules (count_types modules + 10) (first_names modules) nothing_made modules in
      let front : length (basic_grammar.rules ++ (made modules).own) ≡ 10 + length (made modules).own = length-append basic_grammar.rules (made modules).own in
      omega (arith, own, front)

  further_stand : Stand (made_grammar modules) (count_types modules + 10) (made modules).further
  further_stand = subst (λ n. Stand (made_grammar modules) n (made modules).further) first_is (all_stand (made_grammar modules) (basic_grammar.rules ++ (made modules).own) (made modules).further refl)

  own_stand : Stand (made_grammar modules) 10 (made modules).own
  own_stand = (stand_parts (made_grammar modules) 10 (made modules).own (made modules).further
      (all_stand (made_grammar modules) basic_grammar.rules ((made modules).own ++ (made modules).further) (sym (append_assoc basic_grammar.rules (made modules).own (made modules).further)))).0

  module _ (A B : ℕ → Term → Type 0) (steps : Steps (made_grammar modules) A B) where
    all_mean : ModulesMean (made_grammar modules) A B steps refl (count_types modules + 10) (first_names modules) nothing_made modules
    all_mean = modules_mean (made_grammar modules) A B steps refl (count_types modules + 10) (first_names modules) nothing_made modules (refl, tt) further_stand

    -- the rules of a type give what its clauses give
    pub rules_mean : AllMean (made_grammar modules) A B steps refl (count_types modules + 10) (first_names modules) 10 modules
    rules_mean = all_mean.terms 10 (subst (Stand (made_grammar modules) 10) all_mean.own own_stand)

  abbrev IsTyped : Grammar → ℕ → ℕ → TypeModule → RegType → Term → Type 0
  IsTyped g k j one t u = Belongs g u (slice_index_or (first_names modules) k 0 + j) ↔ IsGiven (Has g) (meaning (numbered (first_names modules) one.visible)) t.name t.clauses u

  pub made_have_terms : (k j : ℕ) (one : TypeModule) (t : RegType) → slice_get modules k ≡ Some one → slice_get one.types j ≡ Some t → (u : Term) → IsTyped (made_grammar modules) k j one t u
  made_have_terms k j one t i f u =
      let g = made_grammar modules in
      let n = slice_index_or (first_names modules) k 0 + j in
      let all = rules_mean (Has g) (Has g) (belongs_steps g) k j one t i f u in
      (λ b. all.0 (belongs_opened g n u b), λ s. belongs_closed g n u (all.1 s))

pub types_have_their_terms : TypesHaveTheirTerms
types_have_their_terms modules g e k j one t i f u = subst (λ h. IsTyped modules h k j one t u) (by_made modules g e) (made_have_terms modules k j one t i f u)

-- A term belongs to the type of a variable exactly where it may stand in the variable's place.
use Rattle.std.proofs.Common.{◌≡◌, ℕ, ◌+◌, ◌==◌, Bool, true, false, List, [], ◌∷◌, ◌++◌, length, refl, ap, sym, ◌∙◌, subst}
use Rattle.std.specs.Prelude.{cond, Option, Some, None}
use Rattle.std.specs.List.{AllByRecursion}
use Rattle.std.proofs.lemmas.List.{append_assoc}
use Rattle.term_core.specs.declared.terms.Term.{Term}
use Rattle.prog_data.specs.declared.basic_names.TheConstants.{TERM_TYPE}
use Rattle.prog_data.specs.declared.grammars.Basic.TheVariants as basic
use Rattle.prog_data.specs.declared.grammars.Rule.{Rule}
use Rattle.prog_data.specs.declared.grammars.Rule.TheVariants as rule
use Rattle.prog_data.specs.declared.grammars.Grammar.{Grammar}
use Rattle.prog_data.specs.Membership.{rules_of}
use Rattle.term_core.proofs.OperandLaws.{none_part, some_part, eqb-eq}
use Rattle.regtype_grammar.specs.declared.literals.Literal.{Literal}
use Rattle.regtype_grammar.specs.declared.meanings.Meaning.{Meaning}
use Rattle.regtype_grammar.specs.declared.numbering.KnownList.{KnownList}
use Rattle.regtype_grammar.specs.declared.numbering.Bound.{Bound}
use Rattle.regtype_grammar.specs.declared.numbering.Listing.{Listing}
use Rattle.regtype_grammar.specs.Lists.{list_rules}
use Rattle.regtype_grammar.specs.Grammars.{number, type_of, list_among, bound, with_list, with_literal, with_literals, no_types}
use Rattle.regtype_grammar.specs.TypeTerms.{IsOfType, IsAsSaid, Chosen, MayStand}
use Rattle.regtype_grammar.proofs.EachLaws.{each_append}
use Rattle.regtype_grammar.proofs.ListLaws.{in_list, from_list}
use Rattle.regtype_grammar.proofs.PartLoops.{with_nothing}
use Rattle.regtype_grammar.proofs.RuleMeaning.{Steps, one_rule, Stand, stand_parts}

-- what literals add comes behind what was added
pub record Longer (xs ys : List (List Rule)) : Type 0 where
  pub further : List (List Rule)
  pub is : ys ≡ xs ++ further

pub longer_trans : (xs ys zs : List (List Rule)) → Longer xs ys → Longer ys zs → Longer xs zs
longer_trans xs ys zs a b = record { further = a.further ++ b.further; is = b.is ∙ ap (λ ws. ws ++ b.further) a.is ∙ append_assoc xs a.further b.further }

module _ (next : ℕ) (means : ℕ → Meaning) where
  list_longer : (l : Listing) (variable element : ℕ) (o : Option ℕ) → Longer l.added (with_list next l variable element o).added
  list_longer l variable element (Some name) = record { further = []; is = with_nothing l.added }
  list_longer l variable element None = record { further = list_rules element (length l.added + next) ∷ []; is = refl }

  literal_longer : (l : Listing) (literal : Literal) → Longer l.added (with_literal next means l literal).added
  literal_longer l literal = by literal.in_list
    where
      by : (b : Bool) → Longer l.added (cond b (with_list next l literal.variable (number (means literal.name)) (list_among l.known (number (means literal.name))))
          (record { known = l.known; added = l.added; types = l.types ++ bound literal.variable (number (means literal.name)) ∷ [] })).added
      by true = list_longer l literal.variable (number (means literal.name)) (list_among l.known (number (means literal.name)))
      by false = record { further = []; is = with_nothing l.added }

  literals_longer : (l : Listing) (ls : List Literal) → Longer l.added (with_literals next means l ls).added
  literals_longer l [] = record { further = []; is = with_nothing l.added }
  literals_longer l (x ∷ xs) = longer_trans l.added (with_literal next means l x).added (with_literals next means l (x ∷ xs)).added (literal_longer l x) (literals_longer (with_literal next means l x) xs)

module _ (g : Grammar) where
  -- known lists have the rules of lists
  abbrev pub AreLists : List KnownList → Type 0
  AreLists ks = AllByRecursion (λ k. rules_of g k.name ≡ list_rules k.element k.name) ks

  among_lists : (ks : List KnownList) (element name : ℕ) → AreLists ks → list_among ks element ≡ Some name → rules_of g name ≡ list_rules element name
  among_lists [] element name h e = absurd (none_part name e)
  among_lists (k ∷ ks) element name h e = by (k.element == element) refl (among_lists ks element name h.1) e
    where
      by : (t : Bool) → (k.element == element) ≡ t → (list_among ks element ≡ Some name → rules_of g name ≡ list_rules element name) → cond t (Some k.name) (list_among ks element) ≡ Some name → rules_of g name ≡ list_rules element name
      by true i rest e = subst (λ n. rules_of g n ≡ list_rules element n) (some_part k.name name e) (h.0 ∙ ap (λ m. list_rules m k.name) (eqb-eq k.element element i))
      by false i rest e = rest e

-- where each term of A comes by a rule, and each that comes by a rule is one of B
module _ (g : Grammar) (A B : ℕ → Term → Type 0) (steps : Steps g A B) (any : rules_of g TERM_TYPE ≡ rule.Basic basic.Term ∷ []) where
  module _ (means : ℕ → Meaning) where
    -- each variable's type has the terms that its literal says
    abbrev pub Says : ℕ → Literal → Type 0
    Says name x = (u : Term) → (A name u → IsAsSaid A means x u) × (IsAsSaid B means x u → B name u)

    abbrev pub BoundsMean : List Bound → List Literal → Type 0
    BoundsMean [] [] = Unit {0}
    BoundsMean [] (x ∷ xs) = ⊥
    BoundsMean (b ∷ bs) [] = ⊥
    BoundsMean (b ∷ bs) (x ∷ xs) = (b.variable ≡ x.variable) × (Says b.name x × BoundsMean bs xs)

    bounds_more : (bs : List Bound) (xs : List Literal) (b : Bound) (x : Literal) → BoundsMean bs xs → b.variable ≡ x.variable → Says b.name x → BoundsMean (bs ++ b ∷ []) (xs ++ x ∷ [])
    bounds_more [] [] b x h same says = (same, (says, tt))
    bounds_more [] (y ∷ ys) b x h same says = absurd h
    bounds_more (c ∷ cs) [] b x h same says = absurd h
    bounds_more (c ∷ cs) (y ∷ ys) b x h same says = (h.0, (h.1.0, bounds_more cs ys b x h.1.1 same says))

    pub variable_means : (bs : List Bound) (xs : List Literal) → BoundsMean bs xs → (v : ℕ) (u : Term) → (A (type_of bs v) u → MayStand A means xs v u) × (MayStand B means xs v u → B (type_of bs v) u)
    variable_means [] [] h v u = (λ b. tt, λ s. (one_rule g A B steps TERM_TYPE (rule.Basic basic.Term) any u).1 tt)
    variable_means [] (y ∷ ys) h v u = absurd h
    variable_means (c ∷ cs) [] h v u = absurd h
    variable_means (c ∷ cs) (y ∷ ys) h v u = by (c.variable == v) (y.variable == v) (ap (λ w. w == v) h.0) (variable_means cs ys h.1.1 v u)
      where
        yes_no : true ≡ false → ⊥
        yes_no q = cc

        by : (p q : Bool) → p ≡ q → (A (type_of cs v) u → MayStand A means ys v u) × (MayStand B means ys v u → B (type_of cs v) u)
            → (A (cond p c.name (type_of cs v)) u → Chosen q (IsAsSaid A means y u) (MayStand A means ys v u)) × (Chosen q (IsAsSaid B means y u) (MayStand B means ys v u) → B (cond p c.name (type_of cs v)) u)
        by true true e rest = h.1.0 u
        by false false e rest = rest
        by true false e rest = absurd (yes_no e)
        by false true e rest = absurd (yes_no (sym e))

    pub record ListingMeans (l : Listing) (said : List Literal) : Type 0 where
      pub known : AreLists g l.known
      pub types : BoundsMean l.types said

    -- a variable's type, by the kind of its literal
    abbrev SaysType : ℕ → ℕ → Bool → Type 0
    SaysType name type listed = (u : Term) → (A name u → IsOfType A type listed u) × (IsOfType B type listed u → B name u)

    -- a variable of a list, whose name has the rules of the lists of the element
    list_says : (element name : ℕ) → rules_of g name ≡ list_rules element name → SaysType name element true
    list_says element name own u = (λ b. in_list g A B steps element name own u b, λ s. from_list g A B steps element name own s)

    as_said : (x : Literal) (b : Bool) → x.in_list ≡ b → (name : ℕ) → SaysType name (number (means x.name)) b → Says name x
    as_said x b i name says u = subst (λ t. (A name u → IsOfType A (number (means x.name)) t u) × (IsOfType B (number (means x.name)) t u → B name u)) (sym i) (says u)

    list_means : (next : ℕ) (l : Listing) (said : List Literal) (x : Literal) → x.in_list ≡ true → (o : Option ℕ) → list_among l.known (number (means x.name)) ≡ o → ListingMeans l said
        → Stand g next (with_list next l x.variable (number (means x.name)) o).added → ListingMeans (with_list next l x.variable (number (means x.name)) o) (said ++ x ∷ [])
    list_means next l said x i (Some name) e h stand = record {
      known = h.known;
      types = bounds_more l.types said (bound x.variable name) x h.types refl (as_said x true i name (list_says (number (means x.name)) name (among_lists g l.known (number (means x.name)) name h.known e)));
    }
    list_means next l said x i None e h stand =
        let element = number (means x.name) in
        let name = length l.added + next in
        let own = (stand_parts g next l.added (list_rules element name ∷ []) stand).1.0 in
        record {
          known = each_append (λ k. rules_of g k.name ≡ list_rules k.element k.name) l.known (record { element = element; name = name } ∷ []) h.known (own, tt);
          types = bounds_more l.types said (bound x.variable name) x h.types refl (as_said x true i name (list_says element name own));
        }

    literal_means : (next : ℕ) (l : Listing) (said : List Literal) (x : Literal) → ListingMeans l said → Stand g next (with_literal next means l x).added → ListingMeans (with_literal next means l x) (said ++ x ∷ [])
    literal_means next l said x h stand = by x.in_list refl stand
      where
        type : ℕ
        type = number (means x.name)

        by : (b : Bool) → x.in_list ≡ b → Stand g next (cond b (with_list next l x.variable type (list_among l.known type)) (record { known = l.known; added = l.added; types = l.types ++ bound x.variable type ∷ [] })).added
            → ListingMeans (cond b (with_list next l x.variable type (list_among l.known type)) (record { known = l.known; added = l.added; types = l.types ++ bound x.variable type ∷ [] })) (said ++ x ∷ [])
        by true i stand = list_means next l said x i (list_among l.known type) refl h stand
        by false i stand = record { known = h.known; types = bounds_more l.types said (bound x.variable type) x h.types refl (as_said x false i type (λ u. (λ b. b, λ b. b))) }

    literals_mean : (next : ℕ) (l : Listing) (said ls : List Literal) → ListingMeans l said → Stand g next (with_literals next means l ls).added → ListingMeans (with_literals next means l ls) (said ++ ls)
    literals_mean next l said [] h stand = subst (ListingMeans l) (with_nothing said) h
    literals_mean next l said (x ∷ xs) h stand =
        let after = with_literal next means l x in
        let more = literals_longer next means after xs in
        let front = (stand_parts g next after.added more.further (subst (Stand g next) more.is stand)).0 in
        subst (ListingMeans (with_literals next means after xs)) (append_assoc said (x ∷ []) xs) (literals_mean next after (said ++ x ∷ []) xs (literal_means next l said x h front) stand)

    -- before the literals of a clause nothing is said
    pub clause_literals : (next : ℕ) (known : List KnownList) (ls : List Literal) → AreLists g known → Stand g next (with_literals next means (no_types known) ls).added → ListingMeans (with_literals next means (no_types known) ls) ls
    clause_literals next known ls h stand = literals_mean next (no_types known) [] ls (record { known = h; types = tt }) stand

-- The terms of the lists of an element.
use Rattle.std.proofs.Common.{◌≡◌, ◌⊎◌, inl, inr, ℕ, suc, ◌+◌, ◌==◌, nat_lt, Bool, true, false, List, [], ◌∷◌, ◌++◌, length, refl, ap, sym, ◌∙◌, subst, arith}
use Rattle.std.specs.Prelude.{cond, slice_index_or, Option, Some, None}
use Rattle.std.specs.List.{AllByRecursion}
use Rattle.std.proofs.lemmas.Bool.{and_parts}
use Rattle.term_core.specs.declared.fixed.TheConstants.{NIL, CELL}
use Rattle.term_core.specs.declared.terms.Term.{Term, out-Term}
use Rattle.term_core.specs.declared.terms.Term as term
use Rattle.term_core.specs.declared.terms.Term.TheOpen as layer
use Rattle.term_core.specs.declared.terms.Term.TheVariants.{outs-Var, outs-Int, outs-Atom, outs-Node}
use Rattle.term_core.proofs.TermFolds.{ind_terms}
use Rattle.term_core.proofs.OperandLaws.{none_part, some_part, eqb-eq}
use Rattle.prog_data.specs.declared.grammars.Rule.{Rule}
use Rattle.prog_data.specs.declared.grammars.Rule.TheVariants as rule
use Rattle.prog_data.specs.declared.grammars.Grammar.{Grammar}
use Rattle.prog_data.specs.Membership.{rules_of}
use Rattle.regtype_grammar.specs.Lists.{most_names, list_rules, are_both, is_nil, is_cell, are_list_rules, list_from, found_list, Listed, with_lists_of, found_or_added, list_of}
use Rattle.regtype_grammar.specs.ListTerms.{IsListOf, empty, cell, ListsAreLists}
use Rattle.regtype_grammar.proofs.RuleMeaning.{SomeOf, EachHas, Admits, Steps, Has, belongs_steps}

-- rules that pass the test are the rules of lists

nil_is : (r : Rule) → is_nil r ≡ true → r ≡ rule.Atom NIL
nil_is (rule.Atom a) e = ap rule.Atom (eqb-eq a NIL e)
nil_is other e = cc

both_are : (first second : ℕ) (ns : List ℕ) → are_both first second ns ≡ true → ns ≡ first ∷ second ∷ []
both_are first second [] e = cc
both_are first second (n ∷ []) e = cc
both_are first second (n ∷ m ∷ []) e =
    let both = and_parts (n == first) (m == second) e in
    ap (λ k. k ∷ m ∷ []) (eqb-eq n first both.0) ∙ ap (λ k. first ∷ k ∷ []) (eqb-eq m second both.1)
both_are first second (n ∷ m ∷ k ∷ rest) e = cc

cell_is : (element name : ℕ) (r : Rule) → is_cell element name r ≡ true → r ≡ rule.Node CELL (element ∷ name ∷ [])
cell_is element name (rule.Node f ns) e =
    let both = and_parts (f == CELL) (are_both element name ns) e in
    ap (λ g. rule.Node g ns) (eqb-eq f CELL both.0) ∙ ap (rule.Node CELL) (both_are element name ns both.1)
cell_is element name other e = cc

rules_are : (element name : ℕ) (rs : List Rule) → are_list_rules element name rs ≡ true → rs ≡ list_rules element name
rules_are element name [] e = cc
rules_are element name (x ∷ []) e = cc
rules_are element name (x ∷ y ∷ []) e =
    let both = and_parts (is_nil x) (is_cell element name y) e in
    ap (λ r. r ∷ y ∷ []) (nil_is x both.0) ∙ ap (λ r. rule.Atom NIL ∷ r ∷ []) (cell_is element name y both.1)
rules_are element name (x ∷ y ∷ z ∷ rest) e = cc

-- a name that was found has them
record FoundAt (element at : ℕ) (rules : List (List Rule)) (name : ℕ) : Type 0 where
  place : ℕ
  is : name ≡ at + place
  own : slice_index_or rules place [] ≡ list_rules element name

found_at : (element at : ℕ) (rules : List (List Rule)) (name : ℕ) → list_from element at rules ≡ Some name → FoundAt element at rules name
found_at element at [] name e = absurd (none_part name e)
found_at element at (rs ∷ rest) name e = by (are_list_rules element at rs) refl (found_at element (suc at) rest name) e
  where
    by : (b : Bool) → are_list_rules element at rs ≡ b → (list_from element (suc at) rest ≡ Some name → FoundAt element (suc at) rest name) → cond b (Some at) (list_from element (suc at) rest) ≡ Some name → FoundAt element at (rs ∷ rest) name
    by true i later e =
        let same = some_part at name e in
        record { place = 0; is = (let s : at ≡ name = same in omega (arith, s)); own = rules_are element at rs i ∙ ap (list_rules element) same }
    by false i later e = let l = later e in record { place = suc l.place; is = (let s : name ≡ suc at + l.place = l.is in omega (arith, s)); own = l.own }

last_rules : (xs : List (List Rule)) (x : List Rule) → slice_index_or (xs ++ x ∷ []) (length xs) [] ≡ x
last_rules [] x = refl
last_rules (y ∷ ys) x = last_rules ys x

-- the name of the lists of an element has their rules
own_rules : (g : Grammar) (element : ℕ) (l : Listed) → list_of g element ≡ Some l → rules_of l.grammar l.name ≡ list_rules element l.name
own_rules g element l e = by (found_list g element) refl e
  where
    added : (b : Bool) → cond b (Some (with_lists_of g element)) None ≡ Some l → rules_of l.grammar l.name ≡ list_rules element l.name
    added false e = absurd (none_part l e)
    added true e = subst (λ k. rules_of k.grammar k.name ≡ list_rules element k.name) (some_part (with_lists_of g element) l e) (last_rules g.rules (list_rules element (length g.rules)))

    by : (o : Option ℕ) → found_list g element ≡ o → found_or_added g element o ≡ Some l → rules_of l.grammar l.name ≡ list_rules element l.name
    by None i e = added (nat_lt (length g.rules) most_names) e
    by (Some name) i e =
        let found = found_at element 0 g.rules name i in
        let place : found.place ≡ name = (let s : name ≡ 0 + found.place = found.is in omega (arith, s)) in
        subst (λ k. rules_of k.grammar k.name ≡ list_rules element k.name) (some_part _ l e) (ap (λ k. slice_index_or g.rules k []) (sym place) ∙ found.own)

-- where a name has the rules of the lists of an element
module _ (g : Grammar) (A B : ℕ → Term → Type 0) (steps : Steps g A B) (element name : ℕ) (own : rules_of g name ≡ list_rules element name) where
  record IsCellOf (u : Term) : Type 0 where
    first : Term
    rest : Term
    is : u ≡ term.Node CELL (first ∷ rest ∷ [])
    item : A element first
    others : A name rest

  cell_of : (u : Term) (us : List Term) → u ≡ term.Node CELL us → EachHas A us (element ∷ name ∷ []) → IsCellOf u
  cell_of u [] e h = absurd h
  cell_of u (a ∷ []) e h = absurd h.1
  cell_of u (a ∷ b ∷ []) e h = record { first = a; rest = b; is = e; item = h.0; others = h.1.0 }
  cell_of u (a ∷ b ∷ c ∷ rest) e h = absurd h.1.1

  outermost : (u : Term) → A name u → (u ≡ term.Atom NIL) ⊎ IsCellOf u
  outermost u a = by (subst (SomeOf (λ r. Admits A r u)) own (steps.opened name u a))
    where
      by : SomeOf (λ r. Admits A r u) (list_rules element name) → (u ≡ term.Atom NIL) ⊎ IsCellOf u
      by (inl e) = inl e
      by (inr (inl c)) = inr (cell_of u c.0 c.1 c.2)
      by (inr (inr impossible)) = absurd impossible

  -- what is no compound is the empty list
  abbrev IsInList : Term → Type 0
  IsInList u = A name u → IsListOf (A element) u

  alone : (u : Term) → (IsCellOf u → ⊥) → IsInList u
  alone u no_cell a = by (outermost u a)
    where
      by : (u ≡ term.Atom NIL) ⊎ IsCellOf u → IsListOf (A element) u
      by (inl e) = empty e
      by (inr c) = absurd (no_cell c)

  compound : (f : ℕ) (ts : List Term) → AllByRecursion IsInList ts → IsInList (term.Node f ts)
  compound f ts h a = by (outermost (term.Node f ts) a)
    where
      by : (term.Node f ts ≡ term.Atom NIL) ⊎ IsCellOf (term.Node f ts) → IsListOf (A element) (term.Node f ts)
      by (inl e) = empty e
      by (inr c) =
          let same : ◌≡◌ {A = layer.Term-F Term} (layer.Node f ts) (layer.Node CELL (c.first ∷ c.rest ∷ [])) = sym (outs-Node f ts) ∙ ap out-Term c.is ∙ outs-Node CELL (c.first ∷ c.rest ∷ []) in
          let parts : ts ≡ c.first ∷ c.rest ∷ [] = cc in
          cell c.first c.rest c.is c.item ((subst (AllByRecursion IsInList) parts h).1.0 c.others)

  pub in_list : (u : Term) → A name u → IsListOf (A element) u
  in_list = ind_terms IsInList
      (λ v. alone (term.Var v) (λ c. let no : ◌≡◌ {A = layer.Term-F Term} (layer.Var v) (layer.Node CELL (c.first ∷ c.rest ∷ [])) = sym (outs-Var v) ∙ ap out-Term c.is ∙ outs-Node CELL (c.first ∷ c.rest ∷ []) in cc))
      (λ k. alone (term.Int k) (λ c. let no : ◌≡◌ {A = layer.Term-F Term} (layer.Int k) (layer.Node CELL (c.first ∷ c.rest ∷ [])) = sym (outs-Int k) ∙ ap out-Term c.is ∙ outs-Node CELL (c.first ∷ c.rest ∷ []) in cc))
      (λ a. alone (term.Atom a) (λ c. let no : ◌≡◌ {A = layer.Term-F Term} (layer.Atom a) (layer.Node CELL (c.first ∷ c.rest ∷ [])) = sym (outs-Atom a) ∙ ap out-Term c.is ∙ outs-Node CELL (c.first ∷ c.rest ∷ []) in cc))
      compound

  pub from_list : {t : Term} → IsListOf (B element) t → B name t
  from_list {t} (empty e) = steps.closed name t (subst (SomeOf (λ r. Admits B r t)) (sym own) (inl e))
  from_list {t} (cell first rest e a b) = steps.closed name t (subst (SomeOf (λ r. Admits B r t)) (sym own) (inr (inl (first ∷ rest ∷ [], e, (a, (from_list b, tt))))))

pub lists_are_lists : ListsAreLists
lists_are_lists g element l e t =
    let own = own_rules g element l e in
    let steps = belongs_steps l.grammar in
    (λ b. in_list l.grammar (Has l.grammar) (Has l.grammar) steps element l.name own t b, λ s. from_list l.grammar (Has l.grammar) (Has l.grammar) steps element l.name own s)

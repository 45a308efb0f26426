-- Conditions and entries in range.
use Rattle.std.proofs.Common.{◌≡◌, ℕ, suc, ◌+◌, true, List, [], ◌∷◌, map, length, refl, subst, arith}
use Rattle.std.specs.Prelude.{Option, Some, None, option_map}
use Rattle.std.specs.List.{list_all, AllByRecursion}
use Rattle.std.proofs.lemmas.Bool.{and_from}
use Rattle.term_core.proofs.OperandLaws.{none_part, some_part}
use Rattle.prog_data.specs.declared.conditions.Prop.{Prop}
use Rattle.prog_data.specs.declared.conditions.Cond.{Cond}
use Rattle.prog_data.specs.declared.conditions.CondKind.{CondKind}
use Rattle.prog_data.specs.declared.conditions.CondKind.TheVariants.{Comp}
use Rattle.prog_data.specs.declared.programs.Keyword.{Keyword}
use Rattle.prog_data.specs.declared.programs.Keyword.TheVariants as keyword
use Rattle.prog_data.specs.declared.grammars.Grammar.{Grammar}
use Rattle.prog_data.specs.declared.grammars.Seen.{Seen}
use Rattle.prog_data.specs.Ranges.{is_prop_of, is_kind_of}
use Rattle.assertion_read.specs.declared.assertions.Assertion.{Assertion}
use Rattle.regtype_grammar.specs.TypeNames.{MeaningsStayInRange}
use Rattle.assertion_normal.specs.declared.outcomes.Normal.{Normal}
use Rattle.assertion_normal.specs.declared.settling.Settled.{Settled}
use Rattle.assertion_normal.specs.Settling.{all_settled}
use Rattle.assertion_normal.specs.Conditions.{adds_disjunct, disjuncts, success_kinds, comp_kinds, own_kinds_by, own_kinds, numbered, calls_conditions, conditions_from, behind_calls, entries_by, entries_of, normal_of}
use Rattle.assertion_normal.specs.Normals.{given, normalised}
use Rattle.assertion_normal.specs.Ranges.{IsNormalInRange, StaysInRange}
use Rattle.assertion_normal.proofs.EachLaws.{each_append, each_map, each_test, each_filter, each_of, each_more}
use Rattle.assertion_normal.proofs.AskedLaws.{ten_names}
use Rattle.assertion_normal.proofs.SettledLaws.{PropsIn, PostIn, SettledIn, settled_all_in}

module _ (arity size : ℕ) where
  props_pass : (ps : List Prop) → PropsIn arity size ps → list_all (is_prop_of arity size) ps ≡ true
  props_pass ps h = each_test (is_prop_of arity size) ps h

  abbrev KindIn : CondKind → Type 0
  KindIn kind = is_kind_of arity size kind ≡ true

  success_in : (pre : List Prop) (post : Option (List Prop)) → PropsIn arity size pre → PostIn arity size post → AllByRecursion KindIn (success_kinds pre post)
  success_in pre None h k = tt
  success_in pre (Some post) h k = (and_from (list_all (is_prop_of arity size) pre) (list_all (is_prop_of arity size) post) (props_pass pre h) (props_pass post k), tt)

  own_in_by : (s : Settled) → SettledIn arity size s → (word : Option Keyword) → AllByRecursion KindIn (own_kinds_by s word)
  own_in_by s h None = tt
  own_in_by s h (Some keyword.Calls) = tt
  own_in_by s h (Some keyword.Success) = success_in s.pre s.post h.0 h.1
  own_in_by s h (Some keyword.Comp) = each_map KindIn (λ p. Comp s.pre p) s.comp (each_of (λ p. KindIn (Comp s.pre p)) (λ p. props_pass s.pre h.0) s.comp)
  own_in_by s h (Some keyword.Pred) =
      each_append KindIn (success_kinds s.pre s.post) (comp_kinds s.pre s.comp) (success_in s.pre s.post h.0 h.1)
      (each_map KindIn (λ p. Comp s.pre p) s.comp (each_of (λ p. KindIn (Comp s.pre p)) (λ p. props_pass s.pre h.0) s.comp))

  module _ (file pred : ℕ) where
    abbrev IsIn : Cond → Type 0
    IsIn c = is_kind_of arity size c.kind ≡ true

    numbered_in : (number line : ℕ) (kinds : List CondKind) → AllByRecursion KindIn kinds → AllByRecursion IsIn (numbered file pred number line kinds)
    numbered_in number line [] h = tt
    numbered_in number line (kind ∷ kinds) h = (h.0, numbered_in (suc number) line kinds h.1)

    from_in : (number : ℕ) (list : List Settled) → AllByRecursion (SettledIn arity size) list → AllByRecursion IsIn (conditions_from file pred number list)
    from_in number [] h = tt
    from_in number (s ∷ ss) h =
        each_append IsIn (numbered file pred number s.line (own_kinds s)) (conditions_from file pred (length (own_kinds s) + number) ss)
        (numbered_in number s.line (own_kinds s) (own_in_by s h.0 s.keyword)) (from_in (length (own_kinds s) + number) ss h.1)

    disjuncts_in : (ds : List Settled) → AllByRecursion (SettledIn arity size) ds → list_all (list_all (is_prop_of arity size)) (map (λ t. t.pre) ds) ≡ true
    disjuncts_in ds h =
        each_test (list_all (is_prop_of arity size)) (map (λ t. t.pre) ds)
        (each_map (λ ps. list_all (is_prop_of arity size) ps ≡ true) (λ t. t.pre) ds (each_more (SettledIn arity size) (λ t. list_all (is_prop_of arity size) t.pre ≡ true) (λ t i. props_pass t.pre i.0) ds h))

    calls_in : (number : ℕ) (ds : List Settled) → AllByRecursion (SettledIn arity size) ds → AllByRecursion IsIn (calls_conditions file pred number ds)
    calls_in number [] h = tt
    calls_in number (s ∷ ss) h = (disjuncts_in (s ∷ ss) h, tt)

    entries_in_by : (s : Settled) → SettledIn arity size s → (word : Option Keyword) → AllByRecursion (λ e. list_all (is_prop_of arity size) e.pre ≡ true) (entries_by pred s.pre word)
    entries_in_by s h None = (props_pass s.pre h.0, tt)
    entries_in_by s h (Some word) = tt

    entries_in : (list : List Settled) → AllByRecursion (SettledIn arity size) list → AllByRecursion (λ e. list_all (is_prop_of arity size) e.pre ≡ true) (entries_of pred list)
    entries_in [] h = tt
    entries_in (s ∷ ss) h = each_append (λ e. list_all (is_prop_of arity size) e.pre ≡ true) (entries_by pred s.pre s.keyword) (entries_of pred ss) (entries_in_by s h.0 s.keyword) (entries_in ss h.1)

-- what assertions in range give is in range
normal_in : (g : Grammar) (file pred first arity : ℕ) (list : List Settled) → AllByRecursion (SettledIn arity (length g.rules)) list → IsNormalInRange arity g (normal_of file pred first list)
normal_in g file pred first arity list h =
    let size = length g.rules in
    record {
      conds = each_append (IsIn arity size file pred) (calls_conditions file pred first (disjuncts list)) (conditions_from file pred (behind_calls file pred first list) list)
          (calls_in arity size file pred first (disjuncts list) (each_filter (SettledIn arity size) (λ s. adds_disjunct s.keyword) list h)) (from_in arity size file pred (behind_calls file pred first list) list h);
      entries = entries_in arity size file pred list h;
    }

pub normal_stays : MeaningsStayInRange → (names : List (List ℕ)) (file : ℕ) (seen : List Seen) (old : Grammar) (pred first : ℕ) (list : List Assertion) (new : Grammar) (normal : Normal)
    → normalised names file seen old pred first list ≡ Some (new, normal) → StaysInRange seen old list new normal
normal_stays stay names file seen old pred first list new normal e count arity h s about = by (all_settled names seen old list) refl e
  where
    by : (o : Option (Grammar × List Settled)) → all_settled names seen old list ≡ o → option_map (given names file seen old pred first list) o ≡ Some (new, normal) → IsNormalInRange arity new normal
    by None i e' = absurd (none_part (new, normal) e')
    by (Some made) i e' =
        subst (λ r. IsNormalInRange arity r.0 r.1) (some_part (made.0, normal_of file pred first made.1) (new, normal) e')
        (normal_in made.0 file pred first arity made.1 (settled_all_in stay seen arity (length old.rules) (ten_names old h) s names count old list made (omega arith) about i))

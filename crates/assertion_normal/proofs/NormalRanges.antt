-- What assertions give is in range, and the grammar behind it has grown by lists alone.
use Rattle.std.proofs.Common.{◌≡◌, ℕ, Bool, true, false, List, [], ◌∷◌, ◌++◌, length, refl, subst}
use Rattle.std.specs.Prelude.{cond, Option, Some, None, option_map, option_and_then}
use Rattle.term_core.proofs.OperandLaws.{none_part, some_part}
use Rattle.prog_data.specs.declared.conditions.Prop.{Prop}
use Rattle.prog_data.specs.declared.grammars.Grammar.{Grammar}
use Rattle.prog_data.specs.declared.grammars.Seen.{Seen}
use Rattle.assertion_read.specs.declared.assertions.Written.{Written}
use Rattle.assertion_read.specs.declared.assertions.Assertion.{Assertion}
use Rattle.regtype_grammar.specs.Grammars.{number}
use Rattle.regtype_grammar.specs.Lists.{Listed, list_of}
use Rattle.regtype_grammar.specs.Ranges.{ListingsStayInRange}
use Rattle.regtype_grammar.specs.TypeNames.{meaning, MeaningsStayInRange}
use Rattle.assertion_normal.specs.declared.outcomes.Normal.{Normal}
use Rattle.assertion_normal.specs.declared.settling.Settled.{Settled}
use Rattle.assertion_normal.specs.Conditions.{normal_of}
use Rattle.assertion_normal.specs.Laws.{IsOfPredicate, IsNormalised, NormalsAreInRange}
use Rattle.assertion_normal.specs.Normals.{given, normalised}
use Rattle.assertion_normal.specs.Properties.{mode, needs_no_type, type_name, as_type, of_type, asked}
use Rattle.assertion_normal.specs.Ranges.{IsGrown}
use Rattle.assertion_normal.specs.Settling.{counting, in_order, all_asked, post_asked, settled_with, settled, all_settled}
use Rattle.assertion_normal.proofs.AskedLaws.{ten_names, number_below}
use Rattle.assertion_normal.proofs.ConditionRanges.{normal_stays}
use Rattle.assertion_normal.proofs.GrownLaws.{grown_self, grown_then, list_grows}
use Rattle.assertion_normal.proofs.NumberLaws.{conditions_numbered}

-- in order each grows the grammar, so all do
order_grows : {A B : Type 0} (seen : List Seen) (gives : Grammar → A → Option (Grammar × B)) → ((g : Grammar) (x : A) (made : Grammar × B) → gives g x ≡ Some made → IsGrown seen g made.0) → (so_far : Grammar × List B) (xs : List A) (all : Grammar × List B)
    → in_order gives so_far xs ≡ Some all → IsGrown seen so_far.0 all.0
order_grows seen gives one so_far [] all e = subst (λ r. IsGrown seen so_far.0 r.0) (some_part so_far all e) (grown_self seen so_far.0)
order_grows {A} {B} seen gives one so_far (x ∷ xs) all e = by (λ made i. order_grows seen gives one (made.0, so_far.1 ++ made.1 ∷ []) xs all i) (gives so_far.0 x) refl e
  where
    by : ((made : Grammar × B) → in_order gives (made.0, so_far.1 ++ made.1 ∷ []) xs ≡ Some all → IsGrown seen made.0 all.0) → (o : Option (Grammar × B)) → gives so_far.0 x ≡ o
        → option_and_then (λ m. in_order gives (m.0, so_far.1 ++ m.1 ∷ []) xs) o ≡ Some all → IsGrown seen so_far.0 all.0
    by later None i e' = absurd (none_part all e')
    by later (Some made) i e' = grown_then seen so_far.0 made.0 all.0 (one so_far.0 x made i) (later made e')

module _ (stay : MeaningsStayInRange) (listings : ListingsStayInRange) (names : List (List ℕ)) (seen : List Seen) where
  -- properties

  listed_grows : (g : Grammar) (w : Written) (r : Grammar × Prop) → option_map (as_type w.arg) (list_of g (number (meaning seen (type_name w)))) ≡ Some r → IsGrown seen g r.0
  listed_grows g w r e = by (list_of g (number (meaning seen (type_name w)))) refl e
    where
      by : (o : Option Listed) → list_of g (number (meaning seen (type_name w))) ≡ o → option_map (as_type w.arg) o ≡ Some r → IsGrown seen g r.0
      by None i e' = absurd (none_part r e')
      by (Some l) i e' =
          let listing = listings g (number (meaning seen (type_name w))) l i in
          subst (λ x. IsGrown seen g x.0) (some_part (as_type w.arg l) r e')
          (record {
            grows = list_grows g (number (meaning seen (type_name w))) l i;
            named = listing.named;
            range = λ h s. (listing.range h (number_below stay seen (type_name w) (length g.rules) (ten_names g h) s)).0;
          })

  type_grows : (g : Grammar) (w : Written) (r : Grammar × Prop) (element : Option ℕ) → of_type g w.arg (number (meaning seen (type_name w))) element ≡ Some r → IsGrown seen g r.0
  type_grows g w r None e = subst (λ x. IsGrown seen g x.0) (some_part _ r e) (grown_self seen g)
  type_grows g w r (Some element) e = listed_grows g w r e

  asked_grows : (g : Grammar) (w : Written) (r : Grammar × Prop) → asked seen g w ≡ Some r → IsGrown seen g r.0
  asked_grows g w r e = by (needs_no_type w) e
    where
      by : (b : Bool) → cond b (Some (g, mode w.property w.arg)) (of_type g w.arg (number (meaning seen (type_name w))) w.element) ≡ Some r → IsGrown seen g r.0
      by true e' = subst (λ x. IsGrown seen g x.0) (some_part (g, mode w.property w.arg) r e') (grown_self seen g)
      by false e' = type_grows g w r w.element e'

  all_grow : (g : Grammar) (ws : List Written) (r : Grammar × List Prop) → all_asked seen g ws ≡ Some r → IsGrown seen g r.0
  all_grow g ws r e = order_grows seen (asked seen) asked_grows (g, []) ws r e

  post_grows : (g : Grammar) (o : Option (List Written)) (r : Grammar × Option (List Prop)) → post_asked seen g o ≡ Some r → IsGrown seen g r.0
  post_grows g None r e = subst (λ x. IsGrown seen g x.0) (some_part (g, None) r e) (grown_self seen g)
  post_grows g (Some ws) r e = by (all_asked seen g ws) refl e
    where
      by : (o : Option (Grammar × List Prop)) → all_asked seen g ws ≡ o → option_map (λ post. (post.0, Some post.1)) o ≡ Some r → IsGrown seen g r.0
      by None i e' = absurd (none_part r e')
      by (Some ps) i e' = subst (λ x. IsGrown seen g x.0) (some_part (ps.0, Some ps.1) r e') (all_grow g ws ps i)

  -- assertions

  settled_grows : (g : Grammar) (a : Assertion) (r : Grammar × Settled) → settled names seen g a ≡ Some r → IsGrown seen g r.0
  settled_grows g a r e = pre_by (all_asked seen g a.pre) refl e
    where
      post_by : (pre : Grammar × List Prop) → IsGrown seen g pre.0 → (o : Option (Grammar × Option (List Prop))) → post_asked seen pre.0 a.post ≡ o → option_map (λ post. (post.0, settled_with names a pre.1 post.1)) o ≡ Some r → IsGrown seen g r.0
      post_by pre h None i e' = absurd (none_part r e')
      post_by pre h (Some post) i e' = subst (λ x. IsGrown seen g x.0) (some_part (post.0, settled_with names a pre.1 post.1) r e') (grown_then seen g pre.0 post.0 h (post_grows pre.0 a.post post i))

      pre_by : (o : Option (Grammar × List Prop)) → all_asked seen g a.pre ≡ o → option_and_then (λ pre. option_map (λ post. (post.0, settled_with names a pre.1 post.1)) (post_asked seen pre.0 a.post)) o ≡ Some r → IsGrown seen g r.0
      pre_by None i e' = absurd (none_part r e')
      pre_by (Some pre) i e' = post_by pre (all_grow g a.pre pre i) (post_asked seen pre.0 a.post) refl e'

  module _ (file : ℕ) (old : Grammar) (pred first : ℕ) (list : List Assertion) (made : Grammar × Normal) (e : normalised names file seen old pred first list ≡ Some made) where
    record Parts : Type 0 where
      grown : IsGrown seen old made.0
      of_predicate : IsOfPredicate file pred first made.1

    parts : Parts
    parts = by (all_settled names seen old list) refl e
      where
        by : (o : Option (Grammar × List Settled)) → all_settled names seen old list ≡ o → option_map (given names file seen old pred first list) o ≡ Some made → Parts
        by None i e' = absurd (none_part made e')
        by (Some x) i e' =
            let same = some_part (x.0, normal_of file pred first x.1) made e' in
            record {
              grown = subst (λ r. IsGrown seen old r.0) same (order_grows seen (settled names seen) settled_grows (old, []) (counting list) x i);
              of_predicate = subst (λ r. IsOfPredicate file pred first r.1) same (conditions_numbered file pred first x.1);
            }

pub normals_in_range : MeaningsStayInRange → ListingsStayInRange → NormalsAreInRange
normals_in_range stay listings names file seen old pred first list made e =
    let both = parts stay listings names seen file old pred first list made e in
    record { grown = both.grown; of_predicate = both.of_predicate; range = normal_stays stay names file seen old pred first list made.0 made.1 e }

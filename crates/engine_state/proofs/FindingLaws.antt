-- The turn of a loop over tests.
use Rattle.std.proofs.Common.{◌≡◌, ◌≤◌, ◌<◌, ◌+◌, ◌-◌, ◌^◌, ℕ, min, Bool, List, [], ◌∷◌, ◌++◌, length, take, drop, get_or, Option, None, Some, refl, sym, ap, subst, ◌∙◌, append_assoc, arith}
use Rattle.std.proofs.lemmas.List.{append-nil, take_all, take_more, take-append-drop}
use Rattle.prog_data.specs.declared.events.Ending.{Ending}
use Rattle.machine_model.specs.Step.{Finding, finding}
use Rattle.engine_state.specs.Tested.{Tested, untested, HasTested, tested_on, tested_then, found}
use Rattle.engine_state.specs.Findings.{IsAdded, HasAdded}
use Rattle.engine_state.proofs.TestedLaws.{tests_join}

-- where a list ends
pub whole : (xs : List ℕ) (i : ℕ) → length xs ≤ i → take i xs ≡ xs
whole xs i le = take_all i xs le

module _ (stops : Bool) (counts : ℕ) (find : ℕ → Finding) where
  -- nothing was tested yet
  pub none_added : (told : List ℕ) → HasAdded stops counts find [] told told 0 None
  none_added told = record {
    r = untested;
    has = tests_join.none stops counts find;
    added = record { told_is = sym (append-nil told); tests_are = omega arith; ended_is = refl };
  }

  -- one more test, after tests that have not ended the run
  one_added : (cs : List ℕ) (c : ℕ) (told mid : List ℕ) (count : ℕ) (new : List ℕ) (total : ℕ) (ended : Option Ending) →
      HasAdded stops counts find cs told mid count None → IsAdded mid count (found stops counts c (find c)) new total ended → HasAdded stops counts find (cs ++ c ∷ []) told new total ended
  one_added cs c told mid count new total ended before one =
      let r = before.r in
      let further = found stops counts c (find c) in
      let open_yet : r.ended ≡ None = sym before.added.ended_is in
      let joined : tested_then r further ≡ record { told = r.told ++ further.told; tests = r.tests + further.tests; ended = further.ended } = ap (λ o. tested_on r.told r.tests o further) open_yet in
      let counted : count ≡ min (0 + r.tests) (2 ^ 64 - 1) = before.added.tests_are in
      let totalled : total ≡ min (count + further.tests) (2 ^ 64 - 1) = one.tests_are in
      record {
        r = record { told = r.told ++ further.told; tests = r.tests + further.tests; ended = further.ended };
        has = subst (HasTested stops counts find (cs ++ c ∷ [])) joined (tests_join.both stops counts find cs (c ∷ []) r further before.has (tests_join.one stops counts find c));
        added = record {
          told_is = one.told_is ∙ ap (λ xs. xs ++ further.told) before.added.told_is ∙ append_assoc told r.told further.told;
          tests_are = omega (arith, counted, totalled);
          ended_is = one.ended_is;
        };
      }

  -- the turn of a loop: the condition at a place was tested, and this was found
  pub turn : (cs : List ℕ) (i : ℕ) (b : Bool) (told mid : List ℕ) (count : ℕ) (new : List ℕ) (total : ℕ) (ended : Option Ending) → i < length cs → find (get_or cs i 0) ≡ finding b →
      HasAdded stops counts find (take i cs) told mid count None → IsAdded mid count (found stops counts (get_or cs i 0) (finding b)) new total ended → HasAdded stops counts find (take (i + 1) cs) told new total ended
  turn cs i b told mid count new total ended lt is before one =
      subst (λ xs. HasAdded stops counts find xs told new total ended) (sym (take_more cs i 0 lt))
      (one_added (take i cs) (get_or cs i 0) told mid count new total ended before (subst (λ f. IsAdded mid count (found stops counts (get_or cs i 0) f) new total ended) (sym is) one))

  -- the run is ended, and no more is tested
  pub all_added : (cs : List ℕ) (i : ℕ) (told new : List ℕ) (total : ℕ) (e : Ending) → HasAdded stops counts find (take i cs) told new total (Some e) → HasAdded stops counts find cs told new total (Some e)
  all_added cs i told new total e a = record {
    r = a.r;
    has = subst (λ xs. HasTested stops counts find xs a.r) (take-append-drop i cs) (tests_join.over stops counts find (take i cs) (drop i cs) a.r e (sym a.added.ended_is) a.has);
    added = a.added;
  }

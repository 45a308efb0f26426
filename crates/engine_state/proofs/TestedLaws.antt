-- What tests of conditions give, put together.
use Rattle.std.proofs.Common.{◌≡◌, ℕ, ◌+◌, Bool, true, false, List, [], ◌∷◌, ◌++◌, map, Option, Some, None, refl, sym, ap, ◌∙◌, append_assoc, arith}
use Rattle.std.proofs.lemmas.List.{map-append}
use Rattle.prog_data.specs.declared.events.Event.TheVariants.{Broken}
use Rattle.prog_data.specs.declared.events.Ending.{Ending}
use Rattle.prog_data.specs.declared.events.Ending.TheVariants as ending
use Rattle.machine_model.specs.State.{Over, Trace}
use Rattle.machine_model.specs.Step.{Finding, Holds, Breaks, Unknown, after_test, after_tests, quietly}
use Rattle.engine_state.specs.Tested.{Tested, untested, unless_ended, tested_trace, HasTested, tested_on, tested_then, found, TestsJoin}

none_more : (n : ℕ) → 0 + n ≡ n
none_more n = omega arith

none_after : (n : ℕ) → n + 0 ≡ n
none_after n = omega arith

plus_assoc : (a b c : ℕ) → a + (b + c) ≡ (a + b) + c
plus_assoc a b c = omega arith

-- no test
pub untested_trace : (next : Trace) → tested_trace untested next ≡ next
untested_trace next = λ i. record { events = next.events; tests = none_more next.tests i; phase = next.phase }

-- one test

one_found : (stops : Bool) (counts c : ℕ) (f : Finding) (next : Trace) → after_test stops counts c f next ≡ tested_trace (found stops counts c f) next
one_found stops counts c Holds next = refl
one_found true counts c Breaks next = sym (λ i. record { events = []; tests = none_after counts i; phase = Over (ending.Violated c) })
one_found false counts c Breaks next = refl
one_found stops counts c Unknown next = sym (λ i. record { events = []; tests = none_after counts i; phase = Over ending.Bound })

-- tests, and further ones

joined : (told : List ℕ) (tests : ℕ) (ended : Option Ending) (further : Tested) (next : Trace) →
    tested_trace (record { told = told; tests = tests; ended = ended }) (tested_trace further next) ≡ tested_trace (tested_on told tests ended further) next
joined told tests None further next =
    let rest = unless_ended further.ended next in
    let events : map Broken told ++ (map Broken further.told ++ rest.events) ≡ map Broken (told ++ further.told) ++ rest.events =
    sym (append_assoc (map Broken told) (map Broken further.told) rest.events) ∙ ap (λ es. es ++ rest.events) (sym (map-append Broken told further.told)) in
    λ i. record { events = events i; tests = plus_assoc tests further.tests rest.tests i; phase = rest.phase }
joined told tests (Some e) further next = refl

pub traces_joined : (r r' : Tested) (next : Trace) → tested_trace r (tested_trace r' next) ≡ tested_trace (tested_then r r') next
traces_joined r r' next = joined r.told r.tests r.ended r' next

module _ (stops : Bool) (counts : ℕ) (find : ℕ → Finding) where
  in_turn : (cs ds : List ℕ) (next : Trace) → after_tests stops counts find (cs ++ ds) next ≡ after_tests stops counts find cs (after_tests stops counts find ds next)
  in_turn [] ds next = refl
  in_turn (c ∷ cs) ds next = ap (after_test stops counts c (find c)) (in_turn cs ds next)

  both : (cs ds : List ℕ) (r r' : Tested) → HasTested stops counts find cs r → HasTested stops counts find ds r' → HasTested stops counts find (cs ++ ds) (tested_then r r')
  both cs ds r r' a b = record {
    is = λ next. in_turn cs ds next ∙ a.is (after_tests stops counts find ds next) ∙ ap (tested_trace r) (b.is next) ∙ traces_joined r r' next;
  }

  ended_trace : (r : Tested) (e : Ending) (one other : Trace) → r.ended ≡ Some e → tested_trace r one ≡ tested_trace r other
  ended_trace r e one other is =
      let same : unless_ended r.ended one ≡ unless_ended r.ended other = ap (λ o. unless_ended o one) is ∙ sym (ap (λ o. unless_ended o other) is) in
      λ i. record { events = map Broken r.told ++ (same i).events; tests = r.tests + (same i).tests; phase = (same i).phase }

  over : (cs ds : List ℕ) (r : Tested) (e : Ending) → r.ended ≡ Some e → HasTested stops counts find cs r → HasTested stops counts find (cs ++ ds) r
  over cs ds r e is a = record { is = λ next. in_turn cs ds next ∙ a.is (after_tests stops counts find ds next) ∙ ended_trace r e (after_tests stops counts find ds next) next is }

pub tests_join : TestsJoin
tests_join = record {
  none = λ stops counts find. record { is = λ next. sym (untested_trace next) };
  one = λ stops counts find c. record { is = λ next. one_found stops counts c (find c) next };
  both = both;
  over = over;
  traces = traces_joined;
}

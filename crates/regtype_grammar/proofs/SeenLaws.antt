-- The grammar names of types that are seen.
use Rattle.std.proofs.Common.{◌≡◌, ℕ, zero, suc, ◌+◌, ◌-◌, ◌<◌, ◌≤◌, nat_lt, nat_le, Bool, true, false, List, [], ◌∷◌, ◌++◌, map, length, refl, ap, ◌∙◌, arith}
use Rattle.std.specs.Prelude.{cond, filter, slice_get, slice_index_or}
use Rattle.std.specs.List.{list_all, AllByRecursion}
use Rattle.std.proofs.lemmas.Bool.{and_parts, false≢true}
use Rattle.std.proofs.lemmas.Bool.Decides.{nat_tests}
use Rattle.std.proofs.lemmas.List.{append_assoc}
use Rattle.term_core.specs.declared.fixed.TheConstants.{TERM, LIST}
use Rattle.prog_data.specs.declared.grammars.Seen.{Seen}
use Rattle.regtype_grammar.specs.declared.meanings.Meaning.{Meaning}
use Rattle.regtype_grammar.specs.declared.meanings.Meaning.TheVariants.{One, Unknown, Several}
use Rattle.regtype_grammar.specs.declared.modules.RegType.{RegType}
use Rattle.regtype_grammar.specs.declared.modules.SeenType.{SeenType}
use Rattle.regtype_grammar.specs.declared.modules.TypeModule.{TypeModule}
use Rattle.regtype_grammar.specs.TypeNames.{is_basic_type, is_basic_name, count_types, starts, first_names, number_of, are_few, numbered, meaning_of, is_named, meaning, IsMeaningBelow, MeaningsStayInRange, has_type_name, is_within, is_seen_in, are_seen}
use Rattle.regtype_grammar.specs.Grammars.{number}
use Rattle.regtype_grammar.proofs.EachLaws.{each_test, test_each, each_map, each_filter}

less : (a b : ℕ) → nat_lt a b ≡ true → a < b
less a b e = grind (arith, nat_tests, e)

at_most : (a b : ℕ) → nat_le a b ≡ true → a ≤ b
at_most a b e = grind (arith, nat_tests, e)

few : (a b : ℕ) → a < b → b ≤ 512 → nat_le a 512 ≡ true
few a b lt le = let most : a ≤ 512 = omega (arith, lt, le) in grind (arith, nat_tests, most)

-- the turn of the loop over modules
pub starts_turn : (firsts new : List ℕ) (n after k : ℕ) (m : TypeModule) (ms : List TypeModule) (all : List ℕ) → new ≡ firsts ++ n ∷ [] → after ≡ n + k → k ≡ length m.types → firsts ++ starts n (m ∷ ms) ≡ all
    → new ++ starts after ms ≡ all
starts_turn firsts new n after k m ms all pushed behind count whole =
    let same : after ≡ length m.types + n = omega (arith, behind, count) in
    ap (λ xs. xs ++ starts after ms) pushed ∙ append_assoc firsts (n ∷ []) (starts after ms) ∙ ap (λ j. firsts ++ n ∷ starts j ms) same ∙ whole

-- the turn of the loop over the types that are seen
pub numbered_turn : (firsts : List ℕ) (seen new : List Seen) (one : SeenType) (rest : List SeenType) (n : ℕ) (all : List Seen) → new ≡ seen ++ record { name = one.name; kind = n } ∷ [] → n ≡ number_of firsts one
    → seen ++ numbered firsts (one ∷ rest) ≡ all → new ++ numbered firsts rest ≡ all
numbered_turn firsts seen new one rest n all pushed is whole =
    ap (λ xs. xs ++ numbered firsts rest) pushed ∙ append_assoc seen (seen_as n ∷ []) (numbered firsts rest) ∙ ap (λ k. seen ++ seen_as k ∷ numbered firsts rest) is ∙ whole
  where
    seen_as : ℕ → Seen
    seen_as k = record { name = one.name; kind = k }

-- the turn of the loop over modules, with the types that each sees
pub all_numbered_turn : (firsts : List ℕ) (seen new : List (List Seen)) (one : TypeModule) (own : List Seen) (rest : List TypeModule) (all : List (List Seen)) → new ≡ seen ++ own ∷ [] → own ≡ numbered firsts one.visible
    → seen ++ map (λ m. numbered firsts m.visible) (one ∷ rest) ≡ all → new ++ map (λ m. numbered firsts m.visible) rest ≡ all
all_numbered_turn firsts seen new one own rest all pushed is whole =
    let later = map (λ m. numbered firsts m.visible) rest in
    ap (λ xs. xs ++ later) pushed ∙ append_assoc seen (own ∷ []) later ∙ ap (λ k. seen ++ k ∷ later) is ∙ whole

pub few_now : (firsts : List ℕ) (one : SeenType) (rest : List SeenType) → are_few firsts (one ∷ rest) ≡ true → number_of firsts one ≤ 512
few_now firsts one rest e = at_most (number_of firsts one) 512 (and_parts (nat_le (number_of firsts one) 512) (are_few firsts rest) e).0

pub few_later : (firsts : List ℕ) (one : SeenType) (rest : List SeenType) → are_few firsts (one ∷ rest) ≡ true → are_few firsts rest ≡ true
few_later firsts one rest e = (and_parts (nat_le (number_of firsts one) 512) (are_few firsts rest) e).1

-- a type of a module has a name behind the first one, and before the one that is behind all types
named_below : (name : ℕ) (ts : List RegType) (position : ℕ) → has_type_name name (slice_get ts position) ≡ true → position < length ts
named_below name [] position e = absurd (false≢true e)
named_below name (t ∷ ts) zero e = let some : 0 < suc (length ts) = omega arith in some
named_below name (t ∷ ts) (suc position) e = let rest : position < length ts = named_below name ts position e in let more : suc position < suc (length ts) = omega (arith, rest) in more

seen_below : (n : ℕ) (ms : List TypeModule) (k name position : ℕ) → is_within name position (slice_get ms k) ≡ true → slice_index_or (starts n ms) k 0 + position < n + count_types ms
seen_below n [] k name position e = absurd (false≢true e)
seen_below n (m ∷ ms) zero name position e = let own : position < length m.types = named_below name m.types position e in omega (arith, own)
seen_below n (m ∷ ms) (suc k) name position e =
    let rest : slice_index_or (starts (length m.types + n) ms) k 0 + position < (length m.types + n) + count_types ms = seen_below (length m.types + n) ms k name position e in omega (arith, rest)

-- where all types that are seen are types of the modules
module _ (modules : List TypeModule) (seen : are_seen modules ≡ true) where
  abbrev IsNumbered : SeenType → Type 0
  IsNumbered s = number_of (first_names modules) s < 10 + count_types modules

  number_below : (s : SeenType) → is_seen_in modules s ≡ true → IsNumbered s
  number_below s e = seen_below 10 modules s.module s.name s.position e

  pub numbers_below : AllByRecursion (λ m. AllByRecursion IsNumbered m.visible) modules
  numbers_below = test_each (λ m. AllByRecursion IsNumbered m.visible) (λ m. list_all (is_seen_in modules) m.visible) (λ m e. test_each IsNumbered (is_seen_in modules) number_below m.visible e) modules seen

  pub all_few : count_types modules + 10 ≤ 512 → list_all (λ m. are_few (first_names modules) m.visible) modules ≡ true
  all_few le =
      let most : 10 + count_types modules ≤ 512 = omega (arith, le) in
      each_test (λ m. AllByRecursion IsNumbered m.visible) (λ m. are_few (first_names modules) m.visible)
      (λ m h. each_test IsNumbered (λ s. nat_le (number_of (first_names modules) s) 512) (λ s lt. few (number_of (first_names modules) s) (10 + count_types modules) lt most) m.visible h) modules numbers_below

-- there are more than 502 types
pub too_many : (modules : List TypeModule) → 512 < count_types modules + 10 → 512 < 10 + count_types modules
too_many modules lt = omega (arith, lt)

-- what a name means is below a number
module _ (size : ℕ) (ten : 10 ≤ size) where
  basic_below : (name : ℕ) → is_basic_type name ≡ true → name - TERM < size
  basic_below name e =
      let le : name ≤ 71 = at_most name LIST (and_parts (nat_le TERM name) (nat_le name LIST) e).1 in
      let lt : name - 62 < size = omega (arith, le, ten) in
      lt

  several_below : (seen : List Seen) → AllByRecursion (λ s. s.kind < size) seen → IsMeaningBelow size (meaning_of seen)
  several_below [] h = tt
  several_below (s ∷ []) h = h.0
  several_below (s ∷ other ∷ rest) h = tt

  pub meaning_below : (seen : List Seen) (name : ℕ) → AllByRecursion (λ s. s.kind < size) seen → IsMeaningBelow size (meaning seen name)
  meaning_below seen name h = by (is_basic_name name) (is_basic_type name) refl
    where
      by : (b c : Bool) → is_basic_type name ≡ c → IsMeaningBelow size (cond b (cond c (One (name - TERM)) Unknown) (meaning_of (filter (is_named name) seen)))
      by true true e = basic_below name e
      by true false e = tt
      by false c e = several_below (filter (is_named name) seen) (each_filter (λ s. s.kind < size) (is_named name) seen h)

  number_at : (m : Meaning) → IsMeaningBelow size m → number m < size
  number_at (One n) h = h
  number_at Unknown h = omega (arith, ten)
  number_at Several h = omega (arith, ten)

  pub meant_below : (firsts : List ℕ) (visible : List SeenType) → AllByRecursion (λ s. number_of firsts s < size) visible → (name : ℕ) → number (meaning (numbered firsts visible) name) < size
  meant_below firsts visible h name =
      number_at (meaning (numbered firsts visible) name) (meaning_below (numbered firsts visible) name (each_map (λ s. s.kind < size) (λ s. record { name = s.name; kind = number_of firsts s }) visible h))

pub meanings_stay : MeaningsStayInRange
meanings_stay seen name size ten h = meaning_below size ten seen name h

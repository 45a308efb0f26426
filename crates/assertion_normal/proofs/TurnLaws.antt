-- Loops that add conditions, claims and entries.
use Rattle.std.proofs.Common.{◌≡◌, ℕ, suc, ◌+◌, ◌-◌, ◌<◌, ◌≤◌, Bool, true, false, List, [], ◌∷◌, ◌++◌, map, length, refl, ap, sym, ◌∙◌, arith}
use Rattle.std.specs.Prelude.{cond, Some, None}
use Rattle.std.proofs.lemmas.List.{append-nil, append_assoc, length-append, map-append}
use Rattle.term_core.proofs.OperandLaws.{none_part, some_part}
use Rattle.prog_data.specs.declared.conditions.Prop.{Prop}
use Rattle.prog_data.specs.declared.conditions.Cond.{Cond}
use Rattle.prog_data.specs.declared.conditions.CondKind.{CondKind}
use Rattle.prog_data.specs.declared.conditions.CondKind.TheVariants.{Calls}
use Rattle.prog_data.specs.declared.programs.Claim.{Claim}
use Rattle.prog_data.specs.declared.programs.Entry.{Entry}
use Rattle.assertion_normal.specs.declared.settling.Settled.{Settled}
use Rattle.assertion_normal.specs.Conditions.{adds_disjunct, disjuncts, own_kinds, numbers_from, first_line, entries_by, entries_of, condition, numbered, calls_conditions, conditions_from, claims_by, claims_from}

-- what is done, then a part of what is left, and then the others
pub done_turn : {A : Type 0} (done new part others all : List A) → new ≡ done ++ part → done ++ (part ++ others) ≡ all → new ++ others ≡ all
done_turn done new part others all is whole = ap (λ xs. xs ++ others) is ∙ append_assoc done part others ∙ whole

pub numbers_turn : (done new : List ℕ) (number to : ℕ) (all : List ℕ) → number < to → new ≡ done ++ number ∷ [] → done ++ numbers_from number (to - number) ≡ all → new ++ numbers_from (number + 1) (to - (number + 1)) ≡ all
numbers_turn done new number to all lt is whole =
    let left : to - number ≡ suc (to - (number + 1)) = omega (arith, lt) in
    let next : number + 1 ≡ suc number = omega arith in
    done_turn done new (number ∷ []) (numbers_from (number + 1) (to - (number + 1))) all is
    (ap (λ n. done ++ number ∷ numbers_from n (to - (number + 1))) next ∙ ap (λ k. done ++ numbers_from number k) (sym left) ∙ whole)

pub numbers_end : (done : List ℕ) (number to : ℕ) (all : List ℕ) → to ≤ number → done ++ numbers_from number (to - number) ≡ all → done ≡ all
numbers_end done number to all le whole =
    let nothing : to - number ≡ 0 = omega (arith, le) in
    sym (append-nil done) ∙ ap (λ k. done ++ numbers_from number k) (sym nothing) ∙ whole

module _ (file pred : ℕ) where
  pub length_numbered : (number line : ℕ) (kinds : List CondKind) → length (numbered file pred number line kinds) ≡ length kinds
  length_numbered number line [] = refl
  length_numbered number line (kind ∷ kinds) = ap suc (length_numbered (suc number) line kinds)

  pub numbered_append : (number line : ℕ) (xs ys : List CondKind) → numbered file pred number line (xs ++ ys) ≡ numbered file pred number line xs ++ numbered file pred (length xs + number) line ys
  numbered_append number line [] ys = let same : number ≡ 0 + number = omega arith in ap (λ n. numbered file pred n line ys) same
  numbered_append number line (x ∷ xs) ys =
      let same : length xs + suc number ≡ suc (length xs) + number = omega arith in
      ap (λ cs. condition file pred number line x ∷ cs) (numbered_append (suc number) line xs ys)
      ∙ ap (λ n. condition file pred number line x ∷ (numbered file pred (suc number) line xs ++ numbered file pred n line ys)) same

  -- one condition more of several
  pub condition_turn : (first line : ℕ) (done new all : List Cond) (kind : CondKind) (kinds : List CondKind) → new ≡ done ++ condition file pred (length done + first) line kind ∷ []
      → done ++ numbered file pred (length done + first) line (kind ∷ kinds) ≡ all → new ++ numbered file pred (length new + first) line kinds ≡ all
  condition_turn first line done new all kind kinds is whole =
      let count : length new ≡ length done + 1 = ap length is ∙ length-append done (condition file pred (length done + first) line kind ∷ []) in
      let next : length new + first ≡ suc (length done + first) = omega (arith, count) in
      done_turn done new (condition file pred (length done + first) line kind ∷ []) (numbered file pred (length new + first) line kinds) all is
      (ap (λ n. done ++ condition file pred (length done + first) line kind ∷ numbered file pred n line kinds) next ∙ whole)

  -- two lists of conditions one behind the other
  pub both_numbered : (first line : ℕ) (old mid new : List Cond) (xs ys : List CondKind) → mid ≡ old ++ numbered file pred (length old + first) line xs → new ≡ mid ++ numbered file pred (length mid + first) line ys
      → new ≡ old ++ numbered file pred (length old + first) line (xs ++ ys)
  both_numbered first line old mid new xs ys a b =
      let start = length old + first in
      let count : length mid ≡ length old + length (numbered file pred start line xs) = ap length a ∙ length-append old (numbered file pred start line xs) in
      let own : length (numbered file pred start line xs) ≡ length xs = length_numbered start line xs in
      let next : length mid + first ≡ length xs + (length old + first) = omega (arith, count, own) in
      b
      ∙ ap (λ n. mid ++ numbered file pred n line ys) next
      ∙ ap (λ cs. cs ++ numbered file pred (length xs + start) line ys) a
      ∙ append_assoc old (numbered file pred start line xs) (numbered file pred (length xs + start) line ys)
      ∙ ap (λ cs. old ++ cs) (sym (numbered_append start line xs ys))

  -- the number behind the conditions of an assertion
  pub number_behind_own : (first : ℕ) (done new : List Cond) (s : Settled) → new ≡ done ++ numbered file pred (length done + first) s.line (own_kinds s) → length new + first ≡ length (own_kinds s) + (length done + first)
  number_behind_own first done new s is =
      let count : length new ≡ length done + length (numbered file pred (length done + first) s.line (own_kinds s)) = ap length is ∙ length-append done (numbered file pred (length done + first) s.line (own_kinds s)) in
      let own : length (numbered file pred (length done + first) s.line (own_kinds s)) ≡ length (own_kinds s) = length_numbered (length done + first) s.line (own_kinds s) in
      omega (arith, count, own)

  pub conditions_turn : (first : ℕ) (done new all : List Cond) (s : Settled) (ss : List Settled) → new ≡ done ++ numbered file pred (length done + first) s.line (own_kinds s)
      → done ++ conditions_from file pred (length done + first) (s ∷ ss) ≡ all → new ++ conditions_from file pred (length new + first) ss ≡ all
  conditions_turn first done new all s ss is whole =
      done_turn done new (numbered file pred (length done + first) s.line (own_kinds s)) (conditions_from file pred (length new + first) ss) all is
      (ap (λ n. done ++ (numbered file pred (length done + first) s.line (own_kinds s) ++ conditions_from file pred n ss)) (number_behind_own first done new s is) ∙ whole)

  pub claims_turn : (first from to : ℕ) (conds after : List Cond) (done new all : List Claim) (s : Settled) (ss : List Settled) → from ≡ length conds + first → to ≡ length after + first
      → after ≡ conds ++ numbered file pred (length conds + first) s.line (own_kinds s) → new ≡ done ++ claims_by file pred first from (to - from) s.line s.keyword
      → done ++ claims_from file pred first (length conds + first) (s ∷ ss) ≡ all → new ++ claims_from file pred first (length after + first) ss ≡ all
  claims_turn first from to conds after done new all s ss start end own is whole =
      let behind : length after + first ≡ length (own_kinds s) + (length conds + first) = number_behind_own first conds after s own in
      let count : to - from ≡ length (own_kinds s) = omega (arith, start, end, behind) in
      done_turn done new (claims_by file pred first from (to - from) s.line s.keyword) (claims_from file pred first (length after + first) ss) all is
      (ap (λ k. done ++ (claims_by file pred first from k s.line s.keyword ++ claims_from file pred first (length after + first) ss)) count
      ∙ ap (λ n. done ++ (claims_by file pred first n (length (own_kinds s)) s.line s.keyword ++ claims_from file pred first (length after + first) ss)) start
      ∙ ap (λ n. done ++ (claims_by file pred first (length conds + first) (length (own_kinds s)) s.line s.keyword ++ claims_from file pred first n ss)) behind
      ∙ whole)

  -- the calls condition, by the line of the first disjunct
  pub calls_none : (first : ℕ) (ds : List Settled) → first_line ds ≡ None → [] ≡ calls_conditions file pred first ds
  calls_none first [] e = refl
  calls_none first (s ∷ ss) e = absurd (none_part s.line (sym e))

  pub calls_some : (first line : ℕ) (ds : List Settled) → first_line ds ≡ Some line → condition file pred first line (Calls (map (λ t. t.pre) ds)) ∷ [] ≡ calls_conditions file pred first ds
  calls_some first line [] e = absurd (none_part line e)
  calls_some first line (s ∷ ss) e = ap (λ l. condition file pred first l (Calls (map (λ t. t.pre) (s ∷ ss))) ∷ []) (sym (some_part s.line line e))

pub entries_turn : (pred : ℕ) (done new all : List Entry) (s : Settled) (ss : List Settled) → new ≡ done ++ entries_by pred s.pre s.keyword → done ++ entries_of pred (s ∷ ss) ≡ all → new ++ entries_of pred ss ≡ all
entries_turn pred done new all s ss is whole = done_turn done new (entries_by pred s.pre s.keyword) (entries_of pred ss) all is whole

-- disjuncts one after the other

first_of : (s : Settled) (ss : List Settled) → disjuncts (s ∷ ss) ≡ disjuncts (s ∷ []) ++ disjuncts ss
first_of s ss = by (adds_disjunct s.keyword)
  where
    by : (b : Bool) → cond b (s ∷ disjuncts ss) (disjuncts ss) ≡ cond b (s ∷ []) [] ++ disjuncts ss
    by true = refl
    by false = refl

pub disjuncts_turn : (done new all : List (List Prop)) (s : Settled) (ss : List Settled) → new ≡ done ++ map (λ t. t.pre) (disjuncts (s ∷ [])) → done ++ map (λ t. t.pre) (disjuncts (s ∷ ss)) ≡ all → new ++ map (λ t. t.pre) (disjuncts ss) ≡ all
disjuncts_turn done new all s ss is whole =
    done_turn done new (map (λ t. t.pre) (disjuncts (s ∷ []))) (map (λ t. t.pre) (disjuncts ss)) all is
    (ap (λ ps. done ++ ps) (sym (map-append (λ t. t.pre) (disjuncts (s ∷ [])) (disjuncts ss))) ∙ ap (λ ds. done ++ map (λ t. t.pre) ds) (sym (first_of s ss)) ∙ whole)

pub adds_one : (s : Settled) → adds_disjunct s.keyword ≡ true → s.pre ∷ [] ≡ map (λ t. t.pre) (disjuncts (s ∷ []))
adds_one s e = ap (λ b. map (λ t. t.pre) (cond b (s ∷ []) [])) (sym e)

pub adds_none : (s : Settled) → adds_disjunct s.keyword ≡ false → [] ≡ map (λ t. t.pre) (disjuncts (s ∷ []))
adds_none s e = ap (λ b. map (λ t. t.pre) (cond b (s ∷ []) [])) (sym e)

-- Tokens are sentences or have a fault, and are a goal or have one: it is not so that there is neither.
use Rattle.std.proofs.Common.{arith, ◌≡◌, ◌<◌, ◌≤◌, ◌⊎◌, inl, inr, ℕ, zero, suc, List, [], ◌∷◌, length, refl, ap, ◌∙◌, Bool, true, false}
use Rattle.std.specs.Prelude.{◌||◌, Option, Some, None}
use Rattle.std.specs.List.{list_any}
use Rattle.std.proofs.lemmas.Bool.{cases_lt}
use Rattle.term_core.specs.declared.terms.Term.{Term}
use Rattle.term_core.specs.declared.operators.Operators.{Operators}
use Rattle.term_core.specs.Operators.{greatest_priority}
use Rattle.ciao_tokens.specs.declared.kinds.Token.{Token}
use Rattle.ciao_reader.specs.Roles.{variable_count}
use Rattle.ciao_reader.specs.Readings.{Reads, depth}
use Rattle.ciao_reader.specs.Changes.{table_after}
use Rattle.ciao_reader.specs.Sentences.{is_end, Splits, IsAlone, line_of, depth_limit, beyond, IsSentence, ReadsAll, none, next, IsGoal}
use Rattle.ciao_reader.specs.Faults.{IsDeep, IsBeyond, IsWrong, Fails, FirstFault, FailsAsGoal}
use Rattle.ciao_reader.specs.declared.sentences.Sentence.{Sentence}
use Rattle.ciao_reader.specs.declared.sentences.ReadFault.{ReadFault}
use Rattle.ciao_reader.specs.declared.sentences.ReadFault.TheVariants.{IntRange, Syntax, TooDeep, OpRefused, NoEnd}

-- the first end of tokens, if any

record FirstEnd (tokens : List Token) : Type 0 where
  inner : List Token
  rest : List Token
  splits : Splits tokens inner rest
  shorter : length rest < length tokens

first_end : (tokens : List Token) → FirstEnd tokens ⊎ (list_any is_end tokens ≡ false)
first_end [] = inr refl
first_end (t ∷ ts) = by (is_end t) refl (first_end ts)
  where
    by : (b : Bool) → is_end t ≡ b → FirstEnd ts ⊎ (list_any is_end ts ≡ false) → FirstEnd (t ∷ ts) ⊎ (list_any is_end (t ∷ ts) ≡ false)
    by true e f = inl (record { inner = []; rest = ts; splits = record { end = t; ends = e; first = refl; whole = refl }; shorter = omega arith })
    by false e (inl f) = inl (record {
      inner = t ∷ f.inner;
      rest = f.rest;
      splits = record { end = f.splits.end; ends = f.splits.ends; first = ap (λ b. b || list_any is_end f.inner) e ∙ f.splits.first; whole = ap (λ xs. t ∷ xs) f.splits.whole };
      shorter = omega (arith, f.shorter);
    })
    by false e (inr f) = inr (ap (λ b. b || list_any is_end ts) e ∙ f)

some_left : (t : Token) (ts : List Token) → (t ∷ ts) ≡ [] → ⊥
some_left t ts e = cc

module _ (names : List (List ℕ)) where
  -- one sentence

  -- what has a derivation is too deep, has a number beyond the integers, or is a sentence
  abbrev IsRead : Operators → List Token → Type 0
  IsRead ops ts = IsDeep names ops ts ⊎ (((line : ℕ) × IsBeyond names ops ts line) ⊎ ((s : Sentence) × IsSentence names ops ts s))

  is_read : (ops : Operators) (ts : List Token) (t : Term) → Reads names ops ts greatest_priority t → IsRead ops ts
  is_read ops ts t r = by (cases_lt depth_limit (depth r.tree))
    where
      in_range : depth r.tree ≤ depth_limit → (o : Option ℕ) → beyond names ops ts ≡ o → IsRead ops ts
      in_range l (Some line) e = inr (inl (line, record { term = t; reads = r; shallow = l; first = e }))
      in_range l None e = inr (inr (record { term = t; line = line_of ts; vars = variable_count names ts }, record { reads = r; shallow = l; in_range = e; line = refl; vars = refl }))

      by : (depth_limit < depth r.tree) ⊎ (depth r.tree ≤ depth_limit) → IsRead ops ts
      by (inl m) = inl (record { term = t; reads = r; deep = m })
      by (inr l) = in_range l (beyond names ops ts) refl

  every_sentence : (ops : Operators) (ts : List Token) (first : ℕ) → ((s : Sentence) (after : Operators) → IsSentence names ops ts s → table_after names ops s.term ≡ Some after → ⊥)
      → ((f : ReadFault) → IsWrong names ops ts first f → ⊥) → ⊥
  every_sentence ops ts first unread free = free (Syntax first) ((λ t r. by (is_read ops ts t r)), refl)
    where
      changed : (s : Sentence) → IsSentence names ops ts s → (o : Option Operators) → table_after names ops s.term ≡ o → ⊥
      changed s is (Some after) e = unread s after is e
      changed s is None e = free (OpRefused first) (record { sentence = s; is = is; refused = e }, refl)

      by : IsRead ops ts → ⊥
      by (inl d) = free (TooDeep first) (d, refl)
      by (inr (inl (line, b))) = free (IntRange line) b
      by (inr (inr (s, is))) = changed s is (table_after names ops s.term) refl

  -- all sentences

  abbrev Unread : Operators → List Token → Type 0
  Unread ops tokens = (ss : List Sentence) (last : Operators) → ReadsAll names ops tokens ss last → ⊥

  abbrev Free : Operators → List Token → Type 0
  Free ops tokens = (f : ReadFault) → FirstFault names ops tokens f → ⊥

  fails_with : (ops : Operators) (left : List Token) (f : ReadFault) (e : FirstEnd left) → IsWrong names ops e.inner (line_of left) f → Fails names ops left f
  fails_with ops left (NoEnd line) e w = absurd w
  fails_with ops left other e w = record { inner = e.inner; rest = e.rest; splits = e.splits; wrong = w }

  fails_here : (ops : Operators) (left : List Token) (f : ReadFault) → Fails names ops left f → FirstFault names ops left f
  fails_here ops left f w = record { sentences = []; left = left; now = ops; reads = none refl refl; fails = w }

  one_more : (ops : Operators) (tokens : List Token) (e : FirstEnd tokens) → Unread ops tokens → Free ops tokens → ((after : Operators) → Unread after e.rest → Free after e.rest → ⊥) → ⊥
  one_more ops tokens e unread free go_on = every_sentence ops e.inner (line_of tokens) sentence (λ f w. free f (fails_here ops tokens f (fails_with ops tokens f e w)))
    where
      later : (s : Sentence) (after : Operators) → IsSentence names ops e.inner s → table_after names ops s.term ≡ Some after → (f : ReadFault) → FirstFault names after e.rest f → FirstFault names ops tokens f
      later s after is change f w = record { sentences = s ∷ w.sentences; left = w.left; now = w.now; reads = next after e.inner e.rest s e.splits is change w.reads; fails = w.fails }

      sentence : (s : Sentence) (after : Operators) → IsSentence names ops e.inner s → table_after names ops s.term ≡ Some after → ⊥
      sentence s after is change = go_on after (λ ss last r. unread (s ∷ ss) last (next after e.inner e.rest s e.splits is change r)) (λ f w. free f (later s after is change f w))

  endless : (ops : Operators) (tokens : List Token) → list_any is_end tokens ≡ false → Unread ops tokens → Free ops tokens → ⊥
  endless ops [] e unread free = unread [] ops (none refl refl)
  endless ops (t ∷ ts) e unread free = free (NoEnd t.line) (fails_here ops (t ∷ ts) (NoEnd t.line) (record { some = some_left t ts; endless = e; line_is = refl }))

  every_within : (n : ℕ) (ops : Operators) (tokens : List Token) → length tokens ≤ n → Unread ops tokens → Free ops tokens → ⊥
  every_within zero ops tokens l unread free = by (first_end tokens)
    where
      by : FirstEnd tokens ⊎ (list_any is_end tokens ≡ false) → ⊥
      by (inl e) = omega (arith, l, e.shorter)
      by (inr e) = endless ops tokens e unread free
  every_within (suc n) ops tokens l unread free = by (first_end tokens) (every_within n)
    where
      by : FirstEnd tokens ⊎ (list_any is_end tokens ≡ false) → ((next_ops : Operators) (rest : List Token) → length rest ≤ n → Unread next_ops rest → Free next_ops rest → ⊥) → ⊥
      by (inl e) within = one_more ops tokens e unread free (λ after. within after e.rest (omega (arith, l, e.shorter)))
      by (inr e) within = endless ops tokens e unread free

  pub every_source : (ops : Operators) (tokens : List Token) → ((ss : List Sentence) (last : Operators) → ReadsAll names ops tokens ss last → ⊥) → ((f : ReadFault) → FirstFault names ops tokens f → ⊥) → ⊥
  every_source ops tokens = every_within (length tokens) ops tokens (omega arith)

  -- goals

  pub every_goal : (ops : Operators) (tokens : List Token) → ((s : Sentence) → IsGoal names ops tokens s → ⊥) → ((f : ReadFault) → FailsAsGoal names ops tokens f → ⊥) → ⊥
  every_goal ops tokens unread free = free (Syntax (line_of tokens)) ((λ ts alone t r. by ts alone (is_read ops ts t r)), refl)
    where
      by : (ts : List Token) → IsAlone tokens ts → IsRead ops ts → ⊥
      by ts alone (inl d) = free (TooDeep (line_of tokens)) (record { inner = ts; alone = alone; wrong = (d, refl) })
      by ts alone (inr (inl (line, b))) = free (IntRange line) (record { inner = ts; alone = alone; wrong = b })
      by ts alone (inr (inr (s, is))) = unread s (record { inner = ts; alone = alone; is = is })

-- Tokens are at most one list of sentences, or have one first fault; and so for a goal.
use Rattle.std.proofs.Common.{◌≡◌, ◌⊎◌, inl, inr, ℕ, List, [], ◌∷◌, ◌++◌, refl, ap, sym, ◌∙◌, subst}
use Rattle.std.specs.Prelude.{Some}
use Rattle.term_core.specs.declared.operators.Operators.{Operators}
use Rattle.term_core.specs.Standard.{IsMade}
use Rattle.ciao_tokens.specs.declared.kinds.Token.{Token}
use Rattle.ciao_reader.specs.Changes.{table_after}
use Rattle.ciao_reader.specs.Sentences.{Splits, IsAlone, line_of, IsSentence, ReadsTo, none, next, IsGoal}
use Rattle.ciao_reader.specs.Faults.{HasNone, IsWrong, LacksEnd, Begins, Fails, FirstFault, AloneWrong, FailsAsGoal}
use Rattle.ciao_reader.specs.declared.sentences.Sentence.{Sentence}
use Rattle.ciao_reader.specs.declared.sentences.ReadFault.{ReadFault}
use Rattle.ciao_reader.specs.declared.sentences.ReadFault.TheVariants.{Syntax, OpRefused, NoEnd}
use Rattle.ciao_reader.proofs.OneSentence.{one_split, no_split, one_alone, one_sentence, sentence_wrong, none_wrong, one_wrong, some_same, none_some}
use Rattle.ciao_reader.proofs.MadeAfter.{made_after}

module _ (names : List (List ℕ)) where
  -- no sentence can be read on
  abbrev pub Stops : Operators → List Token → Type 0
  Stops ops left = (ts rest : List Token) (s : Sentence) (after : Operators) → Splits left ts rest → IsSentence names ops ts s → table_after names ops s.term ≡ Some after → ⊥

  stops_from : {ops last : Operators} {tokens left : List Token} → ops ≡ last → tokens ≡ left → Stops last left → Stops ops tokens
  stops_from {ops = ops} {left = left} e f a = subst (Stops ops) (sym f) (subst (λ o. Stops o left) (sym e) a)

  reads_from : {l : List Token} {last : Operators} {ss : List Sentence} (ops other : Operators) (tokens left : List Token) → ops ≡ other → tokens ≡ left → ReadsTo names l last ops tokens ss → ReadsTo names l last other left ss
  reads_from {l} {last} {ss} ops other tokens left e f r = subst (λ x. ReadsTo names l last other x ss) f (subst (λ o. ReadsTo names l last o tokens ss) e r)

  with_first : (s u : Sentence) (ss us : List Sentence) → s ≡ u → ss ≡ us → (s ∷ ss) ≡ (u ∷ us)
  with_first s u ss us e f = λ i. e i ∷ f i

  -- two ways to read end at one place
  pub one_stop : {l m : List Token} {last final : Operators} {tokens : List Token} {ops : Operators} {ss us : List Sentence} → IsMade ops → ReadsTo names l last ops tokens ss → ReadsTo names m final ops tokens us
      → Stops last l → Stops final m → (ss ≡ us) × (l ≡ m) × (last ≡ final)
  one_stop made (none e f) (none g h) a b = (refl, sym f ∙ h, sym e ∙ g)
  one_stop made (none e f) (next after ts rest s splits is change r) a b = absurd (stops_from e f a ts rest s after splits is change)
  one_stop made (next after ts rest s splits is change r) (none g h) a b = absurd (stops_from g h b ts rest s after splits is change)
  one_stop {tokens = tokens} {ops = ops} made (next after ts rest s splits is change r) (next later us more u splits' is' change' q) a b =
      let (i, j) = one_split tokens ts us rest more splits splits' in
      let same : s ≡ u = one_sentence names ops made us s u (subst (λ x. IsSentence names ops x s) i is) is' in
      let now : after ≡ later = some_same after later (sym change ∙ ap (λ (x : Sentence). table_after names ops x.term) same ∙ change') in
      let (k, l, o) = one_stop (made_after names ops made u.term later change') (reads_from after later rest more now j r) q a b in
      (with_first s u _ _ same k, l, o)

  nothing_left : (ts : List Token) (e : Token) (rest : List Token) → [] ≡ (ts ++ (e ∷ rest)) → ⊥
  nothing_left [] e rest f = cc
  nothing_left (t ∷ ts) e rest f = cc

  pub end_stops : (ops : Operators) → Stops ops []
  end_stops ops ts rest s after splits is change = nothing_left ts splits.end rest splits.whole

  -- a fault is that no end comes, or one of the first sentence
  fail_cases : (ops : Operators) (left : List Token) (f : ReadFault) → Fails names ops left f → ((line : ℕ) × (f ≡ NoEnd line) × LacksEnd left line) ⊎ Begins names ops left f
  fail_cases ops left (NoEnd line) w = inl (line, refl, w)
  fail_cases ops left other w = inr w

  wrong_at : (ops : Operators) (left ts rest : List Token) (f : ReadFault) → Splits left ts rest → (b : Begins names ops left f) → IsWrong names ops ts (line_of left) f
  wrong_at ops left ts rest f s b = subst (λ x. IsWrong names ops x (line_of left) f) (one_split left b.inner ts b.rest rest b.splits s).0 b.wrong

  pub fail_stops : (ops : Operators) (left : List Token) (f : ReadFault) → IsMade ops → Fails names ops left f → Stops ops left
  fail_stops ops left f made w ts rest s after splits is change = by (fail_cases ops left f w)
    where
      by : ((line : ℕ) × (f ≡ NoEnd line) × LacksEnd left line) ⊎ Begins names ops left f → ⊥
      by (inl (line, e, lacks)) = no_split left ts rest lacks.endless splits
      by (inr b) = none_some after (sentence_wrong names ops made ts s is (line_of left) f (wrong_at ops left ts rest f splits b)).0 change

  one_fail : (ops : Operators) (left : List Token) (f g : ReadFault) → IsMade ops → Fails names ops left f → Fails names ops left g → f ≡ g
  one_fail ops left f g made w v = by (fail_cases ops left f w) (fail_cases ops left g v)
    where
      by : ((line : ℕ) × (f ≡ NoEnd line) × LacksEnd left line) ⊎ Begins names ops left f → ((line : ℕ) × (g ≡ NoEnd line) × LacksEnd left line) ⊎ Begins names ops left g → f ≡ g
      by (inl (line, e, a)) (inl (other, d, b)) = e ∙ ap NoEnd (a.line_is ∙ sym b.line_is) ∙ sym d
      by (inl (line, e, a)) (inr b) = absurd (no_split left b.inner b.rest a.endless b.splits)
      by (inr a) (inl (line, e, b)) = absurd (no_split left a.inner a.rest b.endless a.splits)
      by (inr a) (inr b) = one_wrong names ops made a.inner (line_of left) f g a.wrong (wrong_at ops left a.inner a.rest g a.splits b)

  made_to : {left : List Token} {last : Operators} {tokens : List Token} {ops : Operators} {ss : List Sentence} → IsMade ops → ReadsTo names left last ops tokens ss → IsMade last
  made_to made (none e f) = subst IsMade e made
  made_to {ops = ops} made (next after ts rest s splits is change r) = made_to (made_after names ops made s.term after change) r

  pub no_first_fault : (ops last : Operators) (tokens : List Token) (ss : List Sentence) (f : ReadFault) → IsMade ops → ReadsTo names [] last ops tokens ss → FirstFault names ops tokens f → ⊥
  no_first_fault ops last tokens ss f made r w = by (fail_cases w.now w.left f w.fails)
    where
      same : [] ≡ w.left
      same = (one_stop made r w.reads (end_stops last) (fail_stops w.now w.left f (made_to made w.reads) w.fails)).1

      by : ((line : ℕ) × (f ≡ NoEnd line) × LacksEnd w.left line) ⊎ Begins names w.now w.left f → ⊥
      by (inl (line, e, lacks)) = lacks.some (sym same)
      by (inr b) = nothing_left b.inner b.splits.end b.rest (same ∙ b.splits.whole)

  pub one_first_fault : (ops : Operators) (tokens : List Token) (f g : ReadFault) → IsMade ops → FirstFault names ops tokens f → FirstFault names ops tokens g → f ≡ g
  one_first_fault ops tokens f g made w v =
      let there = made_to made w.reads in
      let (_, place, now) = one_stop made w.reads v.reads (fail_stops w.now w.left f there w.fails) (fail_stops v.now v.left g (made_to made v.reads) v.fails) in
      one_fail w.now w.left f g there w.fails (subst (λ x. Fails names x w.left g) (sym now) (subst (λ x. Fails names v.now x g) (sym place) v.fails))

  -- goals

  pub one_goal : (ops : Operators) (tokens : List Token) (s u : Sentence) → IsMade ops → IsGoal names ops tokens s → IsGoal names ops tokens u → s ≡ u
  one_goal ops tokens s u made a b = one_sentence names ops made b.inner s u (subst (λ x. IsSentence names ops x s) (one_alone tokens a.inner b.inner a.alone b.alone) a.is) b.is

  alone_at : (ops : Operators) (tokens ts : List Token) (f : ReadFault) → IsAlone tokens ts → (w : AloneWrong names ops tokens f) → IsWrong names ops ts (line_of tokens) f
  alone_at ops tokens ts f a w = subst (λ x. IsWrong names ops x (line_of tokens) f) (one_alone tokens w.inner ts w.alone a) w.wrong

  -- no reading at all, or a fault of the one sentence
  abbrev GoalCases : Operators → List Token → ReadFault → Type 0
  GoalCases ops tokens f = ((f ≡ Syntax (line_of tokens)) × ((ts : List Token) → IsAlone tokens ts → HasNone names ops ts)) ⊎ AloneWrong names ops tokens f

  goal_cases : (ops : Operators) (tokens : List Token) (f : ReadFault) → FailsAsGoal names ops tokens f → GoalCases ops tokens f
  goal_cases ops tokens (Syntax line) w = inl (ap Syntax w.1, w.0)
  goal_cases ops tokens (OpRefused line) w = absurd w
  goal_cases ops tokens other w = inr w

  not_refused : (ops : Operators) (tokens : List Token) (f : ReadFault) (line : ℕ) → FailsAsGoal names ops tokens f → f ≡ OpRefused line → ⊥
  not_refused ops tokens f line w e = subst (FailsAsGoal names ops tokens) e w

  pub no_goal_fault : (ops : Operators) (tokens : List Token) (s : Sentence) (f : ReadFault) → IsMade ops → IsGoal names ops tokens s → FailsAsGoal names ops tokens f → ⊥
  no_goal_fault ops tokens s f made a w = by (goal_cases ops tokens f w)
    where
      by : GoalCases ops tokens f → ⊥
      by (inl (e, n)) = n a.inner a.alone s.term a.is.reads
      by (inr b) =
          let found = (sentence_wrong names ops made a.inner s a.is (line_of tokens) f (alone_at ops tokens a.inner f a.alone b)).1 in
          not_refused ops tokens f found.0 w found.1

  pub one_goal_fault : (ops : Operators) (tokens : List Token) (f g : ReadFault) → IsMade ops → FailsAsGoal names ops tokens f → FailsAsGoal names ops tokens g → f ≡ g
  one_goal_fault ops tokens f g made w v = by (goal_cases ops tokens f w) (goal_cases ops tokens g v)
    where
      by : GoalCases ops tokens f → GoalCases ops tokens g → f ≡ g
      by (inl a) (inl b) = a.0 ∙ sym b.0
      by (inl a) (inr b) = a.0 ∙ sym (none_wrong names ops made b.inner (a.1 b.inner b.alone) (line_of tokens) g b.wrong)
      by (inr a) (inl b) = none_wrong names ops made a.inner (b.1 a.inner a.alone) (line_of tokens) f a.wrong ∙ sym b.0
      by (inr a) (inr b) = one_wrong names ops made a.inner (line_of tokens) f g a.wrong (alone_at ops tokens a.inner g a.alone b)

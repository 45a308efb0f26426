-- The sentences of a text, and a goal, are in range of the names after it.
use Rattle.std.proofs.Common.{arith, ◌≡◌, ◌≤◌, ◌<◌, ◌⊎◌, ℕ, zero, suc, ◌+◌, true, List, [], ◌∷◌, ◌++◌, length, inl, inr, refl, sym, ap, ◌∙◌, subst}
use Rattle.std.proofs.lemmas.List.{length-append}
use Rattle.std.specs.List.{AllByRecursion}
use Rattle.term_core.specs.declared.fixed.TheConstants as fixed
use Rattle.term_core.specs.Names.{fixed_names}
use Rattle.term_core.specs.Lists.{IsPrefix}
use Rattle.term_core.specs.Terms.{vars}
use Rattle.term_core.specs.Ranges.{has_names, IsInRange, RangesStay}
use Rattle.term_core.specs.declared.operators.Operators.{Operators}
use Rattle.ciao_tokens.specs.Tokens.{HasTokens}
use Rattle.ciao_tokens.specs.Ranges.{IsNamedBelow, AreNamedBelow, TokensAreNamed}
use Rattle.ciao_tokens.specs.declared.kinds.Token.{Token}
use Rattle.ciao_reader.specs.Laws.{below}
use Rattle.ciao_reader.specs.Sentences.{Splits, IsAlone, IsSentence, ReadsTo, none, next, IsGoal, HasSentences, HasGoal}
use Rattle.ciao_reader.specs.Ranges.{IsSentenceInRange, SentencesAreInRange, GoalsAreInRange}
use Rattle.ciao_reader.specs.declared.sentences.Sentence.{Sentence}
use Rattle.ciao_reader.specs.declared.sentences.Source.{Source}
use Rattle.ciao_reader.proofs.Numbering.{numbered_from_zero}
use Rattle.ciao_reader.proofs.RangedTerms.{all_parts, read_named}

all_joined : {A : Type 0} (P : A → Type 0) (xs ys : List A) → AllByRecursion P xs → AllByRecursion P ys → AllByRecursion P (xs ++ ys)
all_joined P [] ys h k = k
all_joined P (x ∷ xs) ys h k = (h.0, all_joined P xs ys h.1 k)

below_all : (n m : ℕ) → n ≤ m → AllByRecursion (λ x. x < m) (below n)
below_all zero m le = tt
below_all (suc n) m le = all_joined (λ x. x < m) (below n) (n ∷ []) (below_all n m (omega (arith, le))) (omega (arith, le), tt)

module _ (stay : RangesStay) (names : List (List ℕ)) (enough : fixed.BAR < length names) where
  -- a sentence of tokens in range
  sentence_ranged : (ops : Operators) (ts : List Token) (s : Sentence) → AreNamedBelow (length names) ts → IsSentence names ops ts s → IsSentenceInRange (length names) s
  sentence_ranged ops ts s named is = record {
    named = subst (λ t. has_names (length names) t ≡ true) is.reads.meaning (read_named (length names) enough names ops ts is.reads.tree named is.reads.derives.spans is.reads.derives.allowed);
    below = stay.numbered s.vars s.term (subst (AllByRecursion (λ x. x < s.vars)) (sym (numbered_from_zero names ops ts s is)) (below_all s.vars s.vars (omega arith)));
  }

  -- the tokens before an end and behind it
  split_named : (tokens ts rest : List Token) → Splits tokens ts rest → AreNamedBelow (length names) tokens → AreNamedBelow (length names) ts × AreNamedBelow (length names) rest
  split_named tokens ts rest splits named =
      let parts = all_parts (λ t. IsNamedBelow (length names) t.kind) ts (splits.end ∷ rest) (subst (AreNamedBelow (length names)) splits.whole named) in
      (parts.0, parts.1.1)

  sentences_ranged : {left : List Token} {last ops : Operators} {tokens : List Token} {ss : List Sentence} → ReadsTo names left last ops tokens ss → AreNamedBelow (length names) tokens → AllByRecursion (IsSentenceInRange (length names)) ss
  sentences_ranged (none o t) named = tt
  sentences_ranged {ops = ops} {tokens = tokens} (next after ts rest s splits is table reads) named =
      let parts = split_named tokens ts rest splits named in
      (sentence_ranged ops ts s parts.0 is, sentences_ranged reads parts.1)

  goal_ranged : (ops : Operators) (tokens : List Token) (s : Sentence) → AreNamedBelow (length names) tokens → IsGoal names ops tokens s → IsSentenceInRange (length names) s
  goal_ranged ops tokens s named goal = sentence_ranged ops goal.inner s (by goal.alone) goal.is
    where
      by : IsAlone tokens goal.inner → AreNamedBelow (length names) goal.inner
      by (inl splits) = (split_named tokens goal.inner [] splits named).0
      by (inr same) = subst (AreNamedBelow (length names)) same.0 named

-- names that begin with the fixed ones, and more, are enough
enough_names : (before after : List (List ℕ)) → IsPrefix fixed_names before → IsPrefix before after → fixed.BAR < length after
enough_names before after fixed_first first =
    let p : _ = ap length (sym fixed_first.1) ∙ length-append fixed_names fixed_first.0 in
    let q : _ = ap length (sym first.1) ∙ length-append before first.0 in
    omega (arith, p, q)

module _ (stay : RangesStay) (tokens_named : TokensAreNamed) where
  pub sentences_in_range : SentencesAreInRange
  sentences_in_range bytes before after source fixed_first has =
      let tokens = tokens_named bytes before after has.tokens has.has in
      sentences_ranged stay after (enough_names before after fixed_first tokens.0) has.reads tokens.1

  pub goals_in_range : GoalsAreInRange
  goals_in_range ops bytes before after goal fixed_first has =
      let tokens = tokens_named bytes before after has.tokens has.has in
      goal_ranged stay after (enough_names before after fixed_first tokens.0) ops has.tokens goal tokens.1 has.is

-- Tokens are at most one sentence, or have one fault as one.
use Rattle.std.proofs.Common.{arith, ◌≡◌, ◌<◌, ◌≤◌, inl, inr, ℕ, List, [], ◌∷◌, ◌++◌, refl, ap, sym, ◌∙◌, subst, Bool, true, false}
use Rattle.std.specs.Prelude.{◌||◌, Option, Some, None}
use Rattle.std.specs.List.{list_any}
use Rattle.term_core.specs.declared.terms.Term.{Term}
use Rattle.term_core.specs.declared.operators.Operators.{Operators}
use Rattle.term_core.specs.Standard.{IsMade}
use Rattle.ciao_tokens.specs.declared.kinds.Token.{Token}
use Rattle.ciao_reader.specs.Readings.{Reads, term_of, depth}
use Rattle.ciao_reader.specs.Changes.{table_after}
use Rattle.ciao_reader.specs.Sentences.{is_end, Splits, IsAlone, depth_limit, IsSentence}
use Rattle.ciao_reader.specs.Faults.{HasNone, IsDeep, IsBeyond, IsRefused, IsWrong}
use Rattle.ciao_reader.specs.declared.sentences.Sentence.{Sentence}
use Rattle.ciao_reader.specs.declared.sentences.ReadFault.{ReadFault}
use Rattle.ciao_reader.specs.declared.sentences.ReadFault.TheVariants.{IntRange, Syntax, TooDeep, OpRefused}
use Rattle.ciao_reader.proofs.OneTree.{one_tree}
use Rattle.term_core.proofs.OperatorTables.{made_one_root}
use Rattle.term_core.specs.Operators.{greatest_priority}

-- tokens have one first end

true_false : {b : Bool} → b ≡ true → b ≡ false → ⊥
true_false e f = cc

or_parts : (b c : Bool) → (b || c) ≡ false → (b ≡ false) × (c ≡ false)
or_parts false c e = (refl, e)
or_parts true c e = absurd (true_false refl e)

head_same : (t u : Token) (ts us : List Token) → (t ∷ ts) ≡ (u ∷ us) → t ≡ u
head_same t u ts us e = cc

tail_same : (t u : Token) (ts us : List Token) → (t ∷ ts) ≡ (u ∷ us) → ts ≡ us
tail_same t u ts us e = cc

one_front : (ts us : List Token) (e d : Token) (rest more : List Token) → (ts ++ (e ∷ rest)) ≡ (us ++ (d ∷ more)) → is_end e ≡ true → is_end d ≡ true
    → list_any is_end ts ≡ false → list_any is_end us ≡ false → (ts ≡ us) × (rest ≡ more)
one_front [] [] e d rest more same a b f g = (refl, tail_same e d rest more same)
one_front [] (u ∷ us) e d rest more same a b f g = absurd (true_false (ap is_end (sym (head_same e u rest (us ++ (d ∷ more)) same)) ∙ a) (or_parts _ _ g).0)
one_front (t ∷ ts) [] e d rest more same a b f g = absurd (true_false (ap is_end (head_same t d (ts ++ (e ∷ rest)) more same) ∙ b) (or_parts _ _ f).0)
one_front (t ∷ ts) (u ∷ us) e d rest more same a b f g =
    let (i, j) = one_front ts us e d rest more (tail_same t u _ _ same) a b (or_parts _ _ f).1 (or_parts _ _ g).1 in
    (ap (λ x. x ∷ ts) (head_same t u _ _ same) ∙ ap (λ xs. u ∷ xs) i, j)

pub one_split : (tokens ts us rest more : List Token) → Splits tokens ts rest → Splits tokens us more → (ts ≡ us) × (rest ≡ more)
one_split tokens ts us rest more a b = one_front ts us a.end b.end rest more (sym a.whole ∙ b.whole) a.ends b.ends a.first b.first

some_end : (ts : List Token) (e : Token) (rest : List Token) → is_end e ≡ true → list_any is_end (ts ++ (e ∷ rest)) ≡ true
some_end [] e rest a = ap (λ b. b || list_any is_end rest) a
some_end (t ∷ ts) e rest a = by (is_end t) (some_end ts e rest a)
  where
    by : (b : Bool) → list_any is_end (ts ++ (e ∷ rest)) ≡ true → (b || list_any is_end (ts ++ (e ∷ rest))) ≡ true
    by true f = refl
    by false f = f

pub no_split : (tokens ts rest : List Token) → list_any is_end tokens ≡ false → Splits tokens ts rest → ⊥
no_split tokens ts rest e a = true_false (ap (list_any is_end) a.whole ∙ some_end ts a.end rest a.ends) e

pub one_alone : (tokens ts us : List Token) → IsAlone tokens ts → IsAlone tokens us → ts ≡ us
one_alone tokens ts us (inl a) (inl b) = (one_split tokens ts us [] [] a b).0
one_alone tokens ts us (inl a) (inr b) = absurd (no_split tokens ts [] (ap (list_any is_end) b.0 ∙ b.1) a)
one_alone tokens ts us (inr a) (inl b) = absurd (no_split tokens us [] (ap (list_any is_end) a.0 ∙ a.1) b)
one_alone tokens ts us (inr a) (inr b) = sym a.0 ∙ b.0

-- they have one reading

pub some_same : {X : Type 0} (x y : X) → Some x ≡ Some y → x ≡ y
some_same x y e = cc

pub none_some : {X : Type 0} {o : Option X} (x : X) → o ≡ None → o ≡ Some x → ⊥
none_some x e f = cc

same_sentence : (s u : Sentence) → s.term ≡ u.term → s.line ≡ u.line → s.vars ≡ u.vars → s ≡ u
same_sentence s u a b c = λ i. record { term = a i; line = b i; vars = c i }

module _ (names : List (List ℕ)) (ops : Operators) (made : IsMade ops) (ts : List Token) where
  one_read : {t u : Term} (r : Reads names ops ts greatest_priority t) (q : Reads names ops ts greatest_priority u) → r.tree ≡ q.tree
  one_read r q = one_tree ops (made_one_root ops made) _ r.tree q.tree r.derives q.derives

  pub one_sentence : (s u : Sentence) → IsSentence names ops ts s → IsSentence names ops ts u → s ≡ u
  one_sentence s u a b = same_sentence s u (sym a.reads.meaning ∙ ap term_of (one_read a.reads b.reads) ∙ b.reads.meaning) (a.line ∙ sym b.line) (a.vars ∙ sym b.vars)

  not_deep : {t u : Term} (r : Reads names ops ts greatest_priority t) (q : Reads names ops ts greatest_priority u) → depth r.tree ≤ depth_limit → depth_limit < depth q.tree → ⊥
  not_deep r q l m = omega (arith, m, subst (λ x. depth x ≤ depth_limit) (one_read r q) l)

  -- a sentence has no fault but its change of the operators
  pub sentence_wrong : (s : Sentence) → IsSentence names ops ts s → (first : ℕ) (f : ReadFault) → IsWrong names ops ts first f → (table_after names ops s.term ≡ None) × ((line : ℕ) × (f ≡ OpRefused line))
  sentence_wrong s a first (Syntax line) w = absurd (w.0 s.term a.reads)
  sentence_wrong s a first (TooDeep line) w = absurd (not_deep a.reads w.0.reads a.shallow w.0.deep)
  sentence_wrong s a first (IntRange line) w = absurd (none_some line a.in_range w.first)
  sentence_wrong s a first (OpRefused line) w = (ap (λ (x : Sentence). table_after names ops x.term) (one_sentence s w.0.sentence a w.0.is) ∙ w.0.refused, (line, refl))
  sentence_wrong s a first other w = absurd w

  -- where there is no reading the fault is Syntax
  pub none_wrong : HasNone names ops ts → (first : ℕ) (f : ReadFault) → IsWrong names ops ts first f → f ≡ Syntax first
  none_wrong n first (Syntax line) w = ap Syntax w.1
  none_wrong n first (TooDeep line) w = absurd (n w.0.term w.0.reads)
  none_wrong n first (IntRange line) w = absurd (n w.term w.reads)
  none_wrong n first (OpRefused line) w = absurd (n w.0.sentence.term w.0.is.reads)
  none_wrong n first other w = absurd w

  deep_wrong : IsDeep names ops ts → (first : ℕ) (f : ReadFault) → IsWrong names ops ts first f → f ≡ TooDeep first
  deep_wrong d first (Syntax line) w = absurd (w.0 d.term d.reads)
  deep_wrong d first (TooDeep line) w = ap TooDeep w.1
  deep_wrong d first (IntRange line) w = absurd (not_deep w.reads d.reads w.shallow d.deep)
  deep_wrong d first (OpRefused line) w = absurd (not_deep w.0.is.reads d.reads w.0.is.shallow d.deep)
  deep_wrong d first other w = absurd w

  beyond_wrong : (at : ℕ) → IsBeyond names ops ts at → (first : ℕ) (f : ReadFault) → IsWrong names ops ts first f → f ≡ IntRange at
  beyond_wrong at b first (Syntax line) w = absurd (w.0 b.term b.reads)
  beyond_wrong at b first (TooDeep line) w = absurd (not_deep b.reads w.0.reads b.shallow w.0.deep)
  beyond_wrong at b first (IntRange line) w = ap IntRange (some_same line at (sym w.first ∙ b.first))
  beyond_wrong at b first (OpRefused line) w = absurd (none_some at w.0.is.in_range b.first)
  beyond_wrong at b first other w = absurd w

  refused_wrong : IsRefused names ops ts → (first : ℕ) (f : ReadFault) → IsWrong names ops ts first f → f ≡ OpRefused first
  refused_wrong r first (OpRefused line) w = ap OpRefused w.1
  refused_wrong r first (Syntax line) w = absurd (w.0 r.sentence.term r.is.reads)
  refused_wrong r first (TooDeep line) w = absurd (not_deep r.is.reads w.0.reads r.is.shallow w.0.deep)
  refused_wrong r first (IntRange line) w = absurd (none_some line r.is.in_range w.first)
  refused_wrong r first other w = absurd w

  pub one_wrong : (first : ℕ) (f g : ReadFault) → IsWrong names ops ts first f → IsWrong names ops ts first g → f ≡ g
  one_wrong first (Syntax line) g w v = ap Syntax w.1 ∙ sym (none_wrong w.0 first g v)
  one_wrong first (TooDeep line) g w v = ap TooDeep w.1 ∙ sym (deep_wrong w.0 first g v)
  one_wrong first (IntRange line) g w v = sym (beyond_wrong line w first g v)
  one_wrong first (OpRefused line) g w v = ap OpRefused w.1 ∙ sym (refused_wrong w.0 first g v)
  one_wrong first other g w v = absurd w

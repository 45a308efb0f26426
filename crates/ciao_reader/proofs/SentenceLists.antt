-- One sentence more, and the fault of the next one.
use Rattle.std.proofs.Common.{◌≡◌, ◌≢◌, ℕ, List, [], ◌∷◌, ◌++◌, refl, ap, sym, ◌∙◌, subst, false}
use Rattle.std.specs.Prelude.{Some}
use Rattle.std.specs.List.{list_any}
use Rattle.term_core.specs.declared.operators.Operators.{Operators}
use Rattle.ciao_tokens.specs.declared.kinds.Token.{Token}
use Rattle.ciao_reader.specs.Changes.{table_after}
use Rattle.ciao_reader.specs.Sentences.{is_end, line_of, Splits, IsSentence, ReadsTo, none, next}
use Rattle.ciao_reader.specs.Faults.{IsWrongOr, FirstFault, FirstFaultOr}
use Rattle.ciao_reader.specs.declared.sentences.Sentence.{Sentence}
use Rattle.ciao_reader.specs.declared.sentences.ReadFault.{ReadFault}
use Rattle.ciao_reader.specs.declared.sentences.ReadFault.TheVariants.{IntRange, Syntax, TooDeep, OpRefused, NoEnd, NoMemory}

module _ (names : List (List ℕ)) where
  pub reads_on : {left : List Token} {now : Operators} {tokens : List Token} {ops : Operators} {ss : List Sentence} (after : Operators) (ts rest : List Token) (s : Sentence)
      → ReadsTo names left now ops tokens ss → Splits left ts rest → IsSentence names now ts s → table_after names now s.term ≡ Some after → ReadsTo names rest after ops tokens (ss ++ s ∷ [])
  reads_on after ts rest s (none e f) splits is change =
      next after ts rest s (subst (λ x. Splits x ts rest) (sym f) splits) (subst (λ o. IsSentence names o ts s) (sym e) is) (ap (λ o. table_after names o s.term) e ∙ change) (none refl refl)
  reads_on after ts rest s (next later us more u splits' is' change' r) splits is change = next later us more u splits' is' change' (reads_on after ts rest s r splits is change)

  -- the fault of the next sentence is the first one
  pub wrong_first : {left : List Token} {now : Operators} {tokens : List Token} {ops : Operators} {ss : List Sentence} (ts rest : List Token) (f : ReadFault)
      → ReadsTo names left now ops tokens ss → Splits left ts rest → IsWrongOr names now ts (line_of left) f → FirstFaultOr names ops tokens f
  wrong_first ts rest NoMemory r splits w = tt
  wrong_first {left} {now} {ss = ss} ts rest (Syntax line) r splits w = record { sentences = ss; left = left; now = now; reads = r; fails = record { inner = ts; rest = rest; splits = splits; wrong = w } }
  wrong_first {left} {now} {ss = ss} ts rest (TooDeep line) r splits w = record { sentences = ss; left = left; now = now; reads = r; fails = record { inner = ts; rest = rest; splits = splits; wrong = w } }
  wrong_first {left} {now} {ss = ss} ts rest (IntRange line) r splits w = record { sentences = ss; left = left; now = now; reads = r; fails = record { inner = ts; rest = rest; splits = splits; wrong = w } }
  wrong_first {left} {now} {ss = ss} ts rest (OpRefused line) r splits w = record { sentences = ss; left = left; now = now; reads = r; fails = record { inner = ts; rest = rest; splits = splits; wrong = w } }
  wrong_first ts rest other r splits w = absurd w

  pub end_lacks : {left : List Token} {now : Operators} {tokens : List Token} {ops : Operators} {ss : List Sentence} (line : ℕ) → ReadsTo names left now ops tokens ss → left ≢ [] → list_any is_end left ≡ false → line ≡ line_of left
      → FirstFault names ops tokens (NoEnd line)
  end_lacks {left} {now} {ss = ss} line r some endless e = record { sentences = ss; left = left; now = now; reads = r; fails = record { some = some; endless = endless; line_is = e } }

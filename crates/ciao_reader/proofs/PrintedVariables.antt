-- The variables of what is printed: those of a readable term have 64 bits, and the text of each is that of a token.
use Rattle.std.proofs.Common.{◌≡◌, ℕ, ◌^◌, ◌<◌, true, List, [], ◌∷◌, ◌++◌, map, refl, sym, ◌∙◌, subst}
use Rattle.std.specs.Prelude.{flat_map, bytes_eq}
use Rattle.std.specs.List.{list_all, AllByRecursion}
use Rattle.std.proofs.lemmas.Bool.{and_parts, or_left, or_right, ltb-true}
use Rattle.std.proofs.lemmas.Slice.Eq.{bytes_eq-Decides}
use Rattle.term_core.specs.Terms.{occurrences, occurrences_step}
use Rattle.term_core.specs.declared.terms.Term.{Term}
use Rattle.term_core.proofs.TermFolds.{fold-Var, fold-Int, fold-Node, ind_terms}
use Rattle.ciao_tokens.specs.Tokens as tokens
use Rattle.ciao_reader.specs.declared.words.Word.{Word}
use Rattle.ciao_reader.specs.declared.words.Word.TheVariants as word
use Rattle.ciao_reader.specs.ReadingBack.{is_readable, readable_step}
use Rattle.ciao_reader.proofs.Numbering.{numbers_in, at_node, at_atom}
use Rattle.ciao_reader.proofs.PrintedNames.{is_there}
use Rattle.ciao_reader.proofs.PrintedWords.{Spaced, blank, one_word, words_in, variable_text, shape_of, pieces_of}

all_append : {X : Type 0} (P : X → Type 0) (xs ys : List X) → AllByRecursion P xs → AllByRecursion P ys → AllByRecursion P (xs ++ ys)
all_append P [] ys at_xs at_ys = at_ys
all_append P (x ∷ xs) ys at_xs at_ys = (at_xs.0, all_append P xs ys at_xs.1 at_ys)

pub all_both : {X : Type 0} (P Q : X → Type 0) (xs : List X) → AllByRecursion P xs → AllByRecursion Q xs → AllByRecursion (λ x. P x × Q x) xs
all_both P Q [] at_p at_q = tt
all_both P Q (x ∷ xs) at_p at_q = ((at_p.0, at_q.0), all_both P Q xs at_p.1 at_q.1)

pub all_map : {X : Type 0} {P Q : X → Type 0} (f : (x : X) → P x → Q x) (xs : List X) → AllByRecursion P xs → AllByRecursion Q xs
all_map f [] at_p = tt
all_map f (x ∷ xs) at_p = (f x at_p.0, all_map f xs at_p.1)

-- 64 bits

abbrev pub Is64Bits : ℕ → Type 0
Is64Bits v = v < 2 ^ 64

module _ (count : ℕ) where
  abbrev Small : Term → Type 0
  Small t = is_readable count t ≡ true → AllByRecursion Is64Bits (occurrences t)

  small_in_all : (ts : List Term) → AllByRecursion Small ts → list_all (λ part. part) (map (is_readable count) ts) ≡ true → AllByRecursion Is64Bits (flat_map occurrences ts)
  small_in_all [] each readable = tt
  small_in_all (t ∷ ts) each readable =
      let parts = and_parts _ _ readable in
      all_append Is64Bits (occurrences t) (flat_map occurrences ts) (each.0 parts.0) (small_in_all ts each.1 parts.1)

  pub variables_small : (t : Term) → Small t
  variables_small = ind_terms Small
      (λ v readable. subst (AllByRecursion Is64Bits) (sym (fold-Var (List ℕ) occurrences_step v)) (ltb-true _ _ (sym (fold-Var _ (readable_step count) v) ∙ readable), tt))
      (λ n readable. subst (AllByRecursion Is64Bits) (sym (fold-Int (List ℕ) occurrences_step n)) tt)
      (λ a readable. subst (AllByRecursion Is64Bits) (sym (at_atom a)) tt)
      (λ f ts each readable. subst (AllByRecursion Is64Bits) (sym (at_node f ts))
      (small_in_all ts each (and_parts _ _ (and_parts _ _ (sym (fold-Node _ (readable_step count) f ts) ∙ readable)).1).1))

-- texts

there_behind : (text : List ℕ) (front texts : List (List ℕ)) → is_there text texts ≡ true → is_there text (front ++ texts) ≡ true
there_behind text [] texts there = there
there_behind text (t ∷ ts) texts there = or_right (bytes_eq text t) _ (there_behind text ts texts there)

module _ (names : List (List ℕ)) where
  abbrev pub IsSpelled : List Spaced → ℕ → Type 0
  IsSpelled bs v = is_there (variable_text v) (tokens.words (pieces_of names bs)) ≡ true

  spelled_behind : (w : Word) (bs : List Spaced) (v : ℕ) → IsSpelled bs v → IsSpelled (one_word w ∷ bs) v
  spelled_behind w bs v there = there_behind (variable_text v) (tokens.words_of (shape_of names w)) _ there

  -- the text of each variable in the words is that of one of their tokens
  pub each_spelled : (bs : List Spaced) → AllByRecursion (IsSpelled bs) (numbers_in (words_in bs))
  each_spelled [] = tt
  each_spelled (blank ∷ bs) = each_spelled bs
  each_spelled (one_word (word.Variable v) ∷ bs) =
      (or_left _ _ ((bytes_eq-Decides (variable_text v) (variable_text v)).1 refl), all_map (spelled_behind (word.Variable v) bs) (numbers_in (words_in bs)) (each_spelled bs))
  each_spelled (one_word w ∷ bs) = all_map (spelled_behind w bs) (numbers_in (words_in bs)) (each_spelled bs)

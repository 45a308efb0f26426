-- What is printed of a term with quotes is read again as that term.
use Rattle.std.proofs.Common.{◌≡◌, ◌≤◌, ℕ, inr, Bool, true, false, not, List, [], ◌∷◌, length, drop, refl, sym, ap, ◌∙◌, subst, true≢false}
use Rattle.std.specs.Prelude.{◌&&◌, ◌||◌, nat_eq, Some, None, if◌then◌else◌}
use Rattle.std.specs.List.{position_or_len, AllByRecursion}
use Rattle.std.proofs.lemmas.Bool.{and_parts}
use Rattle.term_core.specs.Lists.{IsPrefix}
use Rattle.term_core.specs.Standard.{IsMade}
use Rattle.term_core.specs.Terms.{instance, with_all_new}
use Rattle.term_core.specs.declared.terms.Term.{Term}
use Rattle.term_core.specs.declared.terms.Term as term
use Rattle.term_core.specs.declared.operators.Operators.{Operators}
use Rattle.term_core.specs.Operators.{greatest_priority}
use Rattle.ciao_tokens.specs.Pieces.{Piece, Cut}
use Rattle.ciao_tokens.specs.Tokens as tokens
use Rattle.ciao_tokens.specs.Tokens.{names_with, has_mark, without_mark, start_of, tokens_from, HasTokens}
use Rattle.ciao_tokens.specs.declared.kinds.Token.{Token}
use Rattle.ciao_tokens.specs.Written.{WrittenIsRead}
use Rattle.ciao_reader.specs.declared.sentences.Sentence.{Sentence}
use Rattle.ciao_reader.specs.declared.words.Word.{Word}
use Rattle.ciao_reader.specs.Derivations.{Tree, words, fits}
use Rattle.ciao_reader.specs.Readings.{term_of, Reads}
use Rattle.ciao_reader.specs.Roles.{roles, variable_count}
use Rattle.ciao_reader.specs.Sentences.{is_large, is_sign, large_line, line_of, beyond}
use Rattle.ciao_reader.specs.ReadingBack.{AreNames, is_readable, numbered_from_zero, IsShallow, IsReadAs, ReadsBack}
use Rattle.ciao_reader.proofs.Numbering.{numbers_in, same_numbers}
use Rattle.ciao_reader.proofs.PrintedNames.{each_there}
use Rattle.ciao_reader.proofs.PrintedTokens.{spelling, same_roles, no_end}
use Rattle.ciao_reader.proofs.PrintedNumbers.{IsTold, words_numbered}
use Rattle.ciao_reader.proofs.PrintedTrees.{tree_of}
use Rattle.ciao_reader.proofs.PrintedVariables.{all_both, all_map, Is64Bits, IsSpelled, variables_small, each_spelled}
use Rattle.ciao_reader.proofs.PrintedCut.{spaced_cut, bits_utf8, spaced_unmarked, spaced_in_range}
use Rattle.ciao_reader.proofs.PrintedCutApart.{spaced_apart}
use Rattle.ciao_reader.proofs.PrintedRoles.{printed_roles}
use Rattle.ciao_reader.proofs.PrintedTerms.{printed_means, printed_fits, printed_priority, printed_guarded, printed_text, printed_within, printed_none_large}
use Rattle.ciao_reader.proofs.PrintedTermsWords.{words_in_spaced}
use Rattle.ciao_reader.proofs.PrintedWords.{spaced, are_apart, are_within, bytes_of, pieces_of, is_bare, tokens_of, has_none_large, variable_text}
use Rattle.ciao_reader.proofs.RenumberedTrees.{renumbered, renumbered_words, words_renumbered, none_large_renumbered, priority_renumbered, fits_renumbered, term_renumbered}

-- where no 2^63 lacks its sign, there is no line of one
no_large_line : (signed : Bool) (ws : List Word) (ts : List Token) → has_none_large signed ws ≡ true → large_line signed ws ts ≡ None
no_large_line signed [] ts none = refl
no_large_line signed (w ∷ ws) [] none = refl
no_large_line signed (w ∷ ws) (t ∷ ts) none =
    ap (λ b. if b then Some t.line else large_line (is_sign w) ws ts) (not_both (is_large w) signed (and_parts _ _ none).0) ∙ no_large_line (is_sign w) ws ts (and_parts _ _ none).1
  where
    not_both : (b c : Bool) → (not b || c) ≡ true → (b && not c) ≡ false
    not_both true true e = refl
    not_both true false e = absurd (true≢false (sym e))
    not_both false c e = refl

-- a readable text is a goal

module _ (written : WrittenIsRead) (names : List (List ℕ)) (ops : Operators) (t : Term) (are : AreNames names) (made : IsMade ops) (readable : is_readable (length names) t ≡ true) where
  abbrev tree : Tree
  tree = tree_of ops t

  abbrev pieces : List Piece
  pieces = pieces_of names (spaced tree)

  abbrev bytes : List ℕ
  bytes = bytes_of names (spaced tree)

  abbrev after : List (List ℕ)
  after = names_with names pieces

  abbrev read : List Token
  read = tokens_from after (start_of bytes) pieces (without_mark bytes)

  begins : IsPrefix names after
  begins = written.kept names pieces

  named : are_within (length names) (spaced tree) ≡ true
  named = printed_within names ops t are made readable

  apart : are_apart (spaced tree) ≡ true
  apart = spaced_apart ops tree (printed_guarded names ops t are made readable)

  unmarked : has_mark bytes ≡ false
  unmarked = spaced_unmarked written names are.texts (length names) (spaced tree) apart named

  means : term_of tree ≡ t
  means = printed_means names ops t are made readable

  has_tokens : HasTokens bytes names after read
  has_tokens = record {
    utf8 = bits_utf8 written names are.texts (spaced tree);
    pieces = pieces;
    cut = subst (Cut pieces) (sym (ap (λ b. if b then drop 3 bytes else bytes) unmarked)) (spaced_cut written names are.texts (length names) (spaced tree) apart named);
    range = spaced_in_range names (length names) (spaced tree) named;
    named = refl;
    are = refl;
  }

  -- the variables and their numbers

  told : AllByRecursion (IsTold after) (numbers_in (words tree))
  told = all_both Is64Bits _ (numbers_in (words tree))
      (subst (AllByRecursion Is64Bits) (same_numbers tree) (variables_small (length names) (term_of tree) (subst (λ u. is_readable (length names) u ≡ true) (sym means) readable)))
      (all_map (λ v there. each_there (variable_text v) names (tokens.words pieces) there) (numbers_in (words tree))
      (subst (λ ws. AllByRecursion (IsSpelled names (spaced tree)) (numbers_in ws)) (words_in_spaced tree) (each_spelled names (spaced tree))))

  abbrev number : ℕ → ℕ
  number v = position_or_len (nat_eq v) (with_all_new [] (numbers_in (words tree)))

  means_numbered : term_of (renumbered number tree) ≡ numbered_from_zero t
  means_numbered =
      term_renumbered number tree
      ∙ ap (λ ns. instance (λ v. term.Var (position_or_len (nat_eq v) (with_all_new [] ns))) (term_of tree)) (sym (same_numbers tree))
      ∙ ap numbered_from_zero means

  -- the roles are the words with these numbers

  fitting : fits ops tree ≡ true
  fitting = printed_fits names ops t are made readable

  roles_are : roles after ops read ≡ renumbered_words number (words tree)
  roles_are =
      same_roles names after are begins ops (start_of bytes) (spaced tree) (without_mark bytes) named
      ∙ ap (λ b. roles after ops (tokens_of (spelling after) (is_bare names) false b (spaced tree))) unmarked
      ∙ printed_roles after ops (spelling after) (is_bare names) tree fitting (printed_guarded names ops t are made readable)
      ∙ words_numbered after (words tree) told

  reads : Reads after ops read greatest_priority (numbered_from_zero t)
  reads = record {
    tree = renumbered number tree;
    derives = record {
      spans = words_renumbered number tree ∙ sym roles_are;
      allowed = fits_renumbered number ops tree ∙ fitting;
      within = subst (λ p. p ≤ greatest_priority) (sym (priority_renumbered number ops tree)) (printed_priority names ops t are made readable);
    };
    meaning = means_numbered;
  }

  in_range : beyond after ops read ≡ None
  in_range = no_large_line false (roles after ops read) read (ap (has_none_large false) roles_are ∙ none_large_renumbered number false (words tree) ∙ printed_none_large names ops t are made readable)

  abbrev goal : Sentence
  goal = record { term = numbered_from_zero t; vars = variable_count after read; line = line_of read }

  read_as : IsShallow ops bytes names → IsReadAs ops bytes names t
  read_as shallow = record {
    after = after;
    goal = goal;
    has = record {
      tokens = read;
      has = has_tokens;
      is = record {
        inner = read;
        alone = inr (refl, no_end names after are begins (start_of bytes) (spaced tree) (without_mark bytes) named apart);
        is = record { reads = reads; shallow = shallow after read (numbered_from_zero t) has_tokens reads; in_range = in_range; line = refl; vars = refl };
      };
    };
    same = refl;
  }

pub reads_back : WrittenIsRead → ReadsBack
reads_back written names ops t are made readable shallow =
    subst (λ text. IsShallow ops text names → IsReadAs ops text names t) (printed_text names ops t are made readable) (read_as written names ops t are made readable) shallow

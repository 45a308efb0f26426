-- What is printed of a term with quotes is the text of a derivation that means the term, fits, is guarded and has its names and numbers in range.
use Rattle.std.proofs.Common.{◌≡◌, ◌≤◌, ℕ, List, [], ◌∷◌, map, length, ap, sym, ◌∙◌, subst, Bool, true, false}
use Rattle.std.specs.Prelude.{nat_le}
use Rattle.std.specs.List.{list_all, AllByRecursion}
use Rattle.std.proofs.lemmas.Bool.{and_parts}
use Rattle.std.proofs.lemmas.List.{length-map}
use Rattle.term_core.specs.Printing.{Shown, shown_step, Printed}
use Rattle.term_core.specs.OperatorLaws.{IsOrderly}
use Rattle.term_core.specs.Standard.{IsMade}
use Rattle.term_core.specs.declared.operators.Operators.{Operators}
use Rattle.term_core.specs.declared.terms.Term.{Term}
use Rattle.term_core.specs.declared.terms.Term as term
use Rattle.term_core.proofs.OperatorTables.{made_orderly}
use Rattle.term_core.proofs.TermFolds.{fold-Var, fold-Int, fold-Atom, fold-Node, ind_terms}
use Rattle.ciao_reader.specs.Derivations.{words, priority, fits}
use Rattle.ciao_reader.specs.Readings.{term_of}
use Rattle.ciao_reader.specs.ReadingBack.{AreNames, readable_step, is_readable}
use Rattle.ciao_reader.proofs.PrintedTrees.{Derived, derived_step, tree_of, is_guarded}
use Rattle.ciao_reader.proofs.PrintedWords.{spaced, bytes_of, are_within, has_none_large}
use Rattle.ciao_reader.proofs.PrintedTermsForm.{priority_within, formed_fits, formed_guarded, formed_within, formed_none_large}
use Rattle.ciao_reader.proofs.PrintedTermsCases.{Agrees, variable_agrees, integer_agrees, atom_agrees}
use Rattle.ciao_reader.proofs.PrintedTermsCompounds.{IsShown, shows, derives, compound_agrees}

module _ (names : List (List ℕ)) (ops : Operators) (are : AreNames names) (orderly : IsOrderly ops) where
  abbrev readable : Term → Bool
  readable = is_readable (length names)

  agrees_at : (t : Term) (s : Shown) (d : Derived) → shows names ops t ≡ s → derives names ops t ≡ d → Agrees names ops t s d → IsShown names ops t
  agrees_at t s d e f a = subst (λ u. Agrees names ops t u (derives names ops t)) (sym e) (subst (λ u. Agrees names ops t s u) (sym f) a)

  -- the parts of a readable compound
  parts_shown : (ts : List Term) → AllByRecursion (λ t. readable t ≡ true → IsShown names ops t) ts → list_all (λ b. b) (map readable ts) ≡ true → AllByRecursion (IsShown names ops) ts
  parts_shown [] h e = tt
  parts_shown (t ∷ ts) h e = (h.0 (and_parts _ _ e).0, parts_shown ts h.1 (and_parts _ _ e).1)

  node_shown : (f : ℕ) (ts : List Term) → AllByRecursion (λ t. readable t ≡ true → IsShown names ops t) ts → readable (term.Node f ts) ≡ true → IsShown names ops (term.Node f ts)
  node_shown f ts h e =
      let whole = and_parts _ _ (sym (fold-Node Bool (readable_step (length names)) f ts) ∙ e) in
      let parts = and_parts _ _ whole.1 in
      let counts = and_parts _ _ parts.0 in
      agrees_at (term.Node f ts) _ _ (fold-Node Shown (shown_step names ops true) f ts) (fold-Node Derived (derived_step ops) f ts)
      (compound_agrees names ops f ts (parts_shown ts h parts.1) whole.0 (ap (nat_le 1) (sym (length-map ts readable)) ∙ counts.0) (ap (λ n. nat_le n 255) (sym (length-map ts readable)) ∙ counts.1))

  every_term_shown : (t : Term) → readable t ≡ true → IsShown names ops t
  every_term_shown = ind_terms (λ t. readable t ≡ true → IsShown names ops t)
      (λ v e. agrees_at (term.Var v) _ _ (fold-Var Shown (shown_step names ops true) v) (fold-Var Derived (derived_step ops) v)
      (variable_agrees names ops v (sym (fold-Var Bool (readable_step (length names)) v) ∙ e)))
      (λ n e. agrees_at (term.Int n) _ _ (fold-Int Shown (shown_step names ops true) n) (fold-Int Derived (derived_step ops) n)
      (integer_agrees names ops n (sym (fold-Int Bool (readable_step (length names)) n) ∙ e)))
      (λ a e. agrees_at (term.Atom a) _ _ (fold-Atom Shown (shown_step names ops true) a) (fold-Atom Derived (derived_step ops) a)
      (atom_agrees names ops are.begin orderly a (sym (fold-Atom Bool (readable_step (length names)) a) ∙ e)))
      node_shown

module _ (names : List (List ℕ)) (ops : Operators) (t : Term) (are : AreNames names) (made : IsMade ops) (readable : is_readable (length names) t ≡ true) where
  agrees : IsShown names ops t
  agrees = every_term_shown names ops are (made_orderly ops made) t readable

  pub printed_means : term_of (tree_of ops t) ≡ t
  printed_means = agrees.meaning

  pub printed_fits : fits ops (tree_of ops t) ≡ true
  printed_fits = formed_fits ops (made_orderly ops made) (length names) (tree_of ops t) agrees.formed

  pub printed_priority : priority ops (tree_of ops t) ≤ 1200
  printed_priority = priority_within ops (made_orderly ops made) (tree_of ops t)

  pub printed_guarded : is_guarded ops (tree_of ops t) ≡ true
  printed_guarded = formed_guarded ops (length names) (tree_of ops t) agrees.formed

  pub printed_text : bytes_of names (spaced (tree_of ops t)) ≡ Printed names ops true t
  printed_text = sym agrees.text

  pub printed_within : are_within (length names) (spaced (tree_of ops t)) ≡ true
  printed_within = formed_within ops (length names) (tree_of ops t) agrees.formed

  pub printed_none_large : has_none_large false (words (tree_of ops t)) ≡ true
  printed_none_large = formed_none_large ops (length names) (tree_of ops t) agrees.formed

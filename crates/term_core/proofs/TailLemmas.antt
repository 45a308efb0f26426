-- What stands behind the items of a list before a tail that is neither the empty list nor a list cell.
use Rattle.std.proofs.Common.{◌≡◌, ℕ, ◌==◌, Bool, true, false, List, [], ◌∷◌, ◌++◌, map, refl, ap, sym, ◌∙◌, subst, arith}
use Rattle.std.specs.Prelude.{if◌then◌else◌, Option, Some, None, codes}
use Rattle.std.proofs.lemmas.Bool.Decides.{nat_tests}
use Rattle.term_core.specs.declared.fixed.TheConstants.{NIL, CELL, BRACES}
use Rattle.term_core.specs.declared.operators.Op.{Op}
use Rattle.term_core.specs.declared.operators.Operators.{Operators}
use Rattle.term_core.specs.declared.terms.Term.{Term, out-Term, roll-Term, roll-out-Term}
use Rattle.term_core.specs.declared.terms.Term.TheOpen as layer
use Rattle.term_core.specs.declared.terms.Term.TheVariants.{rolls-Var, rolls-Int, rolls-Atom, rolls-Node}
use Rattle.term_core.specs.Operators.{prefix_of, infix_of}
use Rattle.term_core.specs.Printing.{Shown, shown_of, shown_step, at_argument, after_bar, atom_text, atom_shown, plain_shown, cell_shown, call_shown, prefix_text, compound_shown, one_shown, two_shown}
use Rattle.term_core.specs.Shapes.{is_pair}
use Rattle.term_core.specs.Terms.{is_atom_of}
use Rattle.term_core.proofs.TermFolds.{fold-Var, fold-Int, fold-Atom, fold-Node}

turned : (a b : ℕ) → (a == b) ≡ false → (b == a) ≡ false
turned a b e = grind (arith, nat_tests)

module _ (names : List (List ℕ)) (ops : Operators) (quoted : Bool) where
  -- it stands behind a bar
  abbrev IsBehindBar : Shown → Type 0
  IsBehindBar s = s.as_tail ≡ after_bar (at_argument s)

  atom_behind : (a : ℕ) → (NIL == a) ≡ false → IsBehindBar (atom_shown names ops quoted a)
  atom_behind a e = ap (λ b. if b then codes "]" else after_bar (atom_text names ops quoted a)) (turned NIL a e)

  either : (b : Bool) (s u : Shown) → IsBehindBar s → IsBehindBar u → IsBehindBar (if b then s else u)
  either true s u p q = p
  either false s u p q = q

  one_behind : (f : ℕ) (o : Option Op) (s : Shown) → IsBehindBar (one_shown names ops quoted f o s)
  one_behind f None s = refl
  one_behind f (Some o) s = either (o.priority == 1150) (call_shown names ops quoted f (s ∷ [])) (plain_shown o.priority (prefix_text names ops quoted f o s)) refl refl

  two_behind : (f : ℕ) (o : Option Op) (s u : Shown) → IsBehindBar (two_shown names ops quoted f o s u)
  two_behind f None s u = refl
  two_behind f (Some o) s u = refl

  compound_behind : (f : ℕ) (ts : List Term) → is_pair CELL (layer.Node f ts) ≡ false → IsBehindBar (compound_shown names ops quoted f (map (shown_of names ops quoted) ts))
  compound_behind f [] e = refl
  compound_behind f (t ∷ []) e =
      either (f == BRACES) (plain_shown 0 (codes "{" ++ (shown_of names ops quoted t).text ++ codes "}")) (one_shown names ops quoted f (prefix_of ops f) (shown_of names ops quoted t))
      refl (one_behind f (prefix_of ops f) (shown_of names ops quoted t))
  compound_behind f (t ∷ u ∷ []) e =
      subst (λ b. IsBehindBar (if b then cell_shown (shown_of names ops quoted t) (shown_of names ops quoted u) else two_shown names ops quoted f (infix_of ops f) (shown_of names ops quoted t) (shown_of names ops quoted u))) (sym e)
      (two_behind f (infix_of ops f) (shown_of names ops quoted t) (shown_of names ops quoted u))
  compound_behind f (t ∷ u ∷ v ∷ ts) e = refl

  by_layer : (x : layer.Term-F Term) (t : Term) → roll-Term x ≡ t → is_pair CELL x ≡ false → is_atom_of NIL x ≡ false → IsBehindBar (shown_of names ops quoted t)
  by_layer (layer.Var v) t w e f = subst (λ u. IsBehindBar (shown_of names ops quoted u)) (sym (rolls-Var v) ∙ w) (subst IsBehindBar (sym (fold-Var Shown (shown_step names ops quoted) v)) refl)
  by_layer (layer.Int n) t w e f = subst (λ u. IsBehindBar (shown_of names ops quoted u)) (sym (rolls-Int n) ∙ w) (subst IsBehindBar (sym (fold-Int Shown (shown_step names ops quoted) n)) refl)
  by_layer (layer.Atom a) t w e f = subst (λ u. IsBehindBar (shown_of names ops quoted u)) (sym (rolls-Atom a) ∙ w) (subst IsBehindBar (sym (fold-Atom Shown (shown_step names ops quoted) a)) (atom_behind a f))
  by_layer (layer.Node g ts) t w e f = subst (λ u. IsBehindBar (shown_of names ops quoted u)) (sym (rolls-Node g ts) ∙ w) (subst IsBehindBar (sym (fold-Node Shown (shown_step names ops quoted) g ts)) (compound_behind g ts e))

  pub tail_behind_bar : (t : Term) → is_pair CELL (out-Term t) ≡ false → is_atom_of NIL (out-Term t) ≡ false → (shown_of names ops quoted t).as_tail ≡ codes "|" ++ (at_argument (shown_of names ops quoted t) ++ codes "]")
  tail_behind_bar t e f = by_layer (out-Term t) t (roll-out-Term t) e f

-- What the first pair of places does.
use Rattle.std.proofs.Common.{◌≡◌, ℕ, zero, suc, Bool, true, false, ◌==◌, List, [], map, length, refl, sym, ap, ◌∙◌, subst, true≢false}
use Rattle.std.specs.Prelude.{◌&&◌, if◌then◌else◌}
use Rattle.std.proofs.lemmas.Bool.{eqb-true, and_parts}
use Rattle.std.proofs.lemmas.Bool.Decides.{Decides-int_eq}
use Rattle.std.proofs.lemmas.List.{length-map}
use Rattle.term_core.specs.declared.terms.Term.{Term, Var}
use Rattle.term_core.specs.declared.terms.Term as term
use Rattle.term_core.specs.declared.terms.Term.TheVariants.{outs-Var, outs-Int, outs-Atom, outs-Node}
use Rattle.term_core.specs.Terms.{occurs, occurs_step}
use Rattle.term_core.specs.Unify.{pairs, Becomes, Binds, Clashes, Cycles, move, move_at}
use Rattle.term_core.proofs.TermFolds.{fold-Int, fold-Atom}
use Rattle.term_core.proofs.Occurrences.{occurs-Var}
use Rattle.term_heap.specs.declared.cells.Cell.{Cell}
use Rattle.term_heap.specs.declared.cells.Cell.TheVariants as cell
use Rattle.term_heap.specs.Changes.{cell_term, places, IsEnd}
use Rattle.unify_core.specs.Leads.{Goes, Bindable}
use Rattle.unify_core.specs.Meets.{agrees, first_of, count_of, is_free}
use Rattle.term_core.proofs.KindLaws.{equation}
use Rattle.unify_core.proofs.MeetLaws.{goes_same, goes_nodes, binds_right, binds_turned, vars_move}

length-places : (first count : ℕ) → length (places first count) ≡ count
length-places first zero = refl
length-places first (suc count) = ap suc (length-places (suc first) count)

length-terms : (value : ℕ → Term) (first count : ℕ) → length (map value (places first count)) ≡ count
length-terms value first count = length-map (places first count) value ∙ length-places first count

module _ (value : ℕ → Term) (x y : ℕ) where
  abbrev args : ℕ → ℕ → List Term
  args first count = map value (places first count)

  -- cells that agree leave their arguments
  pub agree_goes : (c d : Cell) → agrees c d ≡ true → Goes (equation (cell_term value x c) (cell_term value y d)) (pairs (args (first_of c) (count_of c)) (args (first_of d) (count_of c)))
  agree_goes (cell.Int m) (cell.Int n) e = subst (λ k. Goes (equation (term.Int m) (term.Int k)) []) ((Decides-int_eq m n).0 e) (goes_same (term.Int m))
  agree_goes (cell.Atom a) (cell.Atom b) e = subst (λ k. Goes (equation (term.Atom a) (term.Atom k)) []) (eqb-true a b e) (goes_same (term.Atom a))
  agree_goes (cell.Node f m p) (cell.Node g n q) e =
      let parts = and_parts (f == g) (m == n) e in
      subst (λ k. Goes (equation (term.Node f (args p m)) (term.Node k (args q n))) (pairs (args p m) (args q m))) (eqb-true f g parts.0)
      (subst (λ k. Goes (equation (term.Node f (args p m)) (term.Node f (args q k))) (pairs (args p m) (args q m))) (eqb-true m n parts.1)
      (goes_nodes f (args p m) (args q m) (length-terms value p m ∙ sym (length-terms value q m))))
  agree_goes (cell.Int m) cell.Free e = absurd (true≢false (sym e))
  agree_goes (cell.Int m) (cell.Ref b) e = absurd (true≢false (sym e))
  agree_goes (cell.Int m) (cell.Atom b) e = absurd (true≢false (sym e))
  agree_goes (cell.Int m) (cell.Node g n q) e = absurd (true≢false (sym e))
  agree_goes (cell.Atom a) cell.Free e = absurd (true≢false (sym e))
  agree_goes (cell.Atom a) (cell.Ref b) e = absurd (true≢false (sym e))
  agree_goes (cell.Atom a) (cell.Int n) e = absurd (true≢false (sym e))
  agree_goes (cell.Atom a) (cell.Node g n q) e = absurd (true≢false (sym e))
  agree_goes (cell.Node f m p) cell.Free e = absurd (true≢false (sym e))
  agree_goes (cell.Node f m p) (cell.Ref b) e = absurd (true≢false (sym e))
  agree_goes (cell.Node f m p) (cell.Int n) e = absurd (true≢false (sym e))
  agree_goes (cell.Node f m p) (cell.Atom b) e = absurd (true≢false (sym e))
  agree_goes cell.Free d e = absurd (true≢false (sym e))
  agree_goes (cell.Ref b) d e = absurd (true≢false (sym e))

  -- cells that do not agree clash
  pub differ : (c d : Cell) → IsEnd c → IsEnd d → is_free c ≡ false → is_free d ≡ false → agrees c d ≡ false → move (equation (cell_term value x c) (cell_term value y d)) ≡ Clashes
  differ cell.Free d i j f g e = absurd (true≢false f)
  differ (cell.Ref b) d i j f g e = absurd i
  differ c cell.Free i j f g e = absurd (true≢false g)
  differ c (cell.Ref b) i j f g e = absurd j
  differ (cell.Int m) (cell.Int n) i j f g e = (λ k. move_at (term.Int m) (term.Int n) (outs-Int m k) (outs-Int n k)) ∙ ap (λ b. if b then Becomes [] else Clashes) e
  differ (cell.Int m) (cell.Atom b) i j f g e = λ k. move_at (term.Int m) (term.Atom b) (outs-Int m k) (outs-Atom b k)
  differ (cell.Int m) (cell.Node h n q) i j f g e = λ k. move_at (term.Int m) (term.Node h (args q n)) (outs-Int m k) (outs-Node h (args q n) k)
  differ (cell.Atom a) (cell.Int n) i j f g e = λ k. move_at (term.Atom a) (term.Int n) (outs-Atom a k) (outs-Int n k)
  differ (cell.Atom a) (cell.Atom b) i j f g e = (λ k. move_at (term.Atom a) (term.Atom b) (outs-Atom a k) (outs-Atom b k)) ∙ ap (λ t. if t then Becomes [] else Clashes) e
  differ (cell.Atom a) (cell.Node h n q) i j f g e = λ k. move_at (term.Atom a) (term.Node h (args q n)) (outs-Atom a k) (outs-Node h (args q n) k)
  differ (cell.Node o m p) (cell.Int n) i j f g e = λ k. move_at (term.Node o (args p m)) (term.Int n) (outs-Node o (args p m) k) (outs-Int n k)
  differ (cell.Node o m p) (cell.Atom b) i j f g e = λ k. move_at (term.Node o (args p m)) (term.Atom b) (outs-Node o (args p m) k) (outs-Atom b k)
  differ (cell.Node o m p) (cell.Node h n q) i j f g e =
      (λ k. move_at (term.Node o (args p m)) (term.Node h (args q n)) (outs-Node o (args p m) k) (outs-Node h (args q n) k))
      ∙ (λ k. if (o == h) && (length-terms value p m k == length-terms value q n k) then Becomes (pairs (args p m) (args q n)) else Clashes)
      ∙ ap (λ t. if t then Becomes (pairs (args p m) (args q n)) else Clashes) e

-- a variable and a cell that is no variable of its own name

module _ (value : ℕ → Term) (v y : ℕ) (ne : v ≡ y → ⊥) where
  -- on the left
  pub left_binds : (d : Cell) → IsEnd d → occurs v (cell_term value y d) ≡ false → move (equation (Var v) (cell_term value y d)) ≡ Binds v (cell_term value y d)
  left_binds cell.Free i absent = vars_move v y ne
  left_binds (cell.Ref b) i absent = absurd i
  left_binds (cell.Int n) i absent = λ k. move_at (Var v) (term.Int n) (outs-Var v k) (outs-Int n k)
  left_binds (cell.Atom b) i absent = λ k. move_at (Var v) (term.Atom b) (outs-Var v k) (outs-Atom b k)
  left_binds (cell.Node g n q) i absent =
      let t : Term = term.Node g (map value (places q n)) in
      (λ k. move_at (Var v) t (outs-Var v k) (outs-Node g (map value (places q n)) k)) ∙ ap (λ b. if b then Cycles else Binds v t) absent

  pub left_cycles : (d : Cell) → IsEnd d → occurs v (cell_term value y d) ≡ true → move (equation (Var v) (cell_term value y d)) ≡ Cycles
  left_cycles cell.Free i stands = absurd (ne (eqb-true v y (sym (occurs-Var v y) ∙ stands)))
  left_cycles (cell.Ref b) i stands = absurd i
  left_cycles (cell.Int n) i stands = absurd (true≢false (sym stands ∙ fold-Int Bool (occurs_step v) n))
  left_cycles (cell.Atom b) i stands = absurd (true≢false (sym stands ∙ fold-Atom Bool (occurs_step v) b))
  left_cycles (cell.Node g n q) i stands =
      let t : Term = term.Node g (map value (places q n)) in
      (λ k. move_at (Var v) t (outs-Var v k) (outs-Node g (map value (places q n)) k)) ∙ ap (λ b. if b then Cycles else Binds v t) stands

  -- on the right
  pub right_bindable : (d : Cell) → IsEnd d → occurs v (cell_term value y d) ≡ false → Bindable (equation (cell_term value y d) (Var v)) v (cell_term value y d)
  right_bindable cell.Free i absent = binds_turned y v (λ e. ne (sym e))
  right_bindable (cell.Ref b) i absent = absurd i
  right_bindable (cell.Int n) i absent = binds_right v (term.Int n) absent (λ k. move_at (term.Int n) (Var v) (outs-Int n k) (outs-Var v k))
  right_bindable (cell.Atom b) i absent = binds_right v (term.Atom b) absent (λ k. move_at (term.Atom b) (Var v) (outs-Atom b k) (outs-Var v k))
  right_bindable (cell.Node g n q) i absent =
      let t : Term = term.Node g (map value (places q n)) in
      binds_right v t absent ((λ k. move_at t (Var v) (outs-Node g (map value (places q n)) k) (outs-Var v k)) ∙ ap (λ b. if b then Cycles else Binds v t) absent)

  pub right_cycles : (d : Cell) → IsEnd d → occurs v (cell_term value y d) ≡ true → move (equation (cell_term value y d) (Var v)) ≡ Cycles
  right_cycles cell.Free i stands = absurd (ne (eqb-true v y (sym (occurs-Var v y) ∙ stands)))
  right_cycles (cell.Ref b) i stands = absurd i
  right_cycles (cell.Int n) i stands = absurd (true≢false (sym stands ∙ fold-Int Bool (occurs_step v) n))
  right_cycles (cell.Atom b) i stands = absurd (true≢false (sym stands ∙ fold-Atom Bool (occurs_step v) b))
  right_cycles (cell.Node g n q) i stands =
      let t : Term = term.Node g (map value (places q n)) in
      (λ k. move_at t (Var v) (outs-Node g (map value (places q n)) k) (outs-Var v k)) ∙ ap (λ b. if b then Cycles else Binds v t) stands

-- A clause that is left out clashes in its first equation.
use Rattle.std.proofs.Common.{◌≡◌, ◌+◌, ◌<◌, ◌≤◌, ℕ, false, ◌⊎◌, inl, inr, List, [], ◌∷◌, map, length, get_or, refl, ap, sym, ◌∙◌, arith, true≢false}
use Rattle.std.specs.Prelude.{◌&&◌, if◌then◌else◌, slice_get, None, Some}
use Rattle.std.specs.Cmp.{nat_eq_equiv}
use Rattle.std.specs.Option.{option_map_or}
use Rattle.std.proofs.lemmas.Cmp.{int_eq_equiv}
use Rattle.std.proofs.lemmas.List.{length-map}
use Rattle.std.proofs.lemmas.Option.{slice_get_cases}
use Rattle.term_core.specs.declared.terms.Term.{Term, out-Term}
use Rattle.term_core.specs.declared.terms.Term.TheOpen.{Term-F, Var, Int, Atom, Node}
use Rattle.term_core.specs.declared.terms.Term.TheVariants.{outs-Var, outs-Node}
use Rattle.term_core.specs.Terms.{instance_step, higher, rename}
use Rattle.term_core.specs.Unify.{pairs, Becomes, Clashes, move, move_at, after, Open, solve}
use Rattle.term_core.proofs.TermFolds.{fold-Int, fold-Atom}
use Rattle.term_core.proofs.TermLaws.{instance-Var, instance-Node}
use Rattle.term_core.proofs.VariantLaws.{View, is_var, is_int, is_atom, is_node, view}
use Rattle.prog_data.specs.declared.programs.Clause.{Clause}
use Rattle.prog_data.specs.declared.programs.Program.{Program}
use Rattle.prog_data.specs.Goals.{pred_of}
use Rattle.clause_index.specs.declared.keys.Key.TheVariants as key
use Rattle.clause_index.specs.Keys.{key_at, first_key, head_key, agrees}
use Rattle.clause_index.specs.Selected.{can_match}
use Rattle.clause_index.specs.Laws.{ClashesFirst, LeftOutClash}
use Rattle.clause_index.proofs.KeyLaws.{agrees_free}

-- terms whose keys do not agree clash
clash_at : (l r : Term) (x y : Term-F Term) → agrees (key_at x) (key_at y) ≡ false → move_at l r x y ≡ Clashes
clash_at l r (Var v) y e = absurd (true≢false e)
clash_at l r (Int m) (Var w) e = absurd (true≢false e)
clash_at l r (Int m) (Int n) e = ap (λ b. if b then Becomes [] else Clashes) (int_eq_equiv.symm m n ∙ e)
clash_at l r (Int m) (Atom b) e = refl
clash_at l r (Int m) (Node g us) e = refl
clash_at l r (Atom a) (Var w) e = absurd (true≢false e)
clash_at l r (Atom a) (Int n) e = refl
clash_at l r (Atom a) (Atom b) e = ap (λ b. if b then Becomes [] else Clashes) (nat_eq_equiv.symm a b ∙ e)
clash_at l r (Atom a) (Node g us) e = refl
clash_at l r (Node f ts) (Var w) e = absurd (true≢false e)
clash_at l r (Node f ts) (Int n) e = refl
clash_at l r (Node f ts) (Atom b) e = refl
clash_at l r (Node f ts) (Node g us) e =
    ap (λ b. if b then Becomes (pairs ts us) else Clashes) ((λ i. nat_eq_equiv.symm f g i && nat_eq_equiv.symm (length ts) (length us) i) ∙ e)

-- a term with its variables renamed has the same key
renamed_key : (base : ℕ) (t : Term) → View t → key_at (out-Term (rename base t)) ≡ key_at (out-Term t)
renamed_key base t (is_var v) = ap (λ u. key_at (out-Term u)) (instance-Var (higher base) v) ∙ ap key_at (outs-Var (v + base)) ∙ sym (ap key_at (outs-Var v))
renamed_key base t (is_int n) = ap (λ u. key_at (out-Term u)) (fold-Int Term (instance_step (higher base)) n)
renamed_key base t (is_atom a) = ap (λ u. key_at (out-Term u)) (fold-Atom Term (instance_step (higher base)) a)
renamed_key base t (is_node f ts) =
    ap (λ u. key_at (out-Term u)) (instance-Node (higher base) f ts) ∙ ap key_at (outs-Node f (map (rename base) ts)) ∙ ap (key.Node f) (length-map ts (rename base)) ∙ sym (ap key_at (outs-Node f ts))

clashing : (base : ℕ) (t u : Term) → agrees (key_at (out-Term t)) (key_at (out-Term u)) ≡ false → move (record { left = t; right = rename base u }) ≡ Clashes
clashing base t u e = clash_at t (rename base u) (out-Term t) (out-Term (rename base u)) (ap (agrees (key_at (out-Term t))) (renamed_key base u (view u)) ∙ e)

module _ (program : Program) (p k : ℕ) where
  -- by the arguments of the call and of the head
  by_lists : (clause : Clause) → slice_get (pred_of program p).clauses k ≡ Some clause → (args heads : List Term) → clause.head ≡ heads → agrees (first_key args) (first_key heads) ≡ false → ClashesFirst program p k args
  by_lists clause there [] heads is e = absurd (true≢false e)
  by_lists clause there (t ∷ ts) [] is e = absurd (true≢false (sym (agrees_free (key_at (out-Term t)) key.Free refl) ∙ e))
  by_lists clause there (t ∷ ts) (u ∷ us) is e = record {
    clause = clause;
    is_there = there;
    arg = t;
    head = u;
    other_args = ts;
    heads = us;
    args_are = refl;
    head_is = is;
    clashes = λ base. clashing base t u e;
    ends = λ base. ap (λ head. solve (Open (pairs (t ∷ ts) (map (rename base) head)) [])) is ∙ ap (λ mv. after mv (pairs ts (map (rename base) us)) []) (clashing base t u e);
  }

  left_out : (args : List Term) → k < length (pred_of program p).clauses → can_match program p (first_key args) k ≡ false → ClashesFirst program p k args
  left_out args lt e = by_place (slice_get_cases (pred_of program p).clauses k).1
    where
      by_place : ((x : Clause) × (k < length (pred_of program p).clauses) × (slice_get (pred_of program p).clauses k ≡ Some x) × (get_or (pred_of program p).clauses k x ≡ x)) ⊎ ((length (pred_of program p).clauses ≤ k) × (slice_get (pred_of program p).clauses k ≡ None)) →
          ClashesFirst program p k args
      by_place (inl l) = by_lists l.0 l.2 args (l.0).head refl (sym (ap (λ o. option_map_or (λ c. agrees (first_key args) (head_key c)) o false) l.2) ∙ e)
      by_place (inr r) = absurd (omega (arith, lt, r.0))

pub left_out_clash : LeftOutClash
left_out_clash = left_out

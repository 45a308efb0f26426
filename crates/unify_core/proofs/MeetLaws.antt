-- What two places whose cells are no references do to the equations that are left.
use Rattle.std.proofs.Common.{◌≡◌, ℕ, zero, suc, false, List, [], ◌∷◌, ◌++◌, map, length, refl, sym, ap, ◌∙◌, arith}
use Rattle.std.specs.Prelude.{if◌then◌else◌}
use Rattle.std.proofs.lemmas.Bool.{eq-eqb, ne_eqb, and_from}
use Rattle.term_core.specs.declared.terms.Term.{Term, Var, Node}
use Rattle.term_core.specs.declared.terms.Term.TheVariants.{outs-Var, outs-Node}
use Rattle.term_core.specs.declared.equations.Equation.{Equation}
use Rattle.term_core.specs.declared.equations.Outcome.{Outcome}
use Rattle.term_core.specs.declared.equations.Outcome.TheVariants as outcome
use Rattle.term_core.specs.Terms.{instance, occurs}
use Rattle.term_core.specs.Unify.{pairs, Becomes, Binds, Clashes, Cycles, move, move_at, after, Unified}
use Rattle.term_core.specs.Solutions.{Solves}
use Rattle.term_core.proofs.TermLaws.{instance-Node}
use Rattle.term_core.proofs.Occurrences.{occurs-Var}
use Rattle.term_core.specs.Variants.{SameKind, EndsAs}
use Rattle.unify_core.specs.Leads.{Leads, Bindable, Goes}
use Rattle.term_core.proofs.VariantLaws.{node_inside}
use Rattle.term_core.proofs.KindLaws.{equation}
use Rattle.unify_core.proofs.LeadLaws.{ends_becomes, ends_binds, ends_turned, skips}

solves_front : (other : ℕ → Term) (es fs : List Equation) → Solves other (es ++ fs) → Solves other es × Solves other fs
solves_front other [] fs h = (tt, h)
solves_front other (e ∷ es) fs h = let k = solves_front other es fs h.1 in ((h.0, k.0), k.1)

solves_both : (other : ℕ → Term) (es fs : List Equation) → Solves other es → Solves other fs → Solves other (es ++ fs)
solves_both other [] fs h k = k
solves_both other (e ∷ es) fs h k = (h.0, solves_both other es fs h.1 k)

pub leads_goes : (start : List Equation) (value : ℕ → Term) (e : Equation) (es rest : List Equation) → Goes e es → Leads start value (e ∷ rest) → Leads start value (es ++ rest)
leads_goes start value e es rest goes leads = record {
  ends = λ o ends. leads.ends o (goes.ends rest o ends);
  solved = λ other h. let k = solves_front other es rest h in leads.solved other (goes.solved other k.0, k.1);
  general = λ other h. let k = leads.general other h in (k.0, solves_both other es rest (goes.general other k.1.0) k.1.1);
}

-- one term on both sides
pub goes_same : (t : Term) → Goes (equation t t) []
goes_same t = record { ends = λ rest o ends. skips t rest o ends; solved = λ other h. refl; general = λ other h. tt }

-- two compounds of one name and number of parts

parts_solved : (other : ℕ → Term) (ts us : List Term) → map (instance other) ts ≡ map (instance other) us → Solves other (pairs ts us)
parts_solved other [] us e = tt
parts_solved other (t ∷ ts) [] e = tt
parts_solved other (t ∷ ts) (u ∷ us) e = let h = heads _ _ _ _ e in (h.0, parts_solved other ts us h.1) where
  heads : (x y : Term) (xs ys : List Term) → x ∷ xs ≡ y ∷ ys → (x ≡ y) × (xs ≡ ys)
  heads x y xs ys e = (cc, cc)

parts_same : (other : ℕ → Term) (ts us : List Term) → length ts ≡ length us → Solves other (pairs ts us) → map (instance other) ts ≡ map (instance other) us
parts_same other [] [] n h = refl
parts_same other [] (u ∷ us) n h = absurd (omega (arith, n))
parts_same other (t ∷ ts) [] n h = absurd (omega (arith, n))
parts_same other (t ∷ ts) (u ∷ us) n h = λ i. h.0 i ∷ parts_same other ts us (omega (arith, n)) h.1 i

pub goes_nodes : (f : ℕ) (ts us : List Term) → length ts ≡ length us → Goes (equation (Node f ts) (Node f us)) (pairs ts us)
goes_nodes f ts us n = record {
  ends = λ rest o ends. ends_becomes (equation (Node f ts) (Node f us)) (pairs ts us) rest o
      ((λ i. move_at (Node f ts) (Node f us) (outs-Node f ts i) (outs-Node f us i)) ∙ ap (λ b. if b then Becomes (pairs ts us) else Clashes) (and_from _ _ (eq-eqb f f refl) (eq-eqb (length ts) (length us) n))) ends;
  solved = λ other h. instance-Node other f ts ∙ ap (Node f) (parts_same other ts us n h) ∙ sym (instance-Node other f us);
  general = λ other h. parts_solved other ts us (node_inside f f _ _ (sym (instance-Node other f ts) ∙ h ∙ instance-Node other f us)).1;
}

-- a variable on the left, bound to the right
pub binds_left : (v : ℕ) (t : Term) → occurs v t ≡ false → move (equation (Var v) t) ≡ Binds v t → Bindable (equation (Var v) t) v t
binds_left v t absent m = record {
  absent = absent;
  ends = λ rest o ends. ends_binds (equation (Var v) t) v t rest o m ends;
  solved = λ other h. h;
  general = λ other h. h;
}

-- a variable on the right, bound to the left
pub binds_right : (v : ℕ) (t : Term) → occurs v t ≡ false → move (equation t (Var v)) ≡ Binds v t → Bindable (equation t (Var v)) v t
binds_right v t absent m = record {
  absent = absent;
  ends = λ rest o ends. ends_binds (equation t (Var v)) v t rest o m ends;
  solved = λ other h. sym h;
  general = λ other h. sym h;
}

-- two variables: the left one is bound by the definition
pub vars_move : (v w : ℕ) → (v ≡ w → ⊥) → move (equation (Var v) (Var w)) ≡ Binds v (Var w)
vars_move v w ne = (λ i. move_at (Var v) (Var w) (outs-Var v i) (outs-Var w i)) ∙ ap (λ b. if b then Becomes [] else Binds v (Var w)) (ne_eqb v w ne)

-- the right one may be bound as well
pub binds_turned : (v w : ℕ) → (v ≡ w → ⊥) → Bindable (equation (Var v) (Var w)) w (Var v)
binds_turned v w ne = record {
  absent = occurs-Var w v ∙ ne_eqb w v (λ e. ne (sym e));
  ends = λ rest o ends. ends_turned (equation (Var v) (Var w)) w v rest o (λ e. ne (sym e)) (vars_move v w ne) ends;
  solved = λ other h. sym h;
  general = λ other h. sym h;
}

-- a clash or a cycle ends the start so

pub ends_clash : (e : Equation) (rest : List Equation) → move e ≡ Clashes → EndsAs (e ∷ rest) outcome.Clash
ends_clash e rest m = (outcome.Clash, (suc zero, ap (λ x. after x rest []) m), tt)

pub ends_cycle : (e : Equation) (rest : List Equation) → move e ≡ Cycles → EndsAs (e ∷ rest) outcome.Cyclic
ends_cycle e rest m = (outcome.Cyclic, (suc zero, ap (λ x. after x rest []) m), tt)

-- what ends as by a clash ends by a clash, and likewise by a cycle

pub is_clash : (es : List Equation) → EndsAs es outcome.Clash → Unified es outcome.Clash
is_clash es ends = by_kind ends.0 ends.1 ends.2 where
  by_kind : (o : Outcome) → Unified es o → SameKind o outcome.Clash → Unified es outcome.Clash
  by_kind outcome.Clash u h = u
  by_kind (outcome.Solved bs) u h = absurd h
  by_kind outcome.Cyclic u h = absurd h

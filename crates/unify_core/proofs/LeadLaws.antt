-- Steps of unification over a heap.
use Rattle.std.proofs.Common.{◌≡◌, ℕ, suc, true, List, [], ◌∷◌, ◌++◌, length, refl, sym, ap, ◌∙◌, subst}
use Rattle.std.specs.Prelude.{if◌then◌else◌, ℤ}
use Rattle.std.proofs.lemmas.Bool.Decides.{Decides-int_eq}
use Rattle.std.specs.List.{AllByRecursion}
use Rattle.std.specs.Ordering.{int_eq}
use Rattle.std.proofs.lemmas.Bool.{eq-eqb, and_from}
use Rattle.term_core.specs.declared.terms.Term.{Term, Var, Int, Atom, Node}
use Rattle.term_core.specs.declared.terms.Term.TheVariants.{outs-Var, outs-Int, outs-Atom, outs-Node}
use Rattle.term_core.specs.declared.equations.Equation.{Equation}
use Rattle.term_core.specs.declared.equations.Binding.{Binding}
use Rattle.term_core.specs.declared.equations.Outcome.{Outcome}
use Rattle.term_core.specs.Terms.{instance, only, replace}
use Rattle.term_core.specs.Unify.{pairs, replace_all, Becomes, Binds, Clashes, move, move_at, Open, after, solves}
use Rattle.term_core.specs.Solutions.{Solves}
use Rattle.term_core.proofs.TermFolds.{ind_terms}
use Rattle.term_core.proofs.TermLaws.{instance-Var, instance-instance, instance-itself, replace-absent}
use Rattle.term_core.specs.Variants.{all_instances, AreVariants, SameKind, EndsAs, IsMostGeneral}
use Rattle.unify_core.specs.Leads.{Leads, Bindable}
use Rattle.term_core.proofs.VariantLaws.{all_instances-itself, all_instances_twice, only_same, only_other, replaced_same, solves_instance}
use Rattle.term_core.proofs.KindLaws.{equation, EndsSo, variants_end}

rebound : (es : List Equation) (bs : List Binding) (o : Outcome) → EndsAs es o → (o' : Outcome) × EndsSo (Open es bs) o' × SameKind o' o
rebound es bs o ends = variants_end Var Var es es (record { is_there = all_instances-itself es; is_back = all_instances-itself es }) bs o ends

-- the first equation

pub ends_becomes : (e : Equation) (es rest : List Equation) (o : Outcome) → move e ≡ Becomes es → EndsAs (es ++ rest) o → EndsAs (e ∷ rest) o
ends_becomes e es rest o m ends = (ends.0, (suc ends.1.0, ap (λ x. solves ends.1.0 (after x rest [])) m ∙ ends.1.1), ends.2)

pub ends_binds : (e : Equation) (v : ℕ) (t : Term) (rest : List Equation) (o : Outcome) → move e ≡ Binds v t → EndsAs (replace_all v t rest) o → EndsAs (e ∷ rest) o
ends_binds e v t rest o m ends =
    let found = rebound (replace_all v t rest) (record { variable = v; value = t } ∷ []) o ends in
    (found.0, (suc found.1.0, ap (λ x. solves found.1.0 (after x rest [])) m ∙ found.1.1), found.2)

-- two variables bound the other way round
turned : (v w : ℕ) → (v ≡ w → ⊥) → (es : List Equation) → all_instances (only w (Var v)) (replace_all v (Var w) es) ≡ replace_all w (Var v) es
turned v w ne es = all_instances_twice (only w (Var v)) (only v (Var w)) (only w (Var v)) (replaced_same (only w (Var v)) v (Var w) (instance-Var (only w (Var v)) w ∙ only_same w (Var v) ∙ sym (only_other w (Var v) v (λ e. ne (sym e))))) es

pub ends_turned : (e : Equation) (v w : ℕ) (rest : List Equation) (o : Outcome) → (v ≡ w → ⊥) → move e ≡ Binds w (Var v) → EndsAs (replace_all v (Var w) rest) o → EndsAs (e ∷ rest) o
ends_turned e v w rest o ne m ends =
    let are : AreVariants (only w (Var v)) (only v (Var w)) (replace_all v (Var w) rest) (replace_all w (Var v) rest) = record { is_there = turned v w ne rest; is_back = turned w v (λ e. ne (sym e)) rest } in
    ends_binds e w (Var v) rest o m (variants_end (only w (Var v)) (only v (Var w)) (replace_all v (Var w) rest) (replace_all w (Var v) rest) are [] o ends)

-- an equation of a term with itself is passed over
abbrev Skips : Term → Type 0
Skips t = (rest : List Equation) (o : Outcome) → EndsAs rest o → EndsAs (equation t t ∷ rest) o

skip_all : (ts : List Term) → AllByRecursion Skips ts → (rest : List Equation) (o : Outcome) → EndsAs rest o → EndsAs (pairs ts ts ++ rest) o
skip_all [] h rest o ends = ends
skip_all (t ∷ ts) h rest o ends = h.0 (pairs ts ts ++ rest) o (skip_all ts h.1 rest o ends)

int_itself : (n : ℤ) → int_eq n n ≡ true
int_itself n = (Decides-int_eq n n).1 refl

pub skips : (t : Term) → Skips t
skips = ind_terms Skips
    (λ v rest o ends. ends_becomes (equation (Var v) (Var v)) [] rest o ((λ i. move_at (Var v) (Var v) (outs-Var v i) (outs-Var v i)) ∙ ap (λ b. if b then Becomes [] else Binds v (Var v)) (eq-eqb v v refl)) ends)
    (λ n rest o ends. ends_becomes (equation (Int n) (Int n)) [] rest o ((λ i. move_at (Int n) (Int n) (outs-Int n i) (outs-Int n i)) ∙ ap (λ b. if b then Becomes [] else Clashes) (int_itself n)) ends)
    (λ a rest o ends. ends_becomes (equation (Atom a) (Atom a)) [] rest o ((λ i. move_at (Atom a) (Atom a) (outs-Atom a i) (outs-Atom a i)) ∙ ap (λ b. if b then Becomes [] else Clashes) (eq-eqb a a refl)) ends)
    (λ f ts h rest o ends. ends_becomes (equation (Node f ts) (Node f ts)) (pairs ts ts) rest o
    ((λ i. move_at (Node f ts) (Node f ts) (outs-Node f ts i) (outs-Node f ts i)) ∙ ap (λ b. if b then Becomes (pairs ts ts) else Clashes) (and_from _ _ (eq-eqb f f refl) (eq-eqb (length ts) (length ts) refl)))
    (skip_all ts h rest o ends))

-- what is left of the start

same_values : (other : ℕ → Term) → ◌≡◌ {A = ℕ → Term} (λ v. instance other (Var v)) other
same_values other = λ i v. instance-Var other v i

pub leads_start : (es : List Equation) → Leads es Var es
leads_start es = record {
  ends = λ o ends. ends;
  solved = λ other h. subst (λ f. Solves f es) (sym (same_values other)) h;
  general = λ other h. ((λ v. sym (instance-Var other v)), h);
}

pub leads_end : (start : List Equation) (value : ℕ → Term) → Leads start value [] → IsMostGeneral start value
leads_end start value leads = record {
  solves = subst (λ f. Solves f start) (λ i v. instance-itself (value v) i) (leads.solved Var tt);
  general = λ other h. (leads.general other h).0;
}

pub leads_same : (start : List Equation) (value : ℕ → Term) (t : Term) (rest : List Equation) → Leads start value (equation t t ∷ rest) → Leads start value rest
leads_same start value t rest leads = record {
  ends = λ o ends. leads.ends o (skips t rest o ends);
  solved = λ other h. leads.solved other (refl, h);
  general = λ other h. ((leads.general other h).0, (leads.general other h).1.1);
}

pub leads_bound : (start : List Equation) (value : ℕ → Term) (e : Equation) (rest : List Equation) (v : ℕ) (t : Term) → Bindable e v t → Leads start value (e ∷ rest) →
    Leads start (λ x. replace v t (value x)) (replace_all v t rest)
leads_bound start value e rest v t may leads = record {
  ends = λ o ends. leads.ends o (may.ends rest o ends);
  solved = λ other h.
      let both : ℕ → Term = λ x. instance other (only v t x) in
      let of_v : instance both (Var v) ≡ instance other t = instance-Var both v ∙ ap (instance other) (only_same v t) in
      let of_t : instance both t ≡ instance other t = sym (instance-instance other (only v t) t) ∙ ap (instance other) (replace-absent v t t may.absent) in
      subst (λ f. Solves f start) (λ i x. sym (instance-instance other (only v t) (value x)) i) (leads.solved both (may.solved both (of_v ∙ sym of_t), solves_instance other (only v t) rest h));
  general = λ other h.
      let before = leads.general other h in
      let same : instance other t ≡ other v = sym (may.general other before.1.0) ∙ instance-Var other v in
      let agrees : (u : Term) → instance other (replace v t u) ≡ instance other u = λ u. instance-instance other (only v t) u ∙ (λ i. instance (λ x. replaced_same other v t same x i) u) in
      ((λ x. before.0 x ∙ sym (agrees (value x))), solved_all other agrees rest before.1.1);
} where
  solved_all : (other : ℕ → Term) → ((u : Term) → instance other (replace v t u) ≡ instance other u) → (es : List Equation) → Solves other es → Solves other (replace_all v t es)
  solved_all other agrees [] h = tt
  solved_all other agrees (x ∷ xs) h = (agrees x.left ∙ h.0 ∙ sym (agrees x.right), solved_all other agrees xs h.1)

-- The clause that a sentence becomes is in range of each program that has what it may speak of.
use Rattle.std.proofs.Common.{◌≡◌, ◌≤◌, ◌<◌, ℕ, Bool, true, false, List, [], length, refl, sym, ap, ◌∙◌, arith, subst, true≢false}
use Rattle.std.proofs.lemmas.Bool.Decides.{nat_tests}
use Rattle.std.proofs.lemmas.Bool.{and_parts, and_from}
use Rattle.std.proofs.lemmas.Option.{same_Some, none-some}
use Rattle.std.specs.Prelude.{cond, ◌==◌, ◌&&◌, Option, Some, None}
use Rattle.std.specs.List.{list_all, AllByRecursion}
use Rattle.term_core.specs.declared.fixed.TheConstants.{NECK}
use Rattle.term_core.specs.declared.terms.Term.{Term, out-Term, roll-Term, roll-out-Term}
use Rattle.term_core.specs.declared.terms.Term.TheOpen as layer
use Rattle.term_core.specs.declared.terms.Term.TheVariants.{rolls-Atom, rolls-Node}
use Rattle.term_core.specs.Ranges.{IsInRange}
use Rattle.term_core.specs.Shapes.{parts_of, split}
use Rattle.ciao_reader.specs.declared.sentences.Sentence.{Sentence}
use Rattle.prog_data.specs.declared.goals.Goal.{Goal, out-Goal, roll-Goal, roll-out-Goal}
use Rattle.prog_data.specs.declared.goals.Goal as goal
use Rattle.prog_data.specs.declared.goals.Goal.TheOpen as outer
use Rattle.prog_data.specs.declared.goals.Goal.TheVariants.{rolls-Conj, rolls-Exit}
use Rattle.prog_data.specs.declared.grammars.Grammar.{Grammar}
use Rattle.prog_data.specs.declared.programs.Program.{Program}
use Rattle.prog_data.specs.Goals.{is_exit, ends_in_exit_at, without_exit_at}
use Rattle.prog_data.specs.Ranges.{is_name_of, is_term_of, goal_step, is_goal_of, is_body_of}
use Rattle.prog_data.proofs.GoalFolds.{fold-True, fold-Conj, fold-Exit}
use Rattle.body_code.specs.declared.faults.Compiled.{Compiled}
use Rattle.body_code.specs.declared.faults.Indicator.{Indicator}
use Rattle.body_code.specs.declared.scopes.Visible.{Visible}
use Rattle.body_code.specs.Making.{made, followed}
use Rattle.body_code.specs.Clauses.{may_be_head, indicator_where, indicator_at, head_of, body_term, indicator_of, body_goal, clause_with, compiled_with, compiled}
use Rattle.body_code.specs.Ranges.{HasAllOf, IsClauseOf, StaysInRange, HeadsAreInRange}
use Rattle.body_code.proofs.TermRanges.{is_less, atom_name, compound_name, compound_parts, compound_length, SplitIn, split_in}
use Rattle.body_code.proofs.GoalRanges.{IsGoal, MadeIn, terms_pass, body_in}

-- goals in range are bodies in range, with no exit
module _ (program : Program) (vars : ℕ) where
  no_exit_is : (g : Goal) → is_goal_of program vars g ≡ true → is_exit (out-Goal g) ≡ false
  no_exit_is g e = by (out-Goal g) (roll-out-Goal g)
    where
      by : (x : outer.Goal-F Goal) → roll-Goal x ≡ g → is_exit x ≡ false
      by outer.True r = refl
      by outer.Fail r = refl
      by outer.Cut r = refl
      by (outer.Call p ts) r = refl
      by (outer.Builtin b ts) r = refl
      by (outer.Conj a b) r = refl
      by (outer.Disj a b) r = refl
      by (outer.IfElse c a b) r = refl
      by (outer.Not a) r = refl
      by outer.Exit r = absurd (true≢false (sym e ∙ ap (is_goal_of program vars) (sym r ∙ rolls-Exit) ∙ fold-Exit Bool (goal_step program vars)))

  -- the last part of a conjunction in range
  last_of : (g a b : Goal) → g ≡ goal.Conj a b → is_goal_of program vars g ≡ true → is_exit (out-Goal b) ≡ false
  last_of g a b is e =
      no_exit_is b (and_parts (is_goal_of program vars a) (is_goal_of program vars b) (sym (fold-Conj Bool (goal_step program vars) a b) ∙ sym (ap (is_goal_of program vars) is) ∙ e)).1

  abbrev BodyOf : Goal → outer.Goal-F Goal → Type 0
  BodyOf g x = (ends_in_exit_at x ≡ false) × (is_goal_of program vars (without_exit_at g x) ≡ true)

  pub goal_is_body : (g : Goal) → is_goal_of program vars g ≡ true → BodyOf g (out-Goal g)
  goal_is_body g e = by (out-Goal g) (roll-out-Goal g)
    where
      by : (x : outer.Goal-F Goal) → roll-Goal x ≡ g → BodyOf g x
      by outer.True r = (refl, e)
      by outer.Fail r = (refl, e)
      by outer.Cut r = (refl, e)
      by (outer.Call p ts) r = (refl, e)
      by (outer.Builtin b ts) r = (refl, e)
      by (outer.Conj a b) r =
          let last = last_of g a b (sym r ∙ rolls-Conj a b) e in
          (last, ap (λ t. is_goal_of program vars (cond t a g)) last ∙ e)
      by (outer.Disj a b) r = (refl, e)
      by (outer.IfElse c a b) r = (refl, e)
      by (outer.Not a) r = (refl, e)
      by outer.Exit r = absurd (true≢false (sym e ∙ ap (is_goal_of program vars) (sym r ∙ rolls-Exit) ∙ fold-Exit Bool (goal_step program vars)))

-- heads in range

-- what a head in range tells: its name, its arguments and their number
record HeadIn (names vars : ℕ) (indicator : Indicator) (args : List Term) : Type 0 where
  name : indicator.name < names
  arity : indicator.arity ≡ length args
  few : length args ≤ 255
  terms : AllByRecursion (IsInRange names vars) args

module _ (names vars : ℕ) where
  where_in : (b : Bool) (name arity : ℕ) (i : Indicator) → indicator_where b name arity ≡ Some i → record { name = name; arity = arity } ≡ i
  where_in true name arity i e = same_Some _ _ e
  where_in false name arity i e = absurd (none-some _ e)

  head_in : (t : Term) (i : Indicator) → IsInRange names vars t → indicator_at (out-Term t) ≡ Some i → HeadIn names vars i (parts_of (out-Term t))
  head_in t i is e = by (out-Term t) (roll-out-Term t) e
    where
      by : (x : layer.Term-F Term) → roll-Term x ≡ t → indicator_at x ≡ Some i → HeadIn names vars i (parts_of x)
      by (layer.Var v) r e' = absurd (none-some _ e')
      by (layer.Int n) r e' = absurd (none-some _ e')
      by (layer.Atom a) r e' =
          subst (λ j. HeadIn names vars j []) (where_in (may_be_head a 0) a 0 i e')
          (record { name = atom_name names vars a (subst (IsInRange names vars) (sym r ∙ rolls-Atom a) is); arity = refl; few = omega arith; terms = tt })
      by (layer.Node f ts) r e' =
          let whole = subst (IsInRange names vars) (sym r ∙ rolls-Node f ts) is in
          subst (λ j. HeadIn names vars j ts) (where_in (may_be_head f (length ts)) f (length ts) i e')
          (record { name = compound_name names vars f ts whole; arity = refl; few = compound_length names vars f ts whole; terms = compound_parts names vars f ts whole })

-- the name of a head and its number of arguments
pub heads_in : HeadsAreInRange
heads_in names s p h e =
    let head = head_in names s.vars (head_of s.term) p (split_in names s.vars NECK s.term h).0 e in
    let few : length (parts_of (out-Term (head_of s.term))) ≤ 255 = head.few in
    let arity : p.arity ≡ length (parts_of (out-Term (head_of s.term))) = head.arity in
    (head.name, omega (arith, few, arity))

is_equal : (n m : ℕ) → n ≡ m → (n == m) ≡ true
is_equal n m e = grind (arith, nat_tests)

-- clauses in range
module _ (visible : Visible) (file : ℕ) (s : Sentence) (old new : Grammar) (c : Compiled) where
  module _ (program : Program) (has : HasAllOf program visible s file new) where
    sides : SplitIn (length program.names) s.vars (split NECK s.term)
    sides = split_in (length program.names) s.vars NECK s.term has.sentence

    -- the clause of a head and a goal in range
    clause_in : (i : Indicator) (body : Goal) → HeadIn (length program.names) s.vars i (parts_of (out-Term (head_of s.term))) → IsGoal program visible s.vars has.preds body → IsClauseOf program (clause_with file s i body)
    clause_in i body head goals =
        let args = parts_of (out-Term (head_of s.term)) in
        let whole = goal_is_body program s.vars body goals in
        let few : length args ≤ 255 = head.few in
        let arity : i.arity ≡ length args = head.arity in
        record {
          name = is_less i.name (length program.names) head.name;
          arity = omega (arith, few, arity);
          clause =
              and_from ((length args == i.arity) && list_all (is_term_of program s.vars) args) (is_body_of program s.vars body && is_name_of program file)
              (and_from (length args == i.arity) (list_all (is_term_of program s.vars) args) (is_equal (length args) i.arity (sym arity)) (terms_pass program visible s.vars has.preds args head.terms))
              (and_from (is_body_of program s.vars body) (is_name_of program file) whole.1 has.place);
          no_exit = whole.0;
        }

    body_goal_in : (o : Option Term) → body_term s.term ≡ o → MadeIn program visible s.vars has.preds (IsGoal program visible s.vars has.preds) (length old.rules) (body_goal visible o old)
    body_goal_in None e = (omega arith, λ within. fold-True Bool (goal_step program s.vars))
    body_goal_in (Some body) e = (body_in program visible s.vars has.preds body (sides.1 body e)).makes old

    made_clause : (i : Indicator) → indicator_of s.term ≡ Some i → (o : Option (Goal × Grammar)) → MadeIn program visible s.vars has.preds (IsGoal program visible s.vars has.preds) (length old.rules) o
        → followed (λ body. made (clause_with file s i body)) o ≡ Some (c, new) → IsClauseOf program c
    made_clause i e None m e' = absurd (none-some _ e')
    made_clause i e (Some made) m e' =
        let same = same_Some _ _ e' in
        let within : length made.1.rules ≤ length program.grammar.rules = subst (λ g. length g.rules ≤ length program.grammar.rules) (sym (ap (λ r. r.1) same)) has.types in
        subst (IsClauseOf program) (ap (λ r. r.0) same)
        (clause_in i made.0 (head_in (length program.names) s.vars (head_of s.term) i sides.0 e) (m.1 within))

  compiled_in : (o : Option Indicator) → indicator_of s.term ≡ o → compiled_with visible file s o old ≡ Some (c, new) → StaysInRange visible s file new c
  compiled_in None e e' = absurd (none-some _ e')
  compiled_in (Some i) e e' = λ program has. made_clause program has i e (body_goal visible (body_term s.term) old) (body_goal_in program has (body_term s.term) refl) e'

  -- a sentence that becomes this clause
  pub clause_stays : compiled visible file s old ≡ Some (c, new) → StaysInRange visible s file new c
  clause_stays e = compiled_in (indicator_of s.term) refl e

-- A clause that is tried, with the values of one most general solution and with those of another.
use Rattle.std.proofs.Common.{◌≡◌, ◌≤◌, ℕ, suc, ◌+◌, Bool, true, false, List, [], ◌∷◌, ◌++◌, length, map, refl, arith}
use Rattle.std.specs.Prelude.{Some, if◌then◌else◌}
use Rattle.term_core.specs.declared.terms.Term.{Term}
use Rattle.term_core.specs.declared.equations.Binding.{Binding}
use Rattle.term_core.specs.declared.equations.Outcome.TheVariants.{Solved}
use Rattle.term_core.specs.Terms.{rename}
use Rattle.term_core.specs.Unify.{pairs, values, Unified}
use Rattle.prog_data.specs.declared.programs.Clause.{Clause}
use Rattle.prog_data.specs.declared.programs.Program.{Program}
use Rattle.machine_model.specs.State.{Call, Choice, Try, Doing, Failed, State, frame_instance, Item}
use Rattle.machine_model.specs.Tests.{Tests}
use Rattle.machine_model.specs.Step.{entered, tries, with_mark, mark_height}
use Rattle.machine_model.specs.LeanerLaws.{chosen, OthersCannotMatch}
use Rattle.term_core.specs.Variants.{IsMostGeneral}
use Rattle.term_core.proofs.VariantStages.{is_general}
use Rattle.machine_model.specs.Leaner.{clause_at, Kind, does, FramesAgree, CallsAgree, calls, ChoicesAgree, try, left_out, doing, IsLeaner, leaner, Kept, LeftOut, Older, whole, newer, Renaming, TermsAgree, ItemsAgree}
use Rattle.machine_model.proofs.LeanerChoices.{choices_more, calls_over, items_over, at_top, mark_new}
use Rattle.machine_model.proofs.LeanerClauses.{IsClosed, AreClosed}
use Rattle.machine_model.proofs.LeanerNames.{frames_solved, names_entered, terms_entered, items_entered, clause_terms, clause_goal, pairs_variants}
use Rattle.machine_model.proofs.LeanerSteps.{three_each, choices_lighter, exit_behind}

-- two newest choices that are tries, where neither state has more choices
pub record Tried (program : Program) (n n' : ℕ) (call call' : Call) (cs cs' : List Choice) : Type 0 where
  pub kinds : List Kind
  pub calls : CallsAgree kinds n n' call call'
  pub choices : ChoicesAgree program n n' kinds cs cs'

pub tried : {program : Program} {n n' : ℕ} {ks : List Kind} {k k' : ℕ} {call call' : Call} {cs cs' : List Choice} → ChoicesAgree program n n' ks (Try k call ∷ cs) (Try k' call' ∷ cs') → three_each cs ≤ three_each cs' → Tried program n n' call call' cs cs'
tried (try {ks = ks} are ch) le = record { kinds = ks; calls = are; choices = ch }
tried (left_out d ch) le = let lighter = choices_lighter ch in absurd (omega (arith, le, lighter))

-- the choices of a state and of a leaner one
pub choices_inside : (program : Program) (s s' : State) → IsLeaner program s s' → (ks : List Kind) × ChoicesAgree program s.fresh s'.fresh ks s.choices s'.choices
choices_inside program s s' (leaner {ks = ks} ch are) = (ks, ch)

module _ (what : Tests) (program : Program) (bound : ℕ) where
  -- the frames of the clause
  pub tried_frames : {ks : List Kind} {n n' : ℕ} (clause : Clause) (call call' : Call) (put put' : ℕ → Term) → IsClosed clause → CallsAgree ks n n' call call' → IsMostGeneral (pairs call.args (map (rename n) clause.head)) put → IsMostGeneral (pairs call'.args (map (rename n') clause.head)) put' →
      FramesAgree ks (n + clause.vars) (n' + clause.vars) (frame_instance put (entered what program bound n clause call)) (frame_instance put' (entered what program bound n' clause call'))
  tried_frames clause call call' put put' c (calls names js terms place marks items q) m m' =
      let vars = clause.vars in
      frames_solved (names_entered names vars) _ _ put put' (pairs_variants (terms_entered names vars terms) (clause_terms names vars c.head)) m m'
      (does js (clause_goal names vars c.body) place (exit_behind (what.exits clause.body) _ _ (terms_entered names vars terms) marks (items_entered names vars items))) (terms_entered names vars q)

  -- the state after a clause was tried, and the one that another most general solution gives
  pub tried_leaner : (made n k : ℕ) (clause : Clause) (call : Call) (cs : List Choice) (bs : List Binding) (put : ℕ → Term) → AreClosed program → clause_at program call.pred k ≡ Some clause →
      IsLeaner program (record { calls = made; fresh = n; choices = Try k call ∷ cs; current = Failed }) (record { calls = made; fresh = n; choices = Try k call ∷ cs; current = Failed }) →
      Unified (pairs call.args (map (rename n) clause.head)) (Solved bs) → IsMostGeneral (pairs call.args (map (rename n) clause.head)) put →
      IsLeaner program (record { calls = made; fresh = n + clause.vars; choices = cs; current = Doing (frame_instance (values bs) (entered what program bound n clause call)) })
      (record { calls = made; fresh = n + clause.vars; choices = cs; current = Doing (frame_instance put (entered what program bound n clause call)) })
  tried_leaner made n k clause call cs bs put closed is_there own u m =
      let t = tried (choices_inside program _ _ own).1 (omega arith) in
      leaner (choices_more (omega arith) (omega arith) t.choices) (doing (tried_frames clause call call (values bs) put (closed call.pred k clause is_there) t.calls (is_general _ bs u) m))

-- the clauses that an index leaves out

module _ (program : Program) (n n' : ℕ) where
  tries_chosen : (ks : List Kind) (chooses : ℕ → Bool) (k : ℕ) (cl : List Clause) (call call' : Call) (under under' : List Choice) → CallsAgree ks n n' call call' → ChoicesAgree program n n' ks under under' → OthersCannotMatch program chooses k (length cl) call →
      (js : List Kind) × Older js ks × ChoicesAgree program n n' js (tries k cl call ++ under) (chosen chooses k cl call' ++ under')
  tries_chosen ks chooses k [] call call' under under' are ch out = (ks, whole, ch)
  tries_chosen ks chooses k (c ∷ cl) call call' under under' are ch out =
      by_choice (chooses k) refl (tries_chosen ks chooses (suc k) cl call call' under under' are ch (λ i le lt no_choice. out i (omega (arith, le)) (omega (arith, lt)) no_choice))
    where
      by_choice : (b : Bool) → chooses k ≡ b → (js : List Kind) × Older js ks × ChoicesAgree program n n' js (tries (suc k) cl call ++ under) (chosen chooses (suc k) cl call' ++ under') →
          (js : List Kind) × Older js ks × ChoicesAgree program n n' js (Try k call ∷ tries (suc k) cl call ++ under) ((if b then Try k call' ∷ chosen chooses (suc k) cl call' else chosen chooses (suc k) cl call') ++ under')
      by_choice true e t = (Kept ∷ t.0, newer t.1, try (calls_over t.1 are) t.2)
      by_choice false e t = (LeftOut ∷ t.0, newer t.1, left_out (out k (omega arith) (omega arith) e) t.2)

  -- the choices after a call, in the other state without the clauses that are left out
  pub called_choices : {ks : List Kind} {cs cs' : List Choice} {is is' : List Item} {query query' : Term} (names : Renaming n n') (p : ℕ) (args args' : List Term) (noted marked : List ℕ) (cl : List Clause) (chooses : ℕ → Bool) →
      ChoicesAgree program n n' ks cs cs' → TermsAgree names.there names.back args args' → ItemsAgree names.there names.back ks is is' → TermsAgree names.there names.back (query ∷ []) (query' ∷ []) →
      OthersCannotMatch program chooses 0 (length cl) (record { pred = p; args = args; noted = noted; mark = mark_height marked cs; height = length (with_mark p marked cs); rest = record { items = is; query = query } }) →
      (js : List Kind) × ChoicesAgree program n n' js
      (tries 0 cl (record { pred = p; args = args; noted = noted; mark = mark_height marked cs; height = length (with_mark p marked cs); rest = record { items = is; query = query } }) ++ with_mark p marked cs)
      (chosen chooses 0 cl (record { pred = p; args = args'; noted = noted; mark = mark_height marked cs'; height = length (with_mark p marked cs'); rest = record { items = is'; query = query' } }) ++ with_mark p marked cs')
  called_choices names p args args' noted marked cl chooses ch terms items q out =
      let m = mark_new program n n' p marked ch in
      let t = tries_chosen m.kinds chooses 0 cl _ _ _ _ (calls names m.kinds terms (at_top program n n' m.choices) m.marks (items_over names.there names.back m.older items) q) m.choices out in
      (t.0, t.2)

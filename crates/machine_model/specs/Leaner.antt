-- A state and a leaner one: variables have other names, exits that test nothing and clauses that cannot match are gone, and each height counts the choices that are left.
-- The headline does not rest on this file; the relation is only a means to show that two states tell the same.
use Rattle.std.specs.Prelude.{◌≡◌, ◌≤◌, ℕ, suc, Bool, List, [], ◌∷◌, map, length, Option, None, Some, slice_get}
use Rattle.term_core.specs.declared.terms.Term.{Term, Atom}
use Rattle.term_core.specs.Terms.{instance, rename}
use Rattle.term_core.specs.Unify.{move, Clashes}
use Rattle.prog_data.specs.declared.goals.Goal.{Goal}
use Rattle.prog_data.specs.declared.programs.Place.{Place}
use Rattle.prog_data.specs.declared.programs.Clause.{Clause}
use Rattle.prog_data.specs.declared.programs.Program.{Program}
use Rattle.prog_data.specs.Goals.{goal_instance, pred_of}
use Rattle.machine_model.specs.State.{Item, Does, CutTo, Exits, Frame, Call, Choice, Resume, Try, Mark, Current, Doing, Failed, State}

-- choices by kind

-- a choice that both states have, and a clause still to be tried that the leaner one lacks
pub data Kind : Type 0 where
  Kept : Kind
  LeftOut : Kind

-- how many of the choices the leaner state has
abbrev pub kept : List Kind → ℕ
kept [] = 0
kept (Kept ∷ ks) = suc (kept ks)
kept (LeftOut ∷ ks) = kept ks

-- the older part of a list
pub data Older : List Kind → List Kind → Type 0 where
  whole : {ks : List Kind} → Older ks ks
  newer : {k : Kind} {ks js : List Kind} → Older ks js → Older (k ∷ ks) js

-- one place among the choices, as a height in each state: above these older ones
pub data HeightsAgree (ks : List Kind) (h h' : ℕ) (js : List Kind) : Type 0 where
  at : Older ks js → h ≡ length js → h' ≡ kept js → HeightsAgree ks h h' js

-- no mark, or the heights of one mark that both have
pub data MarksAgree (ks : List Kind) : Option ℕ → Option ℕ → Type 0 where
  no_mark : MarksAgree ks None None
  a_mark : {h h' : ℕ} (js : List Kind) → Older ks (Kept ∷ js) → h ≡ length js → h' ≡ kept js → MarksAgree ks (Some h) (Some h')

-- the clause with a number of the predicate with a number, if it is there
abbrev pub clause_at : Program → (pred : ℕ) → (clause : ℕ) → Option Clause
clause_at program p k = slice_get (pred_of program p).clauses k

-- the first equation of the call and the clause with this number clashes, whatever the clause's variables are
pub record CannotMatch (program : Program) (k : ℕ) (call : Call) : Type 0 where
  pub clause : Clause
  pub is_there : clause_at program call.pred k ≡ Some clause
  pub arg : Term
  pub head : Term
  pub args : List Term
  pub heads : List Term
  pub args_are : call.args ≡ arg ∷ args
  pub head_is : clause.head ≡ head ∷ heads
  pub clashes : (base : ℕ) → move (record { left = arg; right = rename base head }) ≡ Clashes

-- names

-- values that lead from the variables below n to those below n' and back; a variable at or above these has an atom, so that no term with it comes back
pub record Renaming (n n' : ℕ) : Type 0 where
  pub there : ℕ → Term
  pub back : ℕ → Term
  pub there_ends : (v : ℕ) → n ≤ v → there v ≡ Atom 0
  pub back_ends : (v : ℕ) → n' ≤ v → back v ≡ Atom 0

module _ (there back : ℕ → Term) where
  -- each of two goals is an instance of the other
  pub record GoalsAgree (g g' : Goal) : Type 0 where
    pub is_there : goal_instance there g ≡ g'
    pub is_back : goal_instance back g' ≡ g

  -- each of two lists of terms is an instance of the other
  pub record TermsAgree (ts ts' : List Term) : Type 0 where
    pub is_there : map (instance there) ts ≡ ts'
    pub is_back : map (instance back) ts' ≡ ts

  -- the items of two frames above these choices; a goal's items behind it see only the choices below its height
  pub data ItemsAgree : List Kind → List Item → List Item → Type 0 where
    none : {ks : List Kind} → ItemsAgree ks [] []
    does : {ks : List Kind} {g g' : Goal} {h h' : ℕ} {place : Place} {rest rest' : List Item} (js : List Kind) → GoalsAgree g g' → HeightsAgree ks h h' js → ItemsAgree js rest rest' → ItemsAgree ks (Does g h place ∷ rest) (Does g' h' place ∷ rest')
    cuts : {ks : List Kind} {h h' : ℕ} {rest rest' : List Item} (js : List Kind) → HeightsAgree ks h h' js → ItemsAgree js rest rest' → ItemsAgree ks (CutTo h ∷ rest) (CutTo h' ∷ rest')
    exits : {ks : List Kind} {p : ℕ} {args args' : List Term} {noted : List ℕ} {mark mark' : Option ℕ} {rest rest' : List Item} → TermsAgree args args' → MarksAgree ks mark mark' → ItemsAgree ks rest rest' →
        ItemsAgree ks (Exits p args noted mark ∷ rest) (Exits p args' noted mark' ∷ rest')
    -- an exit that tests nothing
    idle : {ks : List Kind} {p : ℕ} {args : List Term} {rest rest' : List Item} → ItemsAgree ks rest rest' → ItemsAgree ks (Exits p args [] None ∷ rest) rest'

-- states

-- two frames above these choices, by names of their own
pub data FramesAgree (ks : List Kind) (n n' : ℕ) : Frame → Frame → Type 0 where
  frames : {is is' : List Item} {query query' : Term} (names : Renaming n n') → ItemsAgree names.there names.back ks is is' → TermsAgree names.there names.back (query ∷ []) (query' ∷ []) →
      FramesAgree ks n n' (record { items = is; query = query }) (record { items = is'; query = query' })

-- two calls above these choices, by names of their own; a call's mark is below its height
pub data CallsAgree (ks : List Kind) (n n' : ℕ) : Call → Call → Type 0 where
  calls : {p : ℕ} {args args' : List Term} {noted : List ℕ} {mark mark' : Option ℕ} {h h' : ℕ} {is is' : List Item} {query query' : Term} (names : Renaming n n') (js : List Kind) →
      TermsAgree names.there names.back args args' → HeightsAgree ks h h' js → MarksAgree js mark mark' → ItemsAgree names.there names.back js is is' → TermsAgree names.there names.back (query ∷ []) (query' ∷ []) →
      CallsAgree ks n n' (record { pred = p; args = args; noted = noted; mark = mark; height = h; rest = record { items = is; query = query } })
      (record { pred = p; args = args'; noted = noted; mark = mark'; height = h'; rest = record { items = is'; query = query' } })

-- the choices of two states, whose next variables are n and n'
pub data ChoicesAgree (program : Program) (n n' : ℕ) : List Kind → List Choice → List Choice → Type 0 where
  none : ChoicesAgree program n n' [] [] []
  resume : {ks : List Kind} {f f' : Frame} {cs cs' : List Choice} → FramesAgree ks n n' f f' → ChoicesAgree program n n' ks cs cs' → ChoicesAgree program n n' (Kept ∷ ks) (Resume f ∷ cs) (Resume f' ∷ cs')
  try : {ks : List Kind} {k : ℕ} {call call' : Call} {cs cs' : List Choice} → CallsAgree ks n n' call call' → ChoicesAgree program n n' ks cs cs' → ChoicesAgree program n n' (Kept ∷ ks) (Try k call ∷ cs) (Try k call' ∷ cs')
  mark : {ks : List Kind} {p : ℕ} {conds : List ℕ} {e : Bool} {cs cs' : List Choice} → ChoicesAgree program n n' ks cs cs' → ChoicesAgree program n n' (Kept ∷ ks) (Mark p conds e ∷ cs) (Mark p conds e ∷ cs')
  left_out : {ks : List Kind} {k : ℕ} {call : Call} {cs cs' : List Choice} → CannotMatch program k call → ChoicesAgree program n n' ks cs cs' → ChoicesAgree program n n' (LeftOut ∷ ks) (Try k call ∷ cs) cs'

-- what is current: frames, or none
pub data CurrentsAgree (ks : List Kind) (n n' : ℕ) : Current → Current → Type 0 where
  doing : {f f' : Frame} → FramesAgree ks n n' f f' → CurrentsAgree ks n n' (Doing f) (Doing f')
  failed : CurrentsAgree ks n n' Failed Failed

-- two states with as many calls made, of which the second is the leaner; no equations are being solved
pub data IsLeaner (program : Program) : State → State → Type 0 where
  leaner : {ks : List Kind} {calls n n' : ℕ} {cs cs' : List Choice} {c c' : Current} → ChoicesAgree program n n' ks cs cs' → CurrentsAgree ks n n' c c' →
      IsLeaner program (record { calls = calls; fresh = n; choices = cs; current = c }) (record { calls = calls; fresh = n'; choices = cs'; current = c' })

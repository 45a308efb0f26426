-- A leaner state may have a smaller number above all variables, and may lack exits that test nothing.
use Rattle.std.proofs.Common.{◌≡◌, ℕ, Bool, true, false, List, [], ◌∷◌, map, refl, ap, sym, ◌∙◌, subst}
use Rattle.std.proofs.lemmas.Bool.{le-leb}
use Rattle.std.specs.Prelude.{if◌then◌else◌, nat_le, Option}
use Rattle.term_core.specs.declared.terms.Term.{Term, Var, Atom}
use Rattle.term_core.specs.Terms.{instance, instance_step}
use Rattle.term_core.proofs.TermFolds.{fold-Atom}
use Rattle.term_core.proofs.TermLaws.{instance-Var, instance-instance, map_map}
use Rattle.prog_data.specs.declared.goals.Goal.{Goal}
use Rattle.prog_data.specs.declared.programs.Place.{Place}
use Rattle.prog_data.specs.declared.programs.Program.{Program}
use Rattle.prog_data.specs.Goals.{goal_instance}
use Rattle.machine_model.specs.State.{Item, Does, Exits, Frame, Call, Choice, Current, Doing, State, item_instance}
use Rattle.machine_model.specs.Leaner.{Kind, Renaming, GoalsAgree, TermsAgree, ItemsAgree, does, cuts, exits, idle, no_mark, a_mark, FramesAgree, frames, CallsAgree, calls, ChoicesAgree, resume, try, mark, left_out, CurrentsAgree, doing, failed, IsLeaner, leaner}
use Rattle.machine_model.specs.Leaner as rel
use Rattle.machine_model.specs.LeanerLaws.{below, IsFrameBelow, IsCallBelow, AreBelow, IsCurrentBelow, lean}
use Rattle.prog_data.proofs.GoalInstances.{goal_instance-instance}

-- smaller numbers

-- values of the variables below m alone
abbrev lower : ℕ → (ℕ → Term) → ℕ → Term
lower m back v = if nat_le m v then Atom 0 else back v

module _ (m : ℕ) (there back : ℕ → Term) where
  agree : (v : ℕ) (b : Bool) → nat_le m v ≡ b → instance (lower m back) (if b then Atom 0 else Var v) ≡ instance back (if b then Atom 0 else Var v)
  agree v true e = fold-Atom Term (instance_step (lower m back)) 0 ∙ sym (fold-Atom Term (instance_step back) 0)
  agree v false e = instance-Var (lower m back) v ∙ ap (λ b. if b then Atom 0 else back v) e ∙ sym (instance-Var back v)

  agrees : (v : ℕ) → instance (lower m back) (below m v) ≡ instance back (below m v)
  agrees v = agree v (nat_le m v) refl

  term_lower : (t : Term) → instance (lower m back) (instance (below m) t) ≡ instance back (instance (below m) t)
  term_lower t = instance-instance (lower m back) (below m) t ∙ (λ i. instance (λ v. agrees v i) t) ∙ sym (instance-instance back (below m) t)

  terms_lower : {ts ts' : List Term} → map (instance (below m)) ts' ≡ ts' → TermsAgree there back ts ts' → TermsAgree there (lower m back) ts ts'
  terms_lower {ts} {ts'} e are = record {
    is_there = are.is_there;
    is_back = ap (map (instance (lower m back))) (sym e) ∙ map_map (instance (lower m back)) (instance (below m)) ts' ∙ (λ i. map (λ t. term_lower t i) ts') ∙ sym (map_map (instance back) (instance (below m)) ts') ∙ ap (map (instance back)) e ∙ are.is_back;
  }

  goals_lower : {g g' : Goal} → goal_instance (below m) g' ≡ g' → GoalsAgree there back g g' → GoalsAgree there (lower m back) g g'
  goals_lower {g} {g'} e are = record {
    is_there = are.is_there;
    is_back = ap (goal_instance (lower m back)) (sym e) ∙ goal_instance-instance (lower m back) (below m) g' ∙ (λ i. goal_instance (λ v. agrees v i) g') ∙ sym (goal_instance-instance back (below m) g') ∙ ap (goal_instance back) e ∙ are.is_back;
  }

  cons_inside : (x y : Item) (xs ys : List Item) → x ∷ xs ≡ y ∷ ys → (x ≡ y) × (xs ≡ ys)
  cons_inside x y xs ys e = (cc, cc)

  goal_inside : (g g' : Goal) (h : ℕ) (place : Place) → Does g h place ≡ Does g' h place → g ≡ g'
  goal_inside g g' h place e = cc

  args_inside : (p : ℕ) (ts us : List Term) (noted : List ℕ) (x : Option ℕ) → Exits p ts noted x ≡ Exits p us noted x → ts ≡ us
  args_inside p ts us noted x e = cc

  items_lower : {ks : List Kind} {is is' : List Item} → map (item_instance (below m)) is' ≡ is' → ItemsAgree there back ks is is' → ItemsAgree there (lower m back) ks is is'
  items_lower e rel.none = rel.none
  items_lower e (does js g place rest) = let h = cons_inside _ _ _ _ e in does js (goals_lower (goal_inside _ _ _ _ h.0) g) place (items_lower h.1 rest)
  items_lower e (cuts js place rest) = cuts js place (items_lower (cons_inside _ _ _ _ e).1 rest)
  items_lower e (exits args x rest) = let h = cons_inside _ _ _ _ e in exits (terms_lower (args_inside _ _ _ _ _ h.0) args) x (items_lower h.1 rest)
  items_lower e (idle rest) = idle (items_lower e rest)

module _ (m : ℕ) where
  abbrev names_lower : {n n' : ℕ} → Renaming n n' → Renaming n m
  names_lower names = record {
    there = names.there;
    back = lower m names.back;
    there_ends = names.there_ends;
    back_ends = λ v le. ap (λ b. if b then Atom 0 else names.back v) (le-leb m v le);
  }

  frames_lower : {ks : List Kind} {n n' : ℕ} {f f' : Frame} → IsFrameBelow m f' → FramesAgree ks n n' f f' → FramesAgree ks n m f f'
  frames_lower e (frames names items query) =
      frames (names_lower names) (items_lower m names.there names.back (ap (λ f. f.items) e) items) (terms_lower m names.there names.back (ap (λ f. f.query ∷ []) e) query)

  calls_lower : {ks : List Kind} {n n' : ℕ} {c c' : Call} → IsCallBelow m c' → CallsAgree ks n n' c c' → CallsAgree ks n m c c'
  calls_lower e (calls names js args place x items query) =
      calls (names_lower names) js (terms_lower m names.there names.back e.0 args) place x (items_lower m names.there names.back (ap (λ f. f.items) e.1) items) (terms_lower m names.there names.back (ap (λ f. f.query ∷ []) e.1) query)

  choices_lower : {program : Program} {n n' : ℕ} {ks : List Kind} {cs cs' : List Choice} → AreBelow m cs' → ChoicesAgree program n n' ks cs cs' → ChoicesAgree program n m ks cs cs'
  choices_lower all rel.none = rel.none
  choices_lower all (resume f rest) = resume (frames_lower all.0 f) (choices_lower all.1 rest)
  choices_lower all (try call rest) = try (calls_lower all.0 call) (choices_lower all.1 rest)
  choices_lower all (mark rest) = mark (choices_lower all rest)
  choices_lower all (left_out d rest) = left_out d (choices_lower all rest)

  currents_lower : {ks : List Kind} {n n' : ℕ} {c c' : Current} → IsCurrentBelow m c' → CurrentsAgree ks n n' c c' → CurrentsAgree ks n m c c'
  currents_lower e (doing f) = doing (frames_lower e f)
  currents_lower e failed = failed

  -- any number above all variables of the leaner state will do
  pub leaner_lower : (program : Program) (s s' : State) → AreBelow m s'.choices → IsCurrentBelow m s'.current → IsLeaner program s s' → IsLeaner program s (record s' { fresh = m })
  leaner_lower program s s' all now (leaner ch are) = leaner (choices_lower all ch) (currents_lower now are)

-- exits that test nothing

items_lean : {there back : ℕ → Term} {ks : List Kind} {is is' : List Item} → ItemsAgree there back ks is is' → ItemsAgree there back ks is (lean is')
items_lean rel.none = rel.none
items_lean (does js g place rest) = does js g place (items_lean rest)
items_lean (cuts js place rest) = cuts js place (items_lean rest)
items_lean (exits {noted = []} args no_mark rest) = idle (items_lean rest)
items_lean (exits {noted = []} args (a_mark js o e e') rest) = exits args (a_mark js o e e') (items_lean rest)
items_lean (exits {noted = c ∷ noted} args x rest) = exits args x (items_lean rest)
items_lean (idle rest) = idle (items_lean rest)

frames_lean : {ks : List Kind} {n n' : ℕ} {f f' : Frame} → FramesAgree ks n n' f f' → FramesAgree ks n n' f (record f' { items = lean f'.items })
frames_lean (frames names items query) = frames names (items_lean items) query

doing_inside : (f g : Frame) → Doing f ≡ Doing g → f ≡ g
doing_inside f g e = cc

currents_lean : {ks : List Kind} {n n' : ℕ} (c c' : Current) (f : Frame) → c' ≡ Doing f → CurrentsAgree ks n n' c c' → CurrentsAgree ks n n' c (Doing (record f { items = lean f.items }))
currents_lean {ks} {n} {n'} c c' f e (doing {f = g} {f' = g'} are) = doing (subst (λ x. FramesAgree ks n n' g (record x { items = lean x.items })) (doing_inside g' f e) (frames_lean are))
currents_lean c c' f e failed = cc

-- the frame that is done may lack them
pub leaner_lean : (program : Program) (s s' : State) (f : Frame) → s'.current ≡ Doing f → IsLeaner program s s' → IsLeaner program s (record s' { current = Doing (record f { items = lean f.items }) })
leaner_lean program s s' f e (leaner {c = c} {c' = c'} ch are) = leaner ch (currents_lean c c' f e are)

-- A state of a run that tests every condition, and the one that a run which has only some of them is in: marks with none of these are gone, and each height counts the choices that are left.
use Rattle.std.proofs.Common.{◌≡◌, ℕ, suc, ◌<◌, ◌≤◌, Bool, true, false, List, [], ◌∷◌, length, map, refl, ap, sym, ◌∙◌, subst, arith, cond, ◌⊎◌, inl, inr}
use Rattle.std.specs.Prelude.{Option, None, Some, filter}
use Rattle.term_core.specs.declared.terms.Term.{Term}
use Rattle.term_core.specs.Unify.{Stage}
use Rattle.prog_data.specs.declared.goals.Goal.{Goal}
use Rattle.prog_data.specs.declared.programs.Place.{Place}
use Rattle.machine_model.specs.State.{Item, Does, CutTo, Exits, Frame, Call, Choice, Resume, Try, Mark, Current, Doing, Solving, Failed, State, item_instance, cut, choice_at, exit_mark}
use Rattle.machine_model.specs.Step.{mark_of, mark_conds, mark_exited, with_mark, mark_height}
use Rattle.machine_model.proofs.Heights.{cut_on, cut_whole, at_here, at_newer, exit_here, exit_newer}

-- a choice that is no mark, a mark that both have, and one that the other lacks, with its conditions
pub data Kind : Type 0 where
  Plain : Kind
  Kept : List ℕ → Kind
  Dropped : List ℕ → Kind

-- how many of the choices the other run has
abbrev pub plain : List Kind → ℕ
plain [] = 0
plain (Plain ∷ ks) = suc (plain ks)
plain (Kept conds ∷ ks) = suc (plain ks)
plain (Dropped conds ∷ ks) = plain ks

-- the older part of a list
pub data Older : List Kind → List Kind → Type 0 where
  whole : {ks : List Kind} → Older ks ks
  newer : {k : Kind} {ks js : List Kind} → Older ks js → Older (k ∷ ks) js

pub older_older : {ks js is : List Kind} → Older ks js → Older js is → Older ks is
older_older whole b = b
older_older (newer a) b = newer (older_older a b)

pub older_shorter : {ks js : List Kind} → Older ks js → length js ≤ length ks
older_shorter whole = omega arith
older_shorter (newer o) = let p = older_shorter o in omega (arith, p)

pub older_plainer : {ks js : List Kind} → Older ks js → plain js ≤ plain ks
older_plainer whole = omega arith
older_plainer (newer {k = Plain} o) = let p = older_plainer o in omega (arith, p)
older_plainer (newer {k = Kept conds} o) = let p = older_plainer o in omega (arith, p)
older_plainer (newer {k = Dropped conds} o) = older_plainer o

-- the height of a mark in each
pub data Marks : List Kind → Option ℕ → Option ℕ → Type 0 where
  no_mark : {ks : List Kind} → Marks ks None None
  kept_mark : {ks : List Kind} {h h' : ℕ} (conds : List ℕ) (js : List Kind) → Older ks (Kept conds ∷ js) → h ≡ length js → h' ≡ plain js → Marks ks (Some h) (Some h')
  dropped_mark : {ks : List Kind} {h : ℕ} (conds : List ℕ) (js : List Kind) → Older ks (Dropped conds ∷ js) → h ≡ length js → Marks ks (Some h) None

pub marks_over : {ks js : List Kind} {m m' : Option ℕ} → Older ks js → Marks js m m' → Marks ks m m'
marks_over o no_mark = no_mark
marks_over o (kept_mark conds is below h h') = kept_mark conds is (older_older o below) h h'
marks_over o (dropped_mark conds is below h) = dropped_mark conds is (older_older o below) h

module _ (keeps : ℕ → Bool) where
  pub data Items : List Kind → List Item → List Item → Type 0 where
    none : {ks : List Kind} → Items ks [] []
    does : {ks : List Kind} {g : Goal} {h h' : ℕ} {place : Place} {rest rest' : List Item} (js : List Kind) → Older ks js → h ≡ length js → h' ≡ plain js → Items js rest rest' → Items ks (Does g h place ∷ rest) (Does g h' place ∷ rest')
    cuts : {ks : List Kind} {h h' : ℕ} {rest rest' : List Item} (js : List Kind) → Older ks js → h ≡ length js → h' ≡ plain js → Items js rest rest' → Items ks (CutTo h ∷ rest) (CutTo h' ∷ rest')
    exits : {ks : List Kind} {p : ℕ} {args : List Term} {noted noted' : List ℕ} {mark mark' : Option ℕ} {rest rest' : List Item} → noted' ≡ filter keeps noted → Marks ks mark mark' → Items ks rest rest' →
        Items ks (Exits p args noted mark ∷ rest) (Exits p args noted' mark' ∷ rest')

  pub items_over : {ks js : List Kind} {is is' : List Item} → Older ks js → Items js is is' → Items ks is is'
  items_over o none = none
  items_over o (does is below h h' rest) = does is (older_older o below) h h' rest
  items_over o (cuts is below h h' rest) = cuts is (older_older o below) h h' rest
  items_over o (exits e m rest) = exits e (marks_over o m) (items_over o rest)

  pub items_instance : {ks : List Kind} {is is' : List Item} (value : ℕ → Term) → Items ks is is' → Items ks (map (item_instance value) is) (map (item_instance value) is')
  items_instance value none = none
  items_instance value (does js below h h' rest) = does js below h h' (items_instance value rest)
  items_instance value (cuts js below h h' rest) = cuts js below h h' (items_instance value rest)
  items_instance value (exits e m rest) = exits e m (items_instance value rest)

  pub data Frames (ks : List Kind) : Frame → Frame → Type 0 where
    frames : {is is' : List Item} {query : Term} → Items ks is is' → Frames ks (record { items = is; query = query }) (record { items = is'; query = query })

  pub data Calls (ks : List Kind) : Call → Call → Type 0 where
    calls : {p : ℕ} {args : List Term} {noted noted' : List ℕ} {mark mark' : Option ℕ} {h h' : ℕ} {rest rest' : Frame} (js : List Kind) → Older ks js → h ≡ length js → h' ≡ plain js → noted' ≡ filter keeps noted → Marks js mark mark' → Frames js rest rest' →
        Calls ks (record { pred = p; args = args; noted = noted; mark = mark; height = h; rest = rest }) (record { pred = p; args = args; noted = noted'; mark = mark'; height = h'; rest = rest' })

  pub calls_over : {ks js : List Kind} {c c' : Call} → Older ks js → Calls js c c' → Calls ks c c'
  calls_over o (calls is below h h' e m rest) = calls is (older_older o below) h h' e m rest

  pub data Choices : List Kind → List Choice → List Choice → Type 0 where
    none : Choices [] [] []
    resume : {ks : List Kind} {f f' : Frame} {cs cs' : List Choice} → Frames ks f f' → Choices ks cs cs' → Choices (Plain ∷ ks) (Resume f ∷ cs) (Resume f' ∷ cs')
    try : {ks : List Kind} {k : ℕ} {call call' : Call} {cs cs' : List Choice} → Calls ks call call' → Choices ks cs cs' → Choices (Plain ∷ ks) (Try k call ∷ cs) (Try k call' ∷ cs')
    kept : {ks : List Kind} {p : ℕ} {conds conds' : List ℕ} {e : Bool} {cs cs' : List Choice} → conds' ≡ filter keeps conds → Choices ks cs cs' → Choices (Kept conds ∷ ks) (Mark p conds e ∷ cs) (Mark p conds' e ∷ cs')
    dropped : {ks : List Kind} {p : ℕ} {conds : List ℕ} {e : Bool} {cs cs' : List Choice} → [] ≡ filter keeps conds → Choices ks cs cs' → Choices (Dropped conds ∷ ks) (Mark p conds e ∷ cs) cs'

  pub data Currents (ks : List Kind) : Current → Current → Type 0 where
    doing : {f f' : Frame} → Frames ks f f' → Currents ks (Doing f) (Doing f')
    solving : {place : Place} {stage : Stage} {f f' : Frame} → Frames ks f f' → Currents ks (Solving place stage f) (Solving place stage f')
    failed : Currents ks Failed Failed

  pub data States : State → State → Type 0 where
    states : {ks : List Kind} {calls fresh : ℕ} {cs cs' : List Choice} {c c' : Current} → Choices ks cs cs' → Currents ks c c' →
        States (record { calls = calls; fresh = fresh; choices = cs; current = c }) (record { calls = calls; fresh = fresh; choices = cs'; current = c' })

  -- lengths

  pub length_kinds : {ks : List Kind} {cs cs' : List Choice} → Choices ks cs cs' → length ks ≡ length cs
  length_kinds none = refl
  length_kinds (resume f rest) = ap suc (length_kinds rest)
  length_kinds (try call rest) = ap suc (length_kinds rest)
  length_kinds (kept e rest) = ap suc (length_kinds rest)
  length_kinds (dropped e rest) = ap suc (length_kinds rest)

  pub plain_kinds : {ks : List Kind} {cs cs' : List Choice} → Choices ks cs cs' → plain ks ≡ length cs'
  plain_kinds none = refl
  plain_kinds (resume f rest) = ap suc (plain_kinds rest)
  plain_kinds (try call rest) = ap suc (plain_kinds rest)
  plain_kinds (kept e rest) = ap suc (plain_kinds rest)
  plain_kinds (dropped e rest) = plain_kinds rest

  -- cuts

  cut_all : {ks : List Kind} {cs cs' : List Choice} → Choices ks cs cs' → Choices ks (cut (length ks) cs) (cut (plain ks) cs')
  cut_all {ks} {cs} {cs'} rel =
      subst (λ x. Choices ks x (cut (plain ks) cs')) (sym (ap (λ n. cut n cs) (length_kinds rel) ∙ cut_whole cs)) (subst (λ x. Choices ks cs x) (sym (ap (λ n. cut n cs') (plain_kinds rel) ∙ cut_whole cs')) rel)

  shorter : {ks js : List Kind} {cs cs' : List Choice} → Choices ks cs cs' → Older ks js → length js ≤ length cs
  shorter rel o = let p = older_shorter o in let e = length_kinds rel in omega (arith, p, e)

  plainer : {ks js : List Kind} {cs cs' : List Choice} → Choices ks cs cs' → Older ks js → plain js ≤ length cs'
  plainer rel o = let p = older_plainer o in let e = plain_kinds rel in omega (arith, p, e)

  both : {ks js : List Kind} (c c' : Choice) {cs cs' : List Choice} → Choices ks cs cs' → Older ks js → Choices js (cut (length js) cs) (cut (plain js) cs') → Choices js (cut (length js) (c ∷ cs)) (cut (plain js) (c' ∷ cs'))
  both {ks} {js} c c' {cs} {cs'} rel o r =
      subst (λ x. Choices js x (cut (plain js) (c' ∷ cs'))) (sym (cut_on (length js) c cs (shorter rel o))) (subst (λ x. Choices js (cut (length js) cs) x) (sym (cut_on (plain js) c' cs' (plainer rel o))) r)

  pub cut_choices : {ks js : List Kind} {cs cs' : List Choice} → Choices ks cs cs' → Older ks js → Choices js (cut (length js) cs) (cut (plain js) cs')
  cut_choices rel whole = cut_all rel
  cut_choices (resume {f = f} {f' = f'} r rest) (newer o) = both (Resume f) (Resume f') rest o (cut_choices rest o)
  cut_choices (try {k = k} {call = call} {call' = call'} r rest) (newer o) = both (Try k call) (Try k call') rest o (cut_choices rest o)
  cut_choices (kept {p = p} {conds = conds} {conds' = conds'} {e = e} same rest) (newer o) = both (Mark p conds e) (Mark p conds' e) rest o (cut_choices rest o)
  cut_choices {js = js} (dropped {p = p} {conds = conds} {e = e} {cs = cs} {cs' = cs'} same rest) (newer o) =
      subst (λ x. Choices js x (cut (plain js) cs')) (sym (cut_on (length js) (Mark p conds e) cs (shorter rest o))) (cut_choices rest o)

  -- exits

  pub filter_keep : (f : ℕ → Bool) (c : ℕ) (cs : List ℕ) → f c ≡ true → filter f (c ∷ cs) ≡ c ∷ filter f cs
  filter_keep f c cs e = ap (λ b. cond b (c ∷ filter f cs) (filter f cs)) e

  pub filter_drop : (f : ℕ → Bool) (c : ℕ) (cs : List ℕ) → f c ≡ false → filter f (c ∷ cs) ≡ filter f cs
  filter_drop f c cs e = ap (λ b. cond b (c ∷ filter f cs) (filter f cs)) e

  pub filter_filter : (f g : ℕ → Bool) (cs : List ℕ) → filter f (filter g cs) ≡ filter g (filter f cs)
  filter_filter f g [] = refl
  filter_filter f g (c ∷ cs) = by_tests (f c) (g c) refl refl (filter_filter f g cs)
    where
      by_tests : (a b : Bool) → f c ≡ a → g c ≡ b → filter f (filter g cs) ≡ filter g (filter f cs) → filter f (filter g (c ∷ cs)) ≡ filter g (filter f (c ∷ cs))
      by_tests true true e e' ih = ap (filter f) (filter_keep g c cs e') ∙ filter_keep f c _ e ∙ ap (λ x. c ∷ x) ih ∙ sym (filter_keep g c _ e') ∙ ap (filter g) (sym (filter_keep f c cs e))
      by_tests true false e e' ih = ap (filter f) (filter_drop g c cs e') ∙ ih ∙ sym (filter_drop g c _ e') ∙ ap (filter g) (sym (filter_keep f c cs e))
      by_tests false true e e' ih = ap (filter f) (filter_keep g c cs e') ∙ filter_drop f c _ e ∙ ih ∙ ap (filter g) (sym (filter_drop f c cs e))
      by_tests false false e e' ih = ap (filter f) (filter_drop g c cs e') ∙ ih ∙ ap (filter g) (sym (filter_drop f c cs e))

  -- two tests that agree on what is kept
  abbrev pub Agree : (ℕ → Bool) → (ℕ → Bool) → Type 0
  Agree f' f = (c : ℕ) → keeps c ≡ true → f' c ≡ f c

  -- a test of what is kept gives what is kept of the other test
  pub filter_kept : (f' f : ℕ → Bool) → Agree f' f → (cs : List ℕ) → filter f' (filter keeps cs) ≡ filter keeps (filter f cs)
  filter_kept f' f agree cs = same cs ∙ filter_filter f keeps cs
    where
      same : (cs : List ℕ) → filter f' (filter keeps cs) ≡ filter f (filter keeps cs)
      same [] = refl
      same (c ∷ cs) = by_test (keeps c) refl (same cs)
        where
          by_test : (b : Bool) → keeps c ≡ b → filter f' (filter keeps cs) ≡ filter f (filter keeps cs) → filter f' (filter keeps (c ∷ cs)) ≡ filter f (filter keeps (c ∷ cs))
          by_test true e ih =
              ap (filter f') (filter_keep keeps c cs e) ∙ ap (λ b. cond b (c ∷ filter f' (filter keeps cs)) (filter f' (filter keeps cs))) (agree c e) ∙ ap (λ xs. cond (f c) (c ∷ xs) xs) ih ∙ ap (filter f) (sym (filter_keep keeps c cs e))
          by_test false e ih = ap (filter f') (filter_drop keeps c cs e) ∙ ih ∙ ap (filter f) (sym (filter_drop keeps c cs e))

  -- the mark that the other run finds has the kept conditions of the one that is found here, and is exited where that is, or neither has one of them
  pub record Found (o o' : Option Choice) : Type 0 where
    pub conds : mark_conds o' ≡ filter keeps (mark_conds o)
    pub exits : (mark_exited o' ≡ mark_exited o) ⊎ ([] ≡ filter keeps (mark_conds o))

  -- after an exit the choices are related as before
  pub record Exit (ks : List Kind) (cs cs' : List Choice) (m m' : Option ℕ) : Type 0 where
    pub choices : Choices ks (exit_mark m cs) (exit_mark m' cs')
    pub found : Found (mark_of m cs) (mark_of m' cs')

  exit_both : {ks : List Kind} {k : Kind} {cs cs' : List Choice} (c c' : Choice) (h h' : ℕ) → h < length cs → h' < length cs' → ((ds ds' : List Choice) → Choices ks ds ds' → Choices (k ∷ ks) (c ∷ ds) (c' ∷ ds')) → Exit ks cs cs' (Some h) (Some h') → Exit (k ∷ ks) (c ∷ cs) (c' ∷ cs') (Some h) (Some h')
  exit_both {ks} {k} {cs} {cs'} c c' h h' le le' build r = record {
    choices = subst (λ x. Choices (k ∷ ks) x (exit_mark (Some h') (c' ∷ cs'))) (sym (exit_newer h c cs le)) (subst (λ x. Choices (k ∷ ks) (c ∷ exit_mark (Some h) cs) x) (sym (exit_newer h' c' cs' le')) (build _ _ r.choices));
    found = subst (λ o. Found o (choice_at h' (c' ∷ cs'))) (sym (at_newer h c cs le)) (subst (λ o. Found (choice_at h cs) o) (sym (at_newer h' c' cs' le')) r.found);
  }

  exit_left : {ks : List Kind} {k : Kind} {cs cs' : List Choice} (c : Choice) (h : ℕ) (m' : Option ℕ) → h < length cs → ((ds ds' : List Choice) → Choices ks ds ds' → Choices (k ∷ ks) (c ∷ ds) ds') → Exit ks cs cs' (Some h) m' → Exit (k ∷ ks) (c ∷ cs) cs' (Some h) m'
  exit_left {ks} {k} {cs} {cs'} c h m' le build r = record {
    choices = subst (λ x. Choices (k ∷ ks) x (exit_mark m' cs')) (sym (exit_newer h c cs le)) (build _ _ r.choices);
    found = subst (λ o. Found o (mark_of m' cs')) (sym (at_newer h c cs le)) r.found;
  }

  -- where the other run has no mark, a newer choice of both changes nothing for it
  exit_none : {ks : List Kind} {k : Kind} {cs cs' : List Choice} (c c' : Choice) (h : ℕ) → h < length cs → ((ds ds' : List Choice) → Choices ks ds ds' → Choices (k ∷ ks) (c ∷ ds) (c' ∷ ds')) → Exit ks cs cs' (Some h) None → Exit (k ∷ ks) (c ∷ cs) (c' ∷ cs') (Some h) None
  exit_none {ks} {k} {cs} {cs'} c c' h le build r = record {
    choices = subst (λ x. Choices (k ∷ ks) x (c' ∷ cs')) (sym (exit_newer h c cs le)) (build _ _ r.choices);
    found = subst (λ o. Found o None) (sym (at_newer h c cs le)) r.found;
  }

  lower : {ks js : List Kind} {k : Kind} {cs cs' : List Choice} → Choices ks cs cs' → Older ks (k ∷ js) → length js < length cs
  lower rel o = let p = older_shorter o in let e = length_kinds rel in omega (arith, p, e)

  lower' : {ks js : List Kind} {conds : List ℕ} {cs cs' : List Choice} → Choices ks cs cs' → Older ks (Kept conds ∷ js) → plain js < length cs'
  lower' rel o = let p = older_plainer o in let e = plain_kinds rel in omega (arith, p, e)

  exit_kept : {ks js : List Kind} {conds : List ℕ} {cs cs' : List Choice} → Choices ks cs cs' → Older ks (Kept conds ∷ js) → Exit ks cs cs' (Some (length js)) (Some (plain js))
  exit_kept none o = elim o [ ]
  exit_kept {js = js} (resume {f = f} {f' = f'} r rest) (newer o) = exit_both (Resume f) (Resume f') (length js) (plain js) (lower rest o) (lower' rest o) (λ ds ds' x. resume r x) (exit_kept rest o)
  exit_kept {js = js} (try {k = k} {call = call} {call' = call'} r rest) (newer o) = exit_both (Try k call) (Try k call') (length js) (plain js) (lower rest o) (lower' rest o) (λ ds ds' x. try r x) (exit_kept rest o)
  exit_kept {js = js} (kept {p = p} {conds = conds} {conds' = conds'} {e = e} same rest) (newer o) = exit_both (Mark p conds e) (Mark p conds' e) (length js) (plain js) (lower rest o) (lower' rest o) (λ ds ds' x. kept same x) (exit_kept rest o)
  exit_kept {js = js} (dropped {p = p} {conds = conds} {e = e} same rest) (newer o) = exit_left (Mark p conds e) (length js) (Some (plain js)) (lower rest o) (λ ds ds' x. dropped same x) (exit_kept rest o)
  exit_kept (kept {ks = ks} {p = p} {conds = conds} {conds' = conds'} {e = e} {cs = cs} {cs' = cs'} same rest) whole = record {
    choices = subst (λ x. Choices (Kept conds ∷ ks) x (exit_mark (Some (plain ks)) (Mark p conds' e ∷ cs'))) (sym (exit_here (length ks) (Mark p conds e) cs (length_kinds rest))) (subst (λ x. Choices (Kept conds ∷ ks) (Mark p conds true ∷ cs) x) (sym (exit_here (plain ks) (Mark p conds' e) cs' (plain_kinds rest))) (kept same rest));
    found = subst (λ o. Found o (choice_at (plain ks) (Mark p conds' e ∷ cs'))) (sym (at_here (length ks) (Mark p conds e) cs (length_kinds rest))) (subst (λ o. Found (Some (Mark p conds e)) o) (sym (at_here (plain ks) (Mark p conds' e) cs' (plain_kinds rest))) (record { conds = same; exits = inl refl }));
  }

  exit_dropped : {ks js : List Kind} {conds : List ℕ} {cs cs' : List Choice} → Choices ks cs cs' → Older ks (Dropped conds ∷ js) → Exit ks cs cs' (Some (length js)) None
  exit_dropped none o = elim o [ ]
  exit_dropped {js = js} (resume {f = f} {f' = f'} r rest) (newer o) = exit_none (Resume f) (Resume f') (length js) (lower rest o) (λ ds ds' x. resume r x) (exit_dropped rest o)
  exit_dropped {js = js} (try {k = k} {call = call} {call' = call'} r rest) (newer o) = exit_none (Try k call) (Try k call') (length js) (lower rest o) (λ ds ds' x. try r x) (exit_dropped rest o)
  exit_dropped {js = js} (kept {p = p} {conds = conds} {conds' = conds'} {e = e} same rest) (newer o) = exit_none (Mark p conds e) (Mark p conds' e) (length js) (lower rest o) (λ ds ds' x. kept same x) (exit_dropped rest o)
  exit_dropped {js = js} (dropped {p = p} {conds = conds} {e = e} same rest) (newer o) = exit_left (Mark p conds e) (length js) None (lower rest o) (λ ds ds' x. dropped same x) (exit_dropped rest o)
  exit_dropped (dropped {ks = ks} {p = p} {conds = conds} {e = e} {cs = cs} {cs' = cs'} same rest) whole = record {
    choices = subst (λ x. Choices (Dropped conds ∷ ks) x cs') (sym (exit_here (length ks) (Mark p conds e) cs (length_kinds rest))) (dropped same rest);
    found = subst (λ o. Found o None) (sym (at_here (length ks) (Mark p conds e) cs (length_kinds rest))) (record { conds = same; exits = inr same });
  }

  pub exit_related : {ks : List Kind} {cs cs' : List Choice} {m m' : Option ℕ} → Choices ks cs cs' → Marks ks m m' → Exit ks cs cs' m m'
  exit_related rel no_mark = record { choices = rel; found = record { conds = refl; exits = inl refl } }
  exit_related {ks} {cs} {cs'} rel (kept_mark {h' = h'} conds js o e e') = subst (λ h. Exit ks cs cs' (Some h) (Some h')) (sym e) (subst (λ h. Exit ks cs cs' (Some (length js)) (Some h)) (sym e') (exit_kept rel o))
  exit_related {ks} {cs} {cs'} rel (dropped_mark conds js o e) = subst (λ h. Exit ks cs cs' (Some h) None) (sym e) (exit_dropped rel o)

  -- the mark of a call
  pub record Marked (ks : List Kind) (cs cs' : List Choice) (m m' : Option ℕ) : Type 0 where
    pub kinds : List Kind
    pub choices : Choices kinds cs cs'
    pub older : Older kinds ks
    pub mark : Marks kinds m m'

  pub mark_new : {ks : List Kind} {cs cs' : List Choice} (p : ℕ) (marked marked' : List ℕ) → marked' ≡ filter keeps marked → Choices ks cs cs' → Marked ks (with_mark p marked cs) (with_mark p marked' cs') (mark_height marked cs) (mark_height marked' cs')
  mark_new {ks} p [] [] same rel = record { kinds = ks; choices = rel; older = whole; mark = no_mark }
  mark_new p [] (d ∷ ds) same rel = cc
  mark_new {ks} p (c ∷ marked) [] same rel = record { kinds = Dropped (c ∷ marked) ∷ ks; choices = dropped same rel; older = newer whole; mark = dropped_mark (c ∷ marked) ks whole (sym (length_kinds rel)) }
  mark_new {ks} p (c ∷ marked) (d ∷ ds) same rel = record { kinds = Kept (c ∷ marked) ∷ ks; choices = kept same rel; older = newer whole; mark = kept_mark (c ∷ marked) ks whole (sym (length_kinds rel)) (sym (plain_kinds rel)) }

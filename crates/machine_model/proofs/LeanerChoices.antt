-- What cuts, exits and new marks do to the choices of a state and of a leaner one.
use Rattle.std.proofs.Common.{◌≡◌, ℕ, suc, ◌<◌, ◌≤◌, List, [], ◌∷◌, ◌++◌, length, refl, ap, sym, ◌∙◌, subst, arith}
use Rattle.std.specs.Prelude.{Option, Some}
use Rattle.term_core.specs.declared.terms.Term.{Term}
use Rattle.prog_data.specs.declared.programs.Clause.{Clause}
use Rattle.prog_data.specs.declared.programs.Program.{Program}
use Rattle.machine_model.specs.State.{Item, Frame, Call, Choice, Resume, Try, Mark, cut, exited, exit_mark}
use Rattle.machine_model.specs.Step.{tries, mark_of, mark_conds, mark_exited, with_mark, mark_height}
use Rattle.machine_model.specs.Leaner.{Kind, Kept, LeftOut, kept, Older, whole, newer, HeightsAgree, at, MarksAgree, no_mark, a_mark, Renaming, ItemsAgree, does, cuts, exits, idle, FramesAgree, frames, CallsAgree, calls, ChoicesAgree, resume, try, mark, left_out}
use Rattle.machine_model.specs.Leaner as rel
use Rattle.machine_model.proofs.Heights.{cut_on, cut_whole, at_here, at_newer, exit_here, exit_newer}

-- places among the choices

pub older_older : {ks js is : List Kind} → Older ks js → Older js is → Older ks is
older_older whole b = b
older_older (newer a) b = newer (older_older a b)

older_shorter : {ks js : List Kind} → Older ks js → length js ≤ length ks
older_shorter whole = omega arith
older_shorter (newer o) = let p = older_shorter o in omega (arith, p)

older_fewer : {ks js : List Kind} → Older ks js → kept js ≤ kept ks
older_fewer whole = omega arith
older_fewer (newer {k = Kept} o) = let p = older_fewer o in omega (arith, p)
older_fewer (newer {k = LeftOut} o) = older_fewer o

pub at_over : {ks js is : List Kind} {h h' : ℕ} → Older ks js → HeightsAgree js h h' is → HeightsAgree ks h h' is
at_over o (at below e e') = at (older_older o below) e e'

pub marks_over : {ks js : List Kind} {m m' : Option ℕ} → Older ks js → MarksAgree js m m' → MarksAgree ks m m'
marks_over o no_mark = no_mark
marks_over o (a_mark is below e e') = a_mark is (older_older o below) e e'

module _ (there back : ℕ → Term) where
  pub items_over : {ks js : List Kind} {is is' : List Item} → Older ks js → ItemsAgree there back js is is' → ItemsAgree there back ks is is'
  items_over o rel.none = rel.none
  items_over o (does is g place rest) = does is g (at_over o place) rest
  items_over o (cuts is place rest) = cuts is (at_over o place) rest
  items_over o (exits args m rest) = exits args (marks_over o m) (items_over o rest)
  items_over o (idle rest) = idle (items_over o rest)

pub calls_over : {ks js : List Kind} {n n' : ℕ} {c c' : Call} → Older ks js → CallsAgree js n n' c c' → CallsAgree ks n n' c c'
calls_over o (calls names is args place m items query) = calls names is args (at_over o place) m items query

-- greater numbers

module _ {n n' m m' : ℕ} (le : n ≤ m) (le' : n' ≤ m') where
  abbrev pub names_more : Renaming n n' → Renaming m m'
  names_more names = record { there = names.there; back = names.back; there_ends = λ v h. names.there_ends v (omega (arith, le, h)); back_ends = λ v h. names.back_ends v (omega (arith, le', h)) }

  frames_more : {ks : List Kind} {f f' : Frame} → FramesAgree ks n n' f f' → FramesAgree ks m m' f f'
  frames_more (frames names items query) = frames (names_more names) items query

  calls_more : {ks : List Kind} {c c' : Call} → CallsAgree ks n n' c c' → CallsAgree ks m m' c c'
  calls_more (calls names js args place m items query) = calls (names_more names) js args place m items query

  pub choices_more : {program : Program} {ks : List Kind} {cs cs' : List Choice} → ChoicesAgree program n n' ks cs cs' → ChoicesAgree program m m' ks cs cs'
  choices_more rel.none = rel.none
  choices_more (resume f rest) = resume (frames_more f) (choices_more rest)
  choices_more (try call rest) = try (calls_more call) (choices_more rest)
  choices_more (mark rest) = mark (choices_more rest)
  choices_more (left_out d rest) = left_out d (choices_more rest)

-- two states' choices

module _ (program : Program) (n n' : ℕ) where
  abbrev Choices : List Kind → List Choice → List Choice → Type 0
  Choices = ChoicesAgree program n n'

  pub length_kinds : {ks : List Kind} {cs cs' : List Choice} → Choices ks cs cs' → length ks ≡ length cs
  length_kinds rel.none = refl
  length_kinds (resume f rest) = ap suc (length_kinds rest)
  length_kinds (try call rest) = ap suc (length_kinds rest)
  length_kinds (mark rest) = ap suc (length_kinds rest)
  length_kinds (left_out d rest) = ap suc (length_kinds rest)

  pub kept_kinds : {ks : List Kind} {cs cs' : List Choice} → Choices ks cs cs' → kept ks ≡ length cs'
  kept_kinds rel.none = refl
  kept_kinds (resume f rest) = ap suc (kept_kinds rest)
  kept_kinds (try call rest) = ap suc (kept_kinds rest)
  kept_kinds (mark rest) = ap suc (kept_kinds rest)
  kept_kinds (left_out d rest) = kept_kinds rest

  -- the place of the newest choice
  pub at_top : {ks : List Kind} {cs cs' : List Choice} → Choices ks cs cs' → HeightsAgree ks (length cs) (length cs') ks
  at_top ch = at whole (sym (length_kinds ch)) (sym (kept_kinds ch))

  -- cuts

  cut_all : {ks : List Kind} {cs cs' : List Choice} → Choices ks cs cs' → Choices ks (cut (length ks) cs) (cut (kept ks) cs')
  cut_all {ks} {cs} {cs'} ch =
      subst (λ x. Choices ks x (cut (kept ks) cs')) (sym (ap (λ n. cut n cs) (length_kinds ch) ∙ cut_whole cs)) (subst (λ x. Choices ks cs x) (sym (ap (λ n. cut n cs') (kept_kinds ch) ∙ cut_whole cs')) ch)

  shorter : {ks js : List Kind} {cs cs' : List Choice} → Choices ks cs cs' → Older ks js → length js ≤ length cs
  shorter ch o = let p = older_shorter o in let e = length_kinds ch in omega (arith, p, e)

  fewer : {ks js : List Kind} {cs cs' : List Choice} → Choices ks cs cs' → Older ks js → kept js ≤ length cs'
  fewer ch o = let p = older_fewer o in let e = kept_kinds ch in omega (arith, p, e)

  both : {ks js : List Kind} (c c' : Choice) {cs cs' : List Choice} → Choices ks cs cs' → Older ks js → Choices js (cut (length js) cs) (cut (kept js) cs') → Choices js (cut (length js) (c ∷ cs)) (cut (kept js) (c' ∷ cs'))
  both {ks} {js} c c' {cs} {cs'} ch o r =
      subst (λ x. Choices js x (cut (kept js) (c' ∷ cs'))) (sym (cut_on (length js) c cs (shorter ch o))) (subst (λ x. Choices js (cut (length js) cs) x) (sym (cut_on (kept js) c' cs' (fewer ch o))) r)

  cut_older : {ks js : List Kind} {cs cs' : List Choice} → Choices ks cs cs' → Older ks js → Choices js (cut (length js) cs) (cut (kept js) cs')
  cut_older ch whole = cut_all ch
  cut_older (resume {f = f} {f' = f'} r rest) (newer o) = both (Resume f) (Resume f') rest o (cut_older rest o)
  cut_older (try {k = k} {call = call} {call' = call'} r rest) (newer o) = both (Try k call) (Try k call') rest o (cut_older rest o)
  cut_older (mark {p = p} {conds = conds} {e = e} rest) (newer o) = both (Mark p conds e) (Mark p conds e) rest o (cut_older rest o)
  cut_older {js = js} (left_out {k = k} {call = call} {cs = cs} {cs' = cs'} d rest) (newer o) =
      subst (λ x. Choices js x (cut (kept js) cs')) (sym (cut_on (length js) (Try k call) cs (shorter rest o))) (cut_older rest o)

  pub cut_choices : {ks js : List Kind} {cs cs' : List Choice} {h h' : ℕ} → Choices ks cs cs' → HeightsAgree ks h h' js → Choices js (cut h cs) (cut h' cs')
  cut_choices {ks} {js} {cs} {cs'} {h} {h'} ch (at o e e') = subst (λ x. Choices js (cut x cs) (cut h' cs')) (sym e) (subst (λ x. Choices js (cut (length js) cs) (cut x cs')) (sym e') (cut_older ch o))

  -- exits

  -- after an exit the choices are related as before, and the marks are one
  pub record Exit (ks : List Kind) (cs cs' : List Choice) (m m' : Option ℕ) : Type 0 where
    pub choices : Choices ks (exit_mark m cs) (exit_mark m' cs')
    pub conds : mark_conds (mark_of m cs) ≡ mark_conds (mark_of m' cs')
    pub was_exited : mark_exited (mark_of m cs) ≡ mark_exited (mark_of m' cs')

  exit_both : {ks : List Kind} {k : Kind} {cs cs' : List Choice} (c c' : Choice) (h h' : ℕ) → h < length cs → h' < length cs' → ((ds ds' : List Choice) → Choices ks ds ds' → Choices (k ∷ ks) (c ∷ ds) (c' ∷ ds')) → Exit ks cs cs' (Some h) (Some h') → Exit (k ∷ ks) (c ∷ cs) (c' ∷ cs') (Some h) (Some h')
  exit_both {ks} {k} {cs} {cs'} c c' h h' le le' build r = record {
    choices = subst (λ x. Choices (k ∷ ks) x (exit_mark (Some h') (c' ∷ cs'))) (sym (exit_newer h c cs le)) (subst (λ x. Choices (k ∷ ks) (c ∷ exit_mark (Some h) cs) x) (sym (exit_newer h' c' cs' le')) (build _ _ r.choices));
    conds = ap mark_conds (at_newer h c cs le) ∙ r.conds ∙ ap mark_conds (sym (at_newer h' c' cs' le'));
    was_exited = ap mark_exited (at_newer h c cs le) ∙ r.was_exited ∙ ap mark_exited (sym (at_newer h' c' cs' le'));
  }

  exit_left : {ks : List Kind} {k : Kind} {cs cs' : List Choice} (c : Choice) (h : ℕ) (m' : Option ℕ) → h < length cs → ((ds ds' : List Choice) → Choices ks ds ds' → Choices (k ∷ ks) (c ∷ ds) ds') → Exit ks cs cs' (Some h) m' → Exit (k ∷ ks) (c ∷ cs) cs' (Some h) m'
  exit_left {ks} {k} {cs} {cs'} c h m' le build r = record {
    choices = subst (λ x. Choices (k ∷ ks) x (exit_mark m' cs')) (sym (exit_newer h c cs le)) (build _ _ r.choices);
    conds = ap mark_conds (at_newer h c cs le) ∙ r.conds;
    was_exited = ap mark_exited (at_newer h c cs le) ∙ r.was_exited;
  }

  -- the choice of the height is this one
  exit_first : {ks : List Kind} {cs cs' : List Choice} (c c' : Choice) → Choices ks cs cs' → Choices (Kept ∷ ks) (exited c ∷ cs) (exited c' ∷ cs') → mark_conds (Some c) ≡ mark_conds (Some c') → mark_exited (Some c) ≡ mark_exited (Some c') →
      Exit (Kept ∷ ks) (c ∷ cs) (c' ∷ cs') (Some (length ks)) (Some (kept ks))
  exit_first {ks} {cs} {cs'} c c' ch r conds was = record {
    choices = subst (λ x. Choices (Kept ∷ ks) x (exit_mark (Some (kept ks)) (c' ∷ cs'))) (sym (exit_here (length ks) c cs (length_kinds ch))) (subst (λ x. Choices (Kept ∷ ks) (exited c ∷ cs) x) (sym (exit_here (kept ks) c' cs' (kept_kinds ch))) r);
    conds = ap mark_conds (at_here (length ks) c cs (length_kinds ch)) ∙ conds ∙ ap mark_conds (sym (at_here (kept ks) c' cs' (kept_kinds ch)));
    was_exited = ap mark_exited (at_here (length ks) c cs (length_kinds ch)) ∙ was ∙ ap mark_exited (sym (at_here (kept ks) c' cs' (kept_kinds ch)));
  }

  lower : {ks js : List Kind} {k : Kind} {cs cs' : List Choice} → Choices ks cs cs' → Older ks (k ∷ js) → length js < length cs
  lower ch o = let p = older_shorter o in let e = length_kinds ch in omega (arith, p, e)

  lower' : {ks js : List Kind} {cs cs' : List Choice} → Choices ks cs cs' → Older ks (Kept ∷ js) → kept js < length cs'
  lower' ch o = let p = older_fewer o in let e = kept_kinds ch in omega (arith, p, e)

  exit_older : {ks js : List Kind} {cs cs' : List Choice} → Choices ks cs cs' → Older ks (Kept ∷ js) → Exit ks cs cs' (Some (length js)) (Some (kept js))
  exit_older rel.none o = elim o [ ]
  exit_older {js = js} (resume {f = f} {f' = f'} r rest) (newer o) = exit_both (Resume f) (Resume f') (length js) (kept js) (lower rest o) (lower' rest o) (λ ds ds' x. resume r x) (exit_older rest o)
  exit_older {js = js} (try {k = k} {call = call} {call' = call'} r rest) (newer o) = exit_both (Try k call) (Try k call') (length js) (kept js) (lower rest o) (lower' rest o) (λ ds ds' x. try r x) (exit_older rest o)
  exit_older {js = js} (mark {p = p} {conds = conds} {e = e} rest) (newer o) = exit_both (Mark p conds e) (Mark p conds e) (length js) (kept js) (lower rest o) (lower' rest o) (λ ds ds' x. mark x) (exit_older rest o)
  exit_older {js = js} (left_out {k = k} {call = call} d rest) (newer o) = exit_left (Try k call) (length js) (Some (kept js)) (lower rest o) (λ ds ds' x. left_out d x) (exit_older rest o)
  exit_older (resume {f = f} {f' = f'} r rest) whole = exit_first (Resume f) (Resume f') rest (resume r rest) refl refl
  exit_older (try {k = k} {call = call} {call' = call'} r rest) whole = exit_first (Try k call) (Try k call') rest (try r rest) refl refl
  exit_older (mark {p = p} {conds = conds} {e = e} rest) whole = exit_first (Mark p conds e) (Mark p conds e) rest (mark rest) refl refl

  pub exit_related : {ks : List Kind} {cs cs' : List Choice} {m m' : Option ℕ} → Choices ks cs cs' → MarksAgree ks m m' → Exit ks cs cs' m m'
  exit_related ch no_mark = record { choices = ch; conds = refl; was_exited = refl }
  exit_related {ks} {cs} {cs'} ch (a_mark {h' = h'} js o e e') = subst (λ h. Exit ks cs cs' (Some h) (Some h')) (sym e) (subst (λ h. Exit ks cs cs' (Some (length js)) (Some h)) (sym e') (exit_older ch o))

  -- calls

  -- the mark of a call
  pub record Marked (ks : List Kind) (cs cs' : List Choice) (m m' : Option ℕ) : Type 0 where
    pub kinds : List Kind
    pub choices : Choices kinds cs cs'
    pub older : Older kinds ks
    pub marks : MarksAgree kinds m m'

  pub mark_new : {ks : List Kind} {cs cs' : List Choice} (p : ℕ) (marked : List ℕ) → Choices ks cs cs' → Marked ks (with_mark p marked cs) (with_mark p marked cs') (mark_height marked cs) (mark_height marked cs')
  mark_new {ks} p [] ch = record { kinds = ks; choices = ch; older = whole; marks = no_mark }
  mark_new {ks} p (c ∷ marked) ch = record { kinds = Kept ∷ ks; choices = mark ch; older = newer whole; marks = a_mark ks whole (sym (length_kinds ch)) (sym (kept_kinds ch)) }

  -- what a call puts among the choices
  pub tries_choices : (ks : List Kind) (k : ℕ) (cl : List Clause) (call call' : Call) (below below' : List Choice) → CallsAgree ks n n' call call' → Choices ks below below' →
      (js : List Kind) × Older js ks × Choices js (tries k cl call ++ below) (tries k cl call' ++ below')
  tries_choices ks k [] call call' below below' r ch = (ks, whole, ch)
  tries_choices ks k (c ∷ cl) call call' below below' r ch =
      let t = tries_choices ks (suc k) cl call call' below below' r ch in
      (Kept ∷ t.0, newer t.1, try (calls_over t.1 r) t.2)

-- A machine that reads words from the left with a stack.
use Rattle.std.specs.Prelude.{◌≡◌, ℕ, ◌&&◌, nat_le, List, [], ◌∷◌, drop, Option, Some, None, if◌then◌else◌}
use Rattle.term_core.specs.declared.operators.Op.{Op}
use Rattle.term_core.specs.declared.operators.Operators.{Operators}
use Rattle.term_core.specs.Operators.{prefix_of, left_limit, right_limit}
use Rattle.ciao_reader.specs.declared.words.Word.{Word}
use Rattle.ciao_reader.specs.declared.words.Word.TheVariants as word
use Rattle.ciao_reader.specs.Steps.{operator_next}
use Rattle.ciao_reader.specs.Derivations.{Tree, Trees, number, negative, variable, text, atom, no_items, no_braces, call, parens, braces, items, items_and_tail, before, between, one, more, count, priority}

-- what waits for a tree, and the priority that its own result may have
pub data Frame : Type 0 where
  in_before : ℕ → ℕ → Frame
  in_between : ℕ → Tree → ℕ → Frame
  in_parens : ℕ → Frame
  in_braces : ℕ → Frame
  in_call : ℕ → List Tree → ℕ → Frame
  in_items : List Tree → ℕ → Frame
  in_tail : Trees → ℕ → Frame

-- a tree of at most this priority is needed, or one is there, which may grow
pub data State : Type 0 where
  need : ℕ → List Word → List Frame → State
  have : ℕ → Tree → List Word → List Frame → State
  done : Tree → State
  stuck : State

-- the trees before it, the last one first, in front
abbrev pub put_before : List Tree → Trees → Trees
put_before [] ts = ts
put_before (d ∷ ds) ts = put_before ds (more d ts)

module _ (ops : Operators) where
  abbrev pub need_before : Option Op → ℕ → ℕ → List Word → List Frame → State
  need_before None f p ws st = stuck
  need_before (Some o) f p ws st = if nat_le o.priority p then need (right_limit o) ws (in_before f p ∷ st) else stuck

  abbrev pub need_number : ℕ → List Word → List Frame → State
  need_number p (word.Number n ∷ ws) st = have p (negative n) ws st
  need_number p ws st = stuck

  abbrev pub need_call : ℕ → ℕ → List Word → List Frame → State
  need_call f p (word.Paren ∷ ws) st = need 999 ws (in_call f [] p ∷ st)
  need_call f p ws st = stuck

  abbrev pub no_item : List Word → List Frame → State
  no_item ws (in_items [] q ∷ st) = have q no_items ws st
  no_item ws st = stuck

  abbrev pub no_brace : List Word → List Frame → State
  no_brace ws (in_braces q ∷ st) = have q no_braces ws st
  no_brace ws st = stuck

  abbrev pub need_step : ℕ → List Word → List Frame → State
  need_step p (word.Number n ∷ ws) st = have p (number n) ws st
  need_step p (word.Variable v ∷ ws) st = have p (variable v) ws st
  need_step p (word.Text cs ∷ ws) st = have p (text cs) ws st
  need_step p (word.Atom a ∷ ws) st = have p (atom a) ws st
  need_step p (word.Sign ∷ ws) st = need_number p ws st
  need_step p (word.Call f ∷ ws) st = need_call f p ws st
  need_step p (word.Before f ∷ ws) st = need_before (prefix_of ops f) f p ws st
  need_step p (word.Paren ∷ ws) st = need 1200 ws (in_parens p ∷ st)
  need_step p (word.OpenCurly ∷ ws) st = need 1200 ws (in_braces p ∷ st)
  need_step p (word.OpenList ∷ ws) st = need 999 ws (in_items [] p ∷ st)
  need_step p (word.CloseList ∷ ws) st = no_item ws st
  need_step p (word.CloseCurly ∷ ws) st = no_brace ws st
  need_step p ws st = stuck

  abbrev pub reduce_last : Tree → List Word → State
  reduce_last t [] = done t
  reduce_last t (w ∷ ws) = stuck

  abbrev pub reduce_parens : Tree → ℕ → List Word → List Frame → State
  reduce_parens t q (word.CloseParen ∷ ws) st = have q (parens t) ws st
  reduce_parens t q ws st = stuck

  abbrev pub reduce_braces : Tree → ℕ → List Word → List Frame → State
  reduce_braces t q (word.CloseCurly ∷ ws) st = have q (braces t) ws st
  reduce_braces t q ws st = stuck

  abbrev pub end_call : Trees → ℕ → ℕ → List Word → List Frame → State
  end_call ts f q ws st = if nat_le (count ts) 255 then have q (call f ts) ws st else stuck

  abbrev pub reduce_call : Tree → ℕ → List Tree → ℕ → List Word → List Frame → State
  reduce_call t f ds q (word.Comma ∷ ws) st = need 999 ws (in_call f (t ∷ ds) q ∷ st)
  reduce_call t f ds q (word.CloseParen ∷ ws) st = end_call (put_before ds (one t)) f q ws st
  reduce_call t f ds q ws st = stuck

  abbrev pub reduce_items : Tree → List Tree → ℕ → List Word → List Frame → State
  reduce_items t ds q (word.Comma ∷ ws) st = need 999 ws (in_items (t ∷ ds) q ∷ st)
  reduce_items t ds q (word.Bar ∷ ws) st = need 999 ws (in_tail (put_before ds (one t)) q ∷ st)
  reduce_items t ds q (word.CloseList ∷ ws) st = have q (items (put_before ds (one t))) ws st
  reduce_items t ds q ws st = stuck

  abbrev pub reduce_tail : Tree → Trees → ℕ → List Word → List Frame → State
  reduce_tail t ts q (word.CloseList ∷ ws) st = have q (items_and_tail ts t) ws st
  reduce_tail t ts q ws st = stuck

  -- a tree that does not grow goes to what waits for it
  abbrev pub reduce : Tree → List Word → List Frame → State
  reduce t ws [] = reduce_last t ws
  reduce t ws (in_before f q ∷ st) = have q (before f t) ws st
  reduce t ws (in_between h l q ∷ st) = have q (between h l t) ws st
  reduce t ws (in_parens q ∷ st) = reduce_parens t q ws st
  reduce t ws (in_braces q ∷ st) = reduce_braces t q ws st
  reduce t ws (in_call f ds q ∷ st) = reduce_call t f ds q ws st
  reduce t ws (in_items ds q ∷ st) = reduce_items t ds q ws st
  reduce t ws (in_tail ts q ∷ st) = reduce_tail t ts q ws st

  abbrev pub have_at : ℕ → Tree → List Word → List Frame → Option (ℕ × Op) → State
  have_at p t ws st None = reduce t ws st
  have_at p t ws st (Some (h, q)) =
      if nat_le q.priority p && nat_le (priority ops t) (left_limit q) then need (right_limit q) (drop 1 ws) (in_between h t p ∷ st)
      else reduce t ws st

  abbrev pub step : State → State
  step (need p ws st) = need_step p ws st
  step (have p t ws st) = have_at p t ws st (operator_next ops ws)
  step (done t) = done t
  step stuck = stuck

  -- the state is reached
  pub data Leads : State → State → Type 0 where
    here : {s t : State} → s ≡ t → Leads s t
    goes : {s t : State} → Leads (step s) t → Leads s t

-- What is made in order, one after the other.
use Rattle.std.proofs.Common.{◌≡◌, ◌<◌, ℕ, zero, suc, ◌+◌, List, [], ◌∷◌, ◌++◌, map, drop, length, get_or, refl, ap, sym, subst, ◌∙◌, append_assoc, length-append, arith}
use Rattle.std.specs.Prelude.{flat_map, slice_get, Option, Some, None, option_map, option_and_then}
use Rattle.std.specs.List.{AllByRecursion}
use Rattle.std.proofs.lemmas.Grind.{flat_map-append}
use Rattle.std.proofs.lemmas.List.{at_drop_more}
use Rattle.prog_data.specs.declared.grammars.Grammar.{Grammar}
use Rattle.prog_data.specs.declared.conditions.Cond.{Cond}
use Rattle.prog_data.specs.declared.programs.Pred.{Pred}
use Rattle.ciao_modules.specs.FileNames.{Word}
use Rattle.assertion_normal.specs.Normals.{normalised}
use Rattle.assertion_normal.specs.Settling.{in_order}
use Rattle.assertion_normal.specs.declared.outcomes.Normal.{Normal}
use Rattle.unit_scopes.specs.declared.settings.Setting.{Setting}
use Rattle.unit_scopes.specs.declared.sources.Source.{Source}
use Rattle.program_link.specs.Programs.{in_setting, conditions, next_normal, normals_behind, pred_made, beside}
use Rattle.program_link.specs.HeldPrograms.{IsNoRoom, if_there, items_at, draft_held}
use Rattle.program_link.specs.declared.drafts.Draft.{Draft}
use Rattle.program_link.specs.declared.drafts.UnitPred.{UnitPred}
use Rattle.program_link.specs.declared.outcomes.RoomFault.{RoomFault}
use Rattle.program_link.specs.declared.outcomes.RoomFault.TheVariants as room
use Rattle.program_link.proofs.ProgramLaws.{AtFront, at_front, beside_none}

-- no room

-- what has no room as a part has none as a whole
pub no_room : {A B : Type 0} (part : Option A) (whole : Option B) (fault : RoomFault) → (part ≡ None → whole ≡ None) → IsNoRoom part fault → IsNoRoom whole fault
no_room part whole room.TooManyNames leads h = leads h
no_room part whole room.NoMemory leads h = tt

-- want of memory is free
pub no_memory : {A : Type 0} (made : Option A) (fault : RoomFault) → fault ≡ room.NoMemory → IsNoRoom made fault
no_memory made fault e = subst (IsNoRoom made) (sym e) tt

-- each at its place

pub each_left : {A : Type 0} (P : A → Type 0) (xs : List A) (n : ℕ) (d : A) → AllByRecursion P xs → n < length xs → P (get_or xs n d)
each_left P [] n d h lt = absurd (omega (arith, lt))
each_left P (x ∷ xs) zero d h lt = h.0
each_left P (x ∷ xs) (suc n) d h lt = each_left P xs n d h.1 (omega (arith, lt))

-- what is so of what each gives is so of what the one at a place gives
pub each_mapped : {A B : Type 0} (P : B → Type 0) (f : A → B) (xs : List A) (n : ℕ) (d : A) → AllByRecursion P (map f xs) → n < length xs → P (f (get_or xs n d))
each_mapped P f [] n d h lt = absurd (omega (arith, lt))
each_mapped P f (x ∷ xs) zero d h lt = h.0
each_mapped P f (x ∷ xs) (suc n) d h lt = each_mapped P f xs n d h.1 (omega (arith, lt))

-- lists in order

module _ {A B : Type 0} (gives : Grammar → A → Option (Grammar × B)) where
  pub order_next : (so_far : Grammar × List B) (x : A) (xs : List A) (made : Grammar × B) → gives so_far.0 x ≡ Some made → in_order gives so_far (x ∷ xs) ≡ in_order gives (made.0, so_far.1 ++ made.1 ∷ []) xs
  order_next so_far x xs made e = ap (λ o. option_and_then (λ m. in_order gives (m.0, so_far.1 ++ m.1 ∷ []) xs) o) e

  pub order_none : (so_far : Grammar × List B) (x : A) (xs : List A) → gives so_far.0 x ≡ None → in_order gives so_far (x ∷ xs) ≡ None
  order_none so_far x xs e = ap (λ o. option_and_then (λ m. in_order gives (m.0, so_far.1 ++ m.1 ∷ []) xs) o) e

-- what assertions give

-- the conditions of one more predicate
pub more_conditions : (ns : List Normal) (m : Normal) → length (conditions (ns ++ m ∷ [])) ≡ length m.conds + length (conditions ns)
more_conditions [] m = let e : length (m.conds ++ []) ≡ length m.conds + length {A = Cond} [] = length-append m.conds [] in e
more_conditions (n ∷ ns) m =
    let rest = more_conditions ns m in
    let front : length (n.conds ++ conditions (ns ++ m ∷ [])) ≡ length n.conds + length (conditions (ns ++ m ∷ [])) = length-append n.conds (conditions (ns ++ m ∷ [])) in
    let all : length (n.conds ++ conditions ns) ≡ length n.conds + length (conditions ns) = length-append n.conds (conditions ns) in
    omega (arith, rest, front, all)

module _ (names : List Word) (ss : List Setting) (sources : List Source) where
  -- what the assertions of a predicate give by these numbers
  abbrev pub given_at : Grammar → ℕ → ℕ → UnitPred → Option (Grammar × Normal)
  given_at g number first p = in_setting ss (draft_held sources p) (λ s. normalised names s.file s.scope.types g number first (draft_held sources p).assertions)

  abbrev pub normals_left : Grammar → List Normal → List UnitPred → Option (Grammar × List Normal)
  normals_left g ns ps = normals_behind names ss (g, ns) (map (draft_held sources) ps)

  -- with the numbers that the definition takes
  numbers_same : (g : Grammar) (ns : List Normal) (p : UnitPred) (number first : ℕ) → number ≡ length ns → first ≡ length (conditions ns)
      → in_setting ss (draft_held sources p) (next_normal names (g, ns) (draft_held sources p)) ≡ given_at g number first p
  numbers_same g ns p number first count conds = λ i. given_at g (sym count i) (sym conds i) p

  pub normals_next : (g new : Grammar) (ns : List Normal) (m : Normal) (ps : List UnitPred) (i : ℕ) (d : UnitPred) (number first : ℕ) → i < length ps → number ≡ length ns → first ≡ length (conditions ns)
      → given_at g number first (get_or ps i d) ≡ Some (new, m) → normals_left new (ns ++ m ∷ []) (drop (i + 1) ps) ≡ normals_left g ns (drop i ps)
  normals_next g new ns m ps i d number first lt count conds e =
      let p = get_or ps i d in
      sym (ap (λ o. option_and_then (λ made. normals_behind names ss (made.0, ns ++ made.1 ∷ []) (map (draft_held sources) (drop (i + 1) ps))) o) (numbers_same g ns p number first count conds ∙ e))
      ∙ sym (at_drop_more (normals_left g ns) ps i d lt)

  pub normals_none : (g : Grammar) (ns : List Normal) (ps : List UnitPred) (i : ℕ) (d : UnitPred) (number first : ℕ) → i < length ps → number ≡ length ns → first ≡ length (conditions ns)
      → given_at g number first (get_or ps i d) ≡ None → normals_left g ns (drop i ps) ≡ None
  normals_none g ns ps i d number first lt count conds e =
      let p = get_or ps i d in
      at_drop_more (normals_left g ns) ps i d lt
      ∙ ap (λ o. option_and_then (λ made. normals_behind names ss (made.0, ns ++ made.1 ∷ []) (map (draft_held sources) (drop (i + 1) ps))) o) (numbers_same g ns p number first count conds ∙ e)

-- items at places

each_front : {A : Type 0} (P : A → Type 0) (xs ys : List A) → AllByRecursion P (xs ++ ys) → AllByRecursion P xs
each_front P [] ys h = tt
each_front P (x ∷ xs) ys h = (h.0, each_front P xs ys h.1)

each_behind : {A : Type 0} (P : A → Type 0) (xs ys : List A) → AllByRecursion P (xs ++ ys) → AllByRecursion P ys
each_behind P [] ys h = h
each_behind P (x ∷ xs) ys h = each_behind P xs ys h.1

-- what is so of all items is so of the one at a place
pub each_at : {A : Type 0} (P : A → Type 0) (xs : List A) (ns : List ℕ) (i : ℕ) (d : ℕ) → AllByRecursion P (items_at xs ns) → i < length ns → AllByRecursion P (if_there (slice_get xs (get_or ns i d)))
each_at P xs [] i d h lt = absurd (omega (arith, lt))
each_at P xs (n ∷ ns) zero d h lt = each_front P (if_there (slice_get xs n)) (items_at xs ns) h
each_at P xs (n ∷ ns) (suc i) d h lt = each_at P xs ns i d (each_behind P (if_there (slice_get xs n)) (items_at xs ns) h) (omega (arith, lt))

-- predicates

module _ (sources : List Source) (ss : List Setting) (normals : List Normal) where
  abbrev pub preds_left : Grammar → List Pred → List UnitPred → ℕ → Option (Grammar × List Pred)
  preds_left g made ps n = in_order (pred_made ss) (g, made) (beside (map (draft_held sources) ps) (drop n normals))

  -- a predicate whose assertions give nothing ends it
  pub preds_end : (g : Grammar) (made : List Pred) (p : UnitPred) (rest : List UnitPred) (n : ℕ) → slice_get normals n ≡ None → preds_left g made (p ∷ rest) n ≡ preds_left g made rest (n + 1)
  preds_end g made p rest n e =
      let at : AtFront None (drop n normals) (drop (suc n) normals) = subst (λ o. AtFront o (drop n normals) (drop (suc n) normals)) e (at_front normals n) in
      let same : suc n ≡ n + 1 = omega arith in
      ap (λ ms. in_order (pred_made ss) (g, made) (beside (map (draft_held sources) (p ∷ rest)) ms)) at.0
      ∙ sym (ap (in_order (pred_made ss) (g, made)) (beside_none (map (draft_held sources) rest)))
      ∙ sym (ap (λ ms. in_order (pred_made ss) (g, made) (beside (map (draft_held sources) rest) ms)) at.1)
      ∙ ap (preds_left g made rest) same

  -- one whose assertions give something
  pub preds_open : (g : Grammar) (made : List Pred) (p : UnitPred) (rest : List UnitPred) (n : ℕ) (m : Normal) → slice_get normals n ≡ Some m
      → preds_left g made (p ∷ rest) n ≡ in_order (pred_made ss) (g, made) ((draft_held sources p, m) ∷ beside (map (draft_held sources) rest) (drop (n + 1) normals))
  preds_open g made p rest n m e =
      let at : AtFront (Some m) (drop n normals) (drop (suc n) normals) = subst (λ o. AtFront o (drop n normals) (drop (suc n) normals)) e (at_front normals n) in
      let same : suc n ≡ n + 1 = omega arith in
      ap (λ ms. in_order (pred_made ss) (g, made) (beside (map (draft_held sources) (p ∷ rest)) ms)) at
      ∙ ap (λ k. in_order (pred_made ss) (g, made) ((draft_held sources p, m) ∷ beside (map (draft_held sources) rest) (drop k normals))) same

  pub preds_next : (g new : Grammar) (made : List Pred) (one : Pred) (p : UnitPred) (rest : List UnitPred) (n : ℕ) (m : Normal) → slice_get normals n ≡ Some m → pred_made ss g (draft_held sources p, m) ≡ Some (new, one)
      → preds_left g made (p ∷ rest) n ≡ preds_left new (made ++ one ∷ []) rest (n + 1)
  preds_next g new made one p rest n m e is =
      preds_open g made p rest n m e ∙ order_next (pred_made ss) (g, made) (draft_held sources p, m) (beside (map (draft_held sources) rest) (drop (n + 1) normals)) (new, one) is

  pub preds_none : (g : Grammar) (made : List Pred) (p : UnitPred) (rest : List UnitPred) (n : ℕ) (m : Normal) → slice_get normals n ≡ Some m → pred_made ss g (draft_held sources p, m) ≡ None
      → preds_left g made (p ∷ rest) n ≡ None
  preds_none g made p rest n m e is =
      preds_open g made p rest n m e ∙ order_none (pred_made ss) (g, made) (draft_held sources p, m) (beside (map (draft_held sources) rest) (drop (n + 1) normals)) is

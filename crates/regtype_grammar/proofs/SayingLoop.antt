-- A loop over terms that collects what each of them says.
use Rattle.std.proofs.Common.{◌≡◌, List, [], ◌∷◌, ◌++◌, ap, sym, ◌∙◌}
use Rattle.std.specs.Prelude.{Option, Some, None, option_map}
use Rattle.std.proofs.lemmas.List.{append_assoc}
use Rattle.term_core.specs.Operands.{before_all}
use Rattle.regtype_grammar.proofs.PartLoops.{with_nothing}

module _ {A : Type 0} where
  -- what was said before what the others say
  abbrev pub put_before : List A → Option (List A) → Option (List A)
  put_before said others = option_map (λ xs. said ++ xs) others

  pub said_turn : (said new : List A) (x : A) (o : Option A) (others : Option (List A)) → o ≡ Some x → new ≡ said ++ x ∷ [] → put_before new others ≡ put_before said (before_all o others)
  said_turn said new x o None e p = ap (λ q. put_before said (before_all q None)) (sym e)
  said_turn said new x o (Some xs) e p =
      ap (λ ys. Some (ys ++ xs)) p ∙ ap Some (append_assoc said (x ∷ []) xs) ∙ ap (λ q. put_before said (before_all q (Some xs))) (sym e)

  pub said_end : (said : List A) → Some said ≡ put_before said (Some [])
  said_end said = ap Some (with_nothing said)

  pub said_none : (said : List A) (o : Option A) (others : Option (List A)) → o ≡ None → None ≡ put_before said (before_all o others)
  said_none said o others e = ap (λ q. put_before said (before_all q others)) (sym e)

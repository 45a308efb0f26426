-- The grammar names that every program has.
use Rattle.std.specs.Prelude.{[], ◌∷◌}
use Rattle.prog_data.specs.declared.grammars.Basic.TheVariants as basic
use Rattle.prog_data.specs.declared.grammars.Rule.TheVariants.{Basic, Atom, Node, Unit as UnitRule}
use Rattle.prog_data.specs.declared.grammars.Grammar.{Grammar}
use Rattle.term_core.specs.declared.fixed.TheConstants.{NIL, CELL}
use Rattle.prog_data.specs.declared.basic_names.TheConstants.{TERM_TYPE, INT_TYPE, LIST_TYPE}

-- the names 0 to 9: term, int, nnegint, num, atm, gnd, constant, struct, callable and list
abbrev pub basic_grammar : Grammar
basic_grammar = record {
  rules =
      (Basic basic.Term ∷ []) ∷
      (Basic basic.Int ∷ []) ∷
      (Basic basic.Nnegint ∷ []) ∷
      (UnitRule INT_TYPE ∷ []) ∷
      (Basic basic.Atm ∷ []) ∷
      (Basic basic.Gnd ∷ []) ∷
      (Basic basic.Int ∷ Basic basic.Atm ∷ []) ∷
      (Basic basic.Struct ∷ []) ∷
      (Basic basic.Atm ∷ Basic basic.Struct ∷ []) ∷
      (Atom NIL ∷ Node CELL (TERM_TYPE ∷ LIST_TYPE ∷ []) ∷ []) ∷
      [];
}

-- What units are linked to, by their least fault and their program.
use Rattle.std.proofs.Common.{◌≡◌, ℕ, ◌≤◌, Bool, true, false, List, [], ◌∷◌, ◌++◌, map, length, refl, ap, sym, ◌∙◌, arith}
use Rattle.std.specs.Prelude.{cond, Option, Some, None, option_and_then}
use Rattle.term_core.specs.Lists.{IsPrefix}
use Rattle.term_core.specs.Names.{fixed_names}
use Rattle.term_core.proofs.OperandLaws.{none_part, some_part}
use Rattle.prog_data.specs.declared.programs.Program.{Program}
use Rattle.prog_data.specs.declared.refusals.Refusal.{Refusal}
use Rattle.prog_data.specs.Programs.{IsProgram, IsLinked}
use Rattle.ciao_modules.specs.UnitRanges.{AreUnitsInRange}
use Rattle.ciao_modules.specs.declared.units.Unit.{Unit as Loaded}
use Rattle.regtype_grammar.specs.Grammars.{grammar_of}
use Rattle.regtype_grammar.specs.TypeFaults.{refused}
use Rattle.regtype_grammar.specs.declared.modules.TypeFault.{TypeFault}
use Rattle.unit_scopes.specs.Imports.{type_modules}
use Rattle.unit_scopes.specs.Sayings.{File, file_of}
use Rattle.unit_scopes.specs.Settings.{settings}
use Rattle.program_link.specs.Drafts.{drafts}
use Rattle.program_link.specs.FaultOrder.{is_before, sooner, least_from, least}
use Rattle.program_link.specs.Faults.{type_faults, faults_from, all_faults}
use Rattle.program_link.specs.Linked.{Link, Linked, Refused, refusal_of, too_many, program_or, linked_by, linked}
use Rattle.program_link.specs.Programs.{normals_behind, program_by, program_of}
use Rattle.program_link.specs.declared.faults.Fault.{Fault}
use Rattle.program_link.proofs.LowerLaws.{LowerLaws}
use Rattle.program_link.proofs.ProgramGrammars.{prefix_longer}
use Rattle.program_link.proofs.ProgramRange.{program_in_range}

-- faults

-- a fault at the end is not left out
last_told : (found : Option Fault) (fs : List Fault) (f : Fault) → least_from found (fs ++ f ∷ []) ≡ None → ⊥
last_told None [] f e = none_part f (sym e)
last_told (Some a) [] f e = by (is_before f a) e
  where
    by : (b : Bool) → cond b (Some f) (Some a) ≡ None → ⊥
    by true e' = none_part f (sym e')
    by false e' = none_part a (sym e')
last_told found (g ∷ gs) f e = last_told (sooner found (Some g)) gs f e

module _ (names : List (List ℕ)) (units : List Loaded) where
  abbrev files_of : List File
  files_of = map file_of units

  -- where the types have a fault, there is a first one
  pub told_types : (fault : TypeFault) (f : Fault) → type_faults (Some fault) ≡ f ∷ [] → refused (type_modules files_of) ≡ Some fault → least (all_faults names files_of) ≡ None → grammar_of (type_modules files_of) ≡ None
  told_types fault f one refused_so none =
      absurd (last_told None (faults_from names files_of 0 files_of) f (ap (λ fs. least (faults_from names files_of 0 files_of ++ fs)) (sym one) ∙ ap (λ o. least (faults_from names files_of 0 files_of ++ type_faults o)) (sym refused_so) ∙ none))

  pub first_type_fault : (o : Option TypeFault) → refused (type_modules files_of) ≡ o → least_from None (type_faults (refused (type_modules files_of))) ≡ least (type_faults o)
  first_type_fault o e = ap (λ r. least (type_faults r)) e

  -- links

  pub linked_fault : (f : Fault) → least (all_faults names files_of) ≡ Some f → linked names units ≡ Refused (refusal_of units f)
  linked_fault f e = ap (linked_by names units files_of) e

  pub linked_program : (program : Program) → least (all_faults names files_of) ≡ None → program_of names files_of ≡ Some program → linked names units ≡ Linked program
  linked_program program none e = ap (linked_by names units files_of) none ∙ ap (program_or units) e

  pub linked_full : least (all_faults names files_of) ≡ None → program_of names files_of ≡ None → linked names units ≡ Refused (too_many units)
  linked_full none e = ap (linked_by names units files_of) none ∙ ap (program_or units) e

  -- without a grammar there is no program
  pub no_program : grammar_of (type_modules files_of) ≡ None → program_of names files_of ≡ None
  no_program e = ap (λ o. option_and_then (λ g. option_and_then (program_by names files_of) (normals_behind names (settings files_of) (g, []) (drafts files_of))) o) e

  -- ranges

  refused_is : {A : Type 0} (program : Program) (refusal : Refusal) → Refused refusal ≡ Linked program → A
  refused_is program refusal e = cc

  linked_is : (a b : Program) → Linked a ≡ Linked b → a ≡ b
  linked_is a b e = cc

  pub linked_in_range : LowerLaws → IsPrefix fixed_names names → AreUnitsInRange (length names) units → (program : Program) → linked names units ≡ Linked program → IsProgram program × IsLinked program
  linked_in_range lower begins units_are program e = by (least (all_faults names files_of)) e
    where
      made : (o : Option Program) → program_of names files_of ≡ o → program_or units o ≡ Linked program → IsProgram program × IsLinked program
      made None i e' = refused_is program (too_many units) e'
      made (Some p) i e' = program_in_range lower names units (prefix_longer fixed_names names begins) units_are program (i ∙ ap Some (linked_is p program e'))

      by : (o : Option Fault) → linked_by names units files_of o ≡ Linked program → IsProgram program × IsLinked program
      by (Some f) e' = refused_is program (refusal_of units f) e'
      by None e' = made (program_of names files_of) refl e'

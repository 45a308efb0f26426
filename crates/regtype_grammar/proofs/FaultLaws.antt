-- A loop over the types of a module, and what the first fault is.
use Rattle.std.proofs.Common.{◌≡◌, ℕ, suc, ◌+◌, ◌<◌, List, [], ◌∷◌, ◌++◌, get_or, drop, take, length, map, refl, ap, sym, ◌∙◌}
use Rattle.std.specs.Prelude.{Option, Some, None}
use Rattle.std.proofs.lemmas.List.{take_more}
use Rattle.term_core.proofs.Turns.{turn}
use Rattle.term_core.proofs.OperandLaws.{none_part, some_part}
use Rattle.prog_data.specs.declared.programs.Place.{Place}
use Rattle.regtype_grammar.specs.declared.meanings.Meaning.{Meaning}
use Rattle.regtype_grammar.specs.declared.modules.RegType.{RegType}
use Rattle.regtype_grammar.specs.declared.faults.Fault.{Fault}
use Rattle.regtype_grammar.specs.declared.faults.Kind.{Kind}
use Rattle.regtype_grammar.specs.declared.faults.Kind.TheVariants.{Shape, Name, Choice}
use Rattle.regtype_grammar.specs.declared.modules.TypeFault.{TypeFault}
use Rattle.regtype_grammar.specs.declared.modules.TypeFault.TheVariants.{BadRegtype, UnknownProperty, Ambiguous, TooManyNames, NoMemory}
use Rattle.regtype_grammar.specs.declared.modules.TypeModule.{TypeModule}
use Rattle.regtype_grammar.specs.TypeFaults.{lesser, least_from, type_faults, faults_after, module_fault, told_at, first_fault, refused}
use Rattle.regtype_grammar.specs.Grammars.{IsTypeFault}

pub least_append : (found : Option Fault) (fs gs : List (Option Fault)) → least_from found (fs ++ gs) ≡ least_from (least_from found fs) gs
least_append found [] gs = refl
least_append found (f ∷ fs) gs = least_append (lesser found f) fs gs

module _ (means : ℕ → Meaning) (file : ℕ) (types : List RegType) where
  pub types_turn : (at : ℕ) (t : RegType) (found new : Option Fault) → at < length types → t ≡ get_or types at t → new ≡ least_from found (type_faults means file (take at types) t)
      → least_from new (faults_after means file (take (at + 1) types) (drop (at + 1) types)) ≡ least_from found (faults_after means file (take at types) (drop at types))
  types_turn at t found new lt is step =
      ap (λ f. least_from f (faults_after means file (take (at + 1) types) (drop (at + 1) types))) step
      ∙ ap (λ before. least_from (least_from found (type_faults means file (take at types) t)) (faults_after means file before (drop (at + 1) types))) (take_more types at t lt ∙ ap (λ u. take at types ++ u ∷ []) (sym is))
      ∙ sym (least_append found (type_faults means file (take at types) t) (faults_after means file (take at types ++ t ∷ []) (drop (at + 1) types)))
      ∙ sym (turn (λ ts. least_from found (faults_after means file (take at types) ts)) types at t lt is)

-- a fault of a module is not that there are too many names
told_no_names : (position : ℕ) (place : Place) (kind : Kind) → told_at position place kind ≡ TooManyNames → ⊥
told_no_names position place Shape e = cc
told_no_names position place Name e = cc
told_no_names position place Choice e = cc

no_names : (position : ℕ) (fs : List (Option Fault)) → first_fault position fs ≡ Some TooManyNames → ⊥
no_names position [] e = none_part TooManyNames e
no_names position (Some f ∷ fs) e = told_no_names position f.place f.kind (some_part (told_at position f.place f.kind) TooManyNames e)
no_names position (None ∷ fs) e = no_names (suc position) fs e

pub fault_is : (modules : List TypeModule) (fault : TypeFault) → refused modules ≡ Some fault → IsTypeFault modules fault
fault_is modules (BadRegtype position place) e = e
fault_is modules (UnknownProperty position place) e = e
fault_is modules (Ambiguous position place) e = e
fault_is modules TooManyNames e = absurd (no_names 0 (map module_fault modules) e)
fault_is modules NoMemory e = tt

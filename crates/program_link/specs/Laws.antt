-- Which of some faults is told.
-- The headline does not rest on this file.
use Rattle.std.specs.Prelude.{Contains, ◌≡◌, ◌↔◌, false, List, [], Some, None}
use Rattle.std.specs.List.{AllByRecursion}
use Rattle.program_link.specs.FaultOrder.{is_before, least}
use Rattle.program_link.specs.declared.faults.Fault.{Fault}

-- a fault is one of some, and none of them comes before it
pub record IsLeast (fs : List Fault) (f : Fault) : Type 0 where
  pub among : Contains fs f
  pub first : AllByRecursion (λ g. is_before g f ≡ false) fs

-- there is none that comes first exactly where there is none, and one that comes first is so
pub record LeastIsFound : Type 0 where
  pub none : (fs : List Fault) → (least fs ≡ None) ↔ (fs ≡ [])
  pub first : (fs : List Fault) (f : Fault) → least fs ≡ Some f → IsLeast fs f

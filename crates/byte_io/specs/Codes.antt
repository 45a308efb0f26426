-- How the logic stores the reads that were made. No statement rests on it.
-- The headline does not rest on this file.
use Rattle.std.specs.Prelude.{◌≡◌, ℕ, Bool, true, false, List, Option, Result, refl}
use Rattle.std.specs.Coded.{Coded, code_by, coded×, coded_ℕ, coded_bool, coded_list, coded_option, coded_result}
use Rattle.byte_io.specs.Outside.{FileRead}
use Rattle.byte_io.specs.declared.files.FilesFault.{FilesFault}
use Rattle.byte_io.specs.declared.files.FilesFault.TheVariants.{Failed, NoMemory}

-- a fault as a truth value: there is one fault
abbrev is_failed : FilesFault → Bool
is_failed Failed = true
is_failed NoMemory = false

-- the fault of a truth value
abbrev fault_at : Bool → FilesFault
fault_at true = Failed
fault_at false = NoMemory

-- a fault is found again by its truth value
pub fault_at-is_failed : (fault : FilesFault) → fault_at (is_failed fault) ≡ fault
fault_at-is_failed Failed = refl
fault_at-is_failed NoMemory = refl

-- the code of faults, by their truth values
abbrev fault_code : Coded FilesFault
fault_code = code_by Bool coded_bool is_failed fault_at fault_at-is_failed

-- a read as the triple of its parts
abbrev pub file_read_code : Coded FileRead
file_read_code =
    code_by (List ℕ × (ℕ × Result (Option (List ℕ)) FilesFault)) (coded× (coded_list coded_ℕ) (coded× coded_ℕ (coded_result (coded_option (coded_list coded_ℕ)) fault_code)))
    (λ read. (read.name, (read.most, read.answer))) (λ parts. record { name = parts.0; most = parts.1.0; answer = parts.1.1 }) (λ _. refl)

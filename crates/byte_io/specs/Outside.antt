-- What the outside holds and takes, and when it may refuse.
use Rattle.std.specs.Prelude.{◌≡◌, ◌⊎◌, ℕ, Bool, true, ◌-◌, ◌^◌, ◌<◌, ◌≤◌, List, ◌++◌, take, Option, Some, None, option_map, Result, Ok, Err, IfOk, IsErrOf}
use Rattle.byte_io.specs.declared.files.FilesFault.{FilesFault}

-- files by name: the bytes of each that is there
abbrev pub Held : Type 0
Held = List ℕ → Option (List ℕ)

-- a count of faults rose in a call, or stands at its last value at the call's end
abbrev pub Rose : ℕ → ℕ → Type 0
Rose before now = (before < now) ⊎ (now ≡ 2 ^ 64 - 1)

-- The count did not fall, this failure is told only where it rose, and it rose only where this failure is told.
pub record HasCause {T E : Type 0} (failure : E) (before now : ℕ) (result : Result T E) : Type 0 where
  pub later : before ≤ now
  pub failed : IsErrOf result failure → Rose before now
  pub rose : before < now → IsErrOf result failure

-- where no call failed but for want of memory, the count of faults is as before, and still none will
abbrev pub StaysSteady : Bool → Bool → ℕ → ℕ → Type 0
StaysSteady was is before now = was ≡ true → (now ≡ before) × (is ≡ true)

-- what was written and then a piece, where it is told
abbrev pub grown : Option (List ℕ) → List ℕ → Option (List ℕ)
grown None piece = None
grown (Some text) piece = Some (text ++ piece)

-- a read that was made: the name and the most bytes that were asked for, and the answer
pub record FileRead : Type 0 where
  pub name : List ℕ
  pub most : ℕ
  pub answer : Result (Option (List ℕ)) FilesFault

-- these files are as the read was answered: they have the bytes that it gave, or no file of that name where it gave none
abbrev pub Agrees : Held → FileRead → Type 0
Agrees files read = IfOk read.answer (λ given. given ≡ option_map (take read.most) (files read.name))

-- the answer of a read, with the bytes of a vector as a list
abbrev pub answer_of : {V : Type 0} → (V → List ℕ) → Result (Option V) FilesFault → Result (Option (List ℕ)) FilesFault
answer_of items (Ok given) = Ok (option_map items given)
answer_of items (Err fault) = Err fault

-- a prefix of the text was taken and nothing else, and what the sink holds grew by it, where it is told
abbrev pub TookFront : List ℕ → List ℕ → Option (List ℕ) → Option (List ℕ) → List ℕ → Type 0
TookFront taken taken' written written' text = (count : ℕ) × (taken' ≡ taken ++ take count text) × (written' ≡ grown written (take count text))

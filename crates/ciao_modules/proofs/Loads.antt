-- The load, one file after another.
use Rattle.std.proofs.Common.{◌≡◌, ◌≤◌, ◌<◌, inr, ℕ, suc, List, [], ◌∷◌, ◌++◌, take, length, Some, refl, ap, sym, ◌∙◌, subst, arith, lit<}
use Rattle.std.specs.Prelude.{slice_get}
use Rattle.std.proofs.lemmas.List.{take_all, length-take, length-append}
use Rattle.byte_io.specs.Outside.{Held}
use Rattle.ciao_reader.specs.Faults as reader
use Rattle.ciao_reader.specs.declared.sentences.ReadFault.{ReadFault}
use Rattle.ciao_reader.specs.declared.sentences.ReadFault.TheVariants as fault
use Rattle.ciao_modules.specs.FileNames.{Word}
use Rattle.ciao_modules.specs.Loaded.{size_limit, text_fault, RefusesText, Unread, ReadsFile, Progress, LoadsTo, none, next}
use Rattle.ciao_modules.specs.LoadReads.{most_read}
use Rattle.ciao_modules.specs.Stages.{StopsIn, TextFails, FrontFails}
use Rattle.ciao_modules.specs.declared.units.Unit.{Unit}
use Rattle.ciao_modules.specs.declared.units.LoadFault.{LoadFault}
use Rattle.ciao_modules.specs.declared.units.LoadFault.TheVariants as load
use Rattle.ciao_modules.specs.declared.queue.Module.{Module}
use Rattle.ciao_modules.specs.declared.queue.Member.{Member}
use Rattle.ciao_modules.specs.declared.reading.LoadedFile.{LoadedFile}

-- the fault of a text is what its bytes have
pub text_fails : (names : List Word) (queue : List Member) (used : Module) (own : Word) (file : ℕ) (bytes : Word) (found : ReadFault)
    → reader.IsFaultOf bytes names found → TextFails names queue used own file bytes (text_fault file found)
text_fails names queue used own file bytes fault.NoMemory w = tt
text_fails names queue used own file bytes (fault.NotUtf8 line) w = Unread (fault.NotUtf8 line) w refl
text_fails names queue used own file bytes (fault.BadToken line) w = Unread (fault.BadToken line) w refl
text_fails names queue used own file bytes (fault.IntRange line) w = Unread (fault.IntRange line) w refl
text_fails names queue used own file bytes (fault.Syntax line) w = Unread (fault.Syntax line) w refl
text_fails names queue used own file bytes (fault.TooDeep line) w = Unread (fault.TooDeep line) w refl
text_fails names queue used own file bytes (fault.OpRefused line) w = Unread (fault.OpRefused line) w refl
text_fails names queue used own file bytes (fault.NoEnd line) w = Unread (fault.NoEnd line) w refl

-- it is told of the file
pub text_stops : (file : ℕ) (found : ReadFault) → StopsIn file (text_fault file found)
text_stops file fault.NoMemory = tt
text_stops file (fault.NotUtf8 line) = refl
text_stops file (fault.BadToken line) = refl
text_stops file (fault.IntRange line) = refl
text_stops file (fault.Syntax line) = refl
text_stops file (fault.TooDeep line) = refl
text_stops file (fault.OpRefused line) = refl
text_stops file (fault.NoEnd line) = refl

-- a front of at most so many bytes is all, and one of more is of too many
module _ (limit most : ℕ) (more : limit < most) (front whole : Word) (e : front ≡ take most whole) where
  small : length front ≤ limit → length whole ≤ limit
  small le = omega (arith, ap length e, length-take most whole, le, more)

  all_read : length front ≤ limit → front ≡ whole
  all_read le = e ∙ take_all most whole (omega (arith, small le, more))

  large : limit < length front → limit < length whole
  large lt = omega (arith, ap length e, length-take most whole, lt)

pub whole_small : (front whole : Word) → front ≡ take most_read whole → length front ≤ size_limit → length whole ≤ size_limit
whole_small front whole e le = small size_limit most_read (lit< tt) front whole e le

pub front_is_whole : (front whole : Word) → front ≡ take most_read whole → length front ≤ size_limit → front ≡ whole
front_is_whole front whole e le = all_read size_limit most_read (lit< tt) front whole e le

pub whole_large : (front whole : Word) → front ≡ take most_read whole → size_limit < length front → size_limit < length whole
whole_large front whole e lt = large size_limit most_read (lit< tt) front whole e lt

-- why few bytes give no unit
pub front_fails : (names : List Word) (queue : List Member) (used : Module) (own : Word) (file : ℕ) (bytes : Word) (f : LoadFault)
    → length bytes ≤ size_limit → TextFails names queue used own file bytes f → FrontFails names queue used own file bytes f
front_fails names queue used own file bytes (load.Refused refusal) le w =
    λ whole e. inr (whole_small bytes whole e le, subst (λ b. RefusesText names queue used own file b refusal) (front_is_whole bytes whole e le) w)
front_fails names queue used own file bytes (load.Failed other) le w = absurd w
front_fails names queue used own file bytes load.NoMemory le w = tt

module _ (held : Held) (folder : Word) where
  -- one file more
  pub loads_on : {reached first : Progress} {units : List Unit} (member : Member) (after : List Word) (loaded : LoadedFile)
      → LoadsTo held folder reached first units → slice_get reached.queue reached.at ≡ Some member → ReadsFile held folder reached.names reached.queue member after loaded
      → LoadsTo held folder (record { names = after; queue = loaded.queue; at = suc reached.at }) first (units ++ loaded.unit ∷ [])
  loads_on member after loaded (none e) is reads =
      next member after loaded (subst (λ s. slice_get s.queue s.at ≡ Some member) (sym e) is) (subst (λ s. ReadsFile held folder s.names s.queue member after loaded) (sym e) reads)
      (none (ap (λ s. record { names = after; queue = loaded.queue; at = suc s.at }) e))
  loads_on member after loaded (next m a l i r rest) is reads = next m a l i r (loads_on member after loaded rest is reads)

-- the same with the number of units
pub loads_more : (held : Held) (folder : Word) (first : Progress) (names after : List Word) (queue : List Member) (units more : List Unit) (member : Member) (loaded : LoadedFile)
    → LoadsTo held folder (record { names = names; queue = queue; at = length units }) first units → slice_get queue (length units) ≡ Some member
    → ReadsFile held folder names queue member after loaded → more ≡ units ++ loaded.unit ∷ []
    → LoadsTo held folder (record { names = after; queue = loaded.queue; at = length more }) first more
loads_more held folder first names after queue units more member loaded loads is reads e =
    let count : suc (length units) ≡ length more = omega (arith, ap length e, length-append units (loaded.unit ∷ [])) in
    subst (λ n. LoadsTo held folder (record { names = after; queue = loaded.queue; at = n }) first more) count
    (subst (λ us. LoadsTo held folder (record { names = after; queue = loaded.queue; at = suc (length units) }) first us) (sym e) (loads_on held folder member after loaded loads is reads))

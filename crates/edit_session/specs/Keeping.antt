-- What it means that the last map was kept, or wasn't, and why reading and keeping ended.
use Rattle.std.specs.Prelude.{◌≡◌, ℕ, List, [], ◌∷◌, Option}
use Rattle.outside_io.specs.Moved.{Grew, Rose}
use Rattle.outside_io.specs.Texts.{Texts}
use Rattle.edit_session.specs.Devices.{Counts, WriteCause}
use Rattle.edit_session.specs.declared.status.Which.TheVariants.{Map, Script}
use Rattle.edit_session.specs.declared.status.Status.{Status}
use Rattle.edit_session.specs.declared.status.Status.TheVariants.{Ended, Usage, ReadFault, WriteFault, MapRefused, Memory, TooLong}

-- The text was kept under the name, or nothing was.
abbrev pub Keeps : Status → List ℕ → List ℕ → Option Texts → Option Texts → Type 0
Keeps Ended out text kept now = Grew kept now ((out, text) ∷ [])
Keeps WriteFault out text kept now = now ≡ kept
Keeps Memory out text kept now = now ≡ kept
Keeps ReadFault out text kept now = ⊥
Keeps (MapRefused fault) out text kept now = ⊥
Keeps (TooLong which) out text kept now = ⊥
Keeps Usage out text kept now = ⊥

-- Only a keep that failed is a fault.
abbrev pub KeepCause : Status → ℕ → ℕ → Type 0
KeepCause WriteFault keeps keeps_now = Rose keeps keeps_now
KeepCause Ended keeps keeps_now = keeps_now ≡ keeps
KeepCause Memory keeps keeps_now = keeps_now ≡ keeps
KeepCause ReadFault keeps keeps_now = ⊥
KeepCause (MapRefused fault) keeps keeps_now = ⊥
KeepCause (TooLong which) keeps keeps_now = ⊥
KeepCause Usage keeps keeps_now = ⊥

-- Why a run whose map was opened ended.
abbrev pub ServeCause : Status → Counts → Counts → Type 0
ServeCause ReadFault before now =
    Rose before.takes now.takes
    × (now.fetches ≡ before.fetches) × (now.keeps ≡ before.keeps) × (now.gives ≡ before.gives)
ServeCause WriteFault before now = WriteCause before now
ServeCause Ended before now = now ≡ before
ServeCause Memory before now = now ≡ before
ServeCause (TooLong Script) before now = now ≡ before
ServeCause (TooLong Map) before now = ⊥
ServeCause (MapRefused fault) before now = ⊥
ServeCause Usage before now = ⊥

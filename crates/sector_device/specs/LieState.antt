-- What callers see of a device that lies about one sector.
use Rattle.std.specs.Prelude.{◌≡◌, ℕ, List, Some, slice_get, Result, OnOk, IsTrue}
use Rattle.sector_device.specs.Device.{State}
use Rattle.sector_device.specs.Lying.{lying}
use Rattle.sector_device.specs.declared.device.DeviceFault.{DeviceFault}
use Rattle.sector_device.specs.declared.lie_disk.LieDisk.{LieDisk}

-- the device inside
abbrev pub inside : {D : Type 0} → LieDisk D → D
inside lie = lie.inner

-- how many more calls come before the lie
abbrev pub calls_left : {D : Type 0} → LieDisk D → ℕ
calls_left lie = lie.calls_left

-- the sector that it lies about
abbrev pub sector : {D : Type 0} → LieDisk D → ℕ
sector lie = lie.sector

-- the bytes that it gives for that sector
abbrev pub told : {D : Type 0} → LieDisk D → List ℕ
told lie = lie.told

-- a read of this sector is answered by the lie
abbrev pub Lies : {D : Type 0} → LieDisk D → ℕ → Type 0
Lies lie n = (calls_left lie ≡ 0) × (n ≡ sector lie)

-- A call leaves what it lies about.
pub record SameLie {D : Type 0} (old new : LieDisk D) : Type 0 where
  pub sector : sector new ≡ sector old
  pub told : told new ≡ told old

-- the device inside, but not honest; its calls are those that were made of this one
abbrev pub lie_state : {D : Type 0} → (D → State) → LieDisk D → State
lie_state state lie = lying (state lie.inner) lie.made.made

-- What a read gives: the lie, where this is what it lies about, and else what the device inside has.
pub record TellsLie {D T : Type 0} (state : D → State) (lie : LieDisk D) (n : ℕ) (bytes : List ℕ) (result : Result T DeviceFault) : Type 0 where
  pub lies : Lies lie n → OnOk result (bytes ≡ told lie)
  pub passes : (Lies lie n → ⊥) → IsTrue (state (inside lie)).honest → OnOk result (slice_get (state (inside lie)).disk.view n ≡ Some bytes)
